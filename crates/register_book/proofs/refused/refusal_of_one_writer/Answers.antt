use Rattle.std.proofs.Common.{◌≡◌, ◌≢◌, true, None, refl, rules, subst, sym}
use Rattle.intervals.specs.declared.claim.Kind.TheVariants.{Atomic}
use Rattle.intervals.specs.Refusal.{first_overlap, is_one_writer}
use Rattle.intervals.specs.Standing.{HasDistinctMoments}
use Rattle.register_book.specs.Judge.{held_by}
use Rattle.register_book.proofs.refused.refusal_of_one_writer.Goals as goal

pub returns-then-ne : goal.returns-then-ne
returns-then-ne c =
    let held = held_by c.args.judge.now in
    let other : held.claim.kind ≢ Atomic = search rules in
    let one : is_one_writer held.claim.writers ≡ true = search rules in
    let none : first_overlap held.ops ≡ None = (c.first_overlap_began_first.ensures.none held.ops c.requires.ids).1 (c.requires.writes other) in
    let known : held.claim.known ≡ true = search rules in
    rw (one, known, none) refl

pub first_overlap-requires-clause-moments : goal.first_overlap-requires-clause-moments
first_overlap-requires-clause-moments c =
    let same : c.operations.result.now.ops ≡ (held_by c.args.judge.now).ops = search rules in
    subst HasDistinctMoments (sym same) c.requires.moments
