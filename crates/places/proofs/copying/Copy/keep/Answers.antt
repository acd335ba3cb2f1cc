use Rattle.std.proofs.Common.{rules, ◌≡◌, ◌++◌, length, ℕ, subst}
use Rattle.places.specs.Copied.{IsNextIn}
use Rattle.places.proofs.Copied.{more_kept}
use Rattle.places.proofs.copying.Copy.keep.Goals as goal

pub invariant_of-self-2 : goal.invariant_of-self-2
invariant_of-self-2 g c =
    let many : length c.self.inside.bytes.items ≡ c.args.given = search rules in
    let same : c.args.number ≡ c.self.inside.number = search rules in
    let next : IsNextIn g.B.Originals.texts c.self.inside.number c.args.given c.args.bytes.now c.args.ended = subst (λ (number : ℕ). IsNextIn g.B.Originals.texts number c.args.given c.args.bytes.now c.args.ended) same c.requires.next in
    let is : c.extend_from_slice.new.self.items ≡ c.self.inside.bytes.items ++ c.args.bytes.now = search rules in
    more_kept g.B.Originals.texts c.self.inside.number c.args.given c.self.inside.bytes.items c.args.bytes.now c.extend_from_slice.new.self.items c.self.inside.ended c.args.ended c.self.invariant many next is
