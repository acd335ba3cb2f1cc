use Rattle.std.proofs.Common.{eqb-true, sym}
use Rattle.std.proofs.lemmas.Bool.{false≢true}
use Rattle.std.proofs.lemmas.Option.{get_or_from_slice_get, slice_get_within}
use Rattle.shards.specs.Pass.{own_entries}
use Rattle.shards.specs.Steps.{numbered_entry}
use Rattle.shards.proofs.Starts.{among_there, none_past, past_of}
use Rattle.shards.proofs.closing.is_told.Goals as goal

pub returns-then-own-number : goal.returns-then-own-number
returns-then-own-number c =
    let own = own_entries c.args.pass.now c.args.shard in
    let at = sym c.in-Some.ensures.entry in
    let there = among_there own c.args.start c.in-Some.own (numbered_entry c.args.number c.args.entry.now) c.in-Some.ensures.rises c.requires (slice_get_within own c.args.start c.in-Some.own at) (sym (get_or_from_slice_get own c.args.start c.in-Some.own c.in-Some.own at)) in
    (λ same. there.0 (c.if-own-number.true, c.is_same.ensures.0 same), λ among. c.is_same.ensures.1 (there.1 among).1)

pub returns-else-own-number : goal.returns-else-own-number
returns-else-own-number c =
    let own = own_entries c.args.pass.now c.args.shard in
    let at = sym c.in-Some.ensures.entry in
    let there = among_there own c.args.start c.in-Some.own (numbered_entry c.args.number c.args.entry.now) c.in-Some.ensures.rises c.requires (slice_get_within own c.args.start c.in-Some.own at) (sym (get_or_from_slice_get own c.args.start c.in-Some.own c.in-Some.own at)) in
    (λ same. absurd (c.if-own-number.false (eqb-true _ _ same)), λ among. absurd (c.if-own-number.false (there.1 among).0))

pub returns-in-None : goal.returns-in-None
returns-in-None c = (
  λ never. absurd (false≢true never),
  λ among. absurd (none_past (own_entries c.args.pass.now c.args.shard) c.args.start (numbered_entry c.args.number c.args.entry.now) c.in-None.ensures.rises c.requires (past_of (own_entries c.args.pass.now c.args.shard) c.args.start c.in-None.ensures.entry) among),
)
