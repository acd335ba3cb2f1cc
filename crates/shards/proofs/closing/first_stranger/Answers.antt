use Rattle.std.proofs.Common.{List, refl, subst, arith}
use Rattle.std.proofs.lemmas.List.{length-map}
use Rattle.std.proofs.lemmas.Option.{slice_get_within}
use Rattle.shards.specs.declared.entry.Entry.{Entry}
use Rattle.shards.specs.Closing.{IsFirstStranger}
use Rattle.shards.specs.Shard.{AreOwned, held_of}
use Rattle.shards.proofs.Unfit.{held_at}
use Rattle.shards.proofs.Strangers.{shards_more, no_strangers_from}
use Rattle.shards.proofs.closing.first_stranger.Goals as goal

pub returns-in-Some-clause-stranger : goal.returns-in-Some-clause-stranger
returns-in-Some-clause-stranger g c =
    let shard = c.index-shards-place.result in
    let first = subst (λ (journal : List Entry). IsFirstStranger c.args.passes.now c.loop-place.place journal c.in-Some.known) c.kept.ensures c.in-Some.ensures.stranger in (
      (held_of shard, held_at c.args.shards.now c.loop-place.place shard c.loop-place-test.true c.index-shards-place.is, first),
      λ lesser held less e. no_strangers_from c.args.passes.now lesser held.journal (c.loop-place.invariant lesser held less e),
    )

pub loop-place-preserved : goal.loop-place-preserved
loop-place-preserved g c =
    let shard = c.index-shards-place.result in
    let owned = subst (λ (journal : List Entry). AreOwned c.args.passes.now c.loop-place.place journal) c.kept.ensures (c.in_default.ensures.none refl) in
    shards_more (λ place held. AreOwned c.args.passes.now place held.journal) _ c.loop-place.place (held_of shard)
    (held_at c.args.shards.now c.loop-place.place shard c.loop-place-test.true c.index-shards-place.is) owned c.loop-place.invariant

pub returns-clause-none : goal.returns-clause-none
returns-clause-none g c = λ none place held e.
    c.loop-place.invariant place held (let l = slice_get_within _ place held e in
    let m = length-map c.args.shards.now held_of in
    omega arith) e
