use Rattle.std.proofs.Common.{refl, arith}
use Rattle.shards.proofs.KeptJournals.{are_of_plan}
use Rattle.shards.proofs.Merged.{settled}
use Rattle.shards.proofs.closing.closing_fault.Goals as goal

pub returns-in_err-shard-clause-none : goal.returns-in_err-shard-clause-none
returns-in_err-shard-clause-none g c = λ none.
    settled _ c.args.passes.now c.args.shards.now (are_of_plan _ c.args.shards.now c.requires.kept) (c.in_default-first_unfit.ensures.none refl) (c.in_default-first_unfit.ensures.rises refl) (c.in_err-shard.ensures.none refl)

pub returns-clause-fault : goal.returns-clause-fault
returns-clause-fault g c =
    (c.if-not-are_its_passes.ensures.0 refl, c.in_default.ensures.none refl, c.in_default-first_unfit.ensures.none refl, (c.in_ok-shard.known, c.in_ok-shard.ensures.stranger, refl, refl))

pub first_stranger-requires-clause-few : goal.first_stranger-requires-clause-few
first_stranger-requires-clause-few g c = λ k d within.
    let below = ((c.if-not-are_its_passes.ensures.0 refl).each k d within).2 in
    let few = c.requires.few in
    omega (arith, below, few)
