use Rattle.std.proofs.Common.{map, refl}
use Rattle.shards.specs.Shard.{held_of}
use Rattle.shards.proofs.Unfit.{fit_more, held_at}
use Rattle.shards.proofs.fitting.first_unfit.Goals as goal

pub returns-in-Some-clause-unfit : goal.returns-in-Some-clause-unfit
returns-in-Some-clause-unfit g c = (
  (held_of c.index-shards-place.result, held_at c.args.shards.now c.loop-place.place c.index-shards-place.result c.loop-place-test.true c.index-shards-place.is, c.in-Some.ensures.unfit),
  λ lesser shard low. c.loop-place.invariant.fit lesser low shard,
)

pub loop-place-preserved : goal.loop-place-preserved
loop-place-preserved g c =
    fit_more c.args.passes.now (map held_of c.args.shards.now) c.loop-place.place (held_of c.index-shards-place.result)
    (held_at c.args.shards.now c.loop-place.place c.index-shards-place.result c.loop-place-test.true c.index-shards-place.is)
    (c.in_default.ensures.none refl) (c.in_default.ensures.rises refl) c.loop-place.invariant
