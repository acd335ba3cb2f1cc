use Rattle.std.proofs.Common.{arith}
use Rattle.shards.specs.Shard.{IsOwned}
use Rattle.shards.proofs.Starts.{starts_more, starts_new}
use Rattle.shards.proofs.Strangers.{lesser_more, lesser_all, first_stranger_from}
use Rattle.shards.proofs.closing.stranger_in.Goals as goal

pub loop-number-init : goal.loop-number-init
loop-number-init c = (λ k d within less. absurd (omega (arith, less)), starts_new c.args.passes.now c.args.place 256)

pub returns-then-not-is_owned-clause-stranger : goal.returns-then-not-is_owned-clause-stranger
returns-then-not-is_owned-clause-stranger c = first_stranger_from _ _ _ _ _ (omega arith) c.loop-number.invariant.0 c.if-not-is_owned.ensures.owned

pub loop-number-preserved : goal.loop-number-preserved
loop-number-preserved c = (
  lesser_more _ _ (IsOwned c.args.passes.now c.args.place) _ c.loop-number.invariant.0 c.if-not-is_owned.ensures.owned,
  starts_more c.args.passes.now c.args.place c.loop-number.number c.is_owned.new.starts c.is_owned.ensures.starts,
)

pub returns-clause-none : goal.returns-clause-none
returns-clause-none c = λ e. lesser_all _ _ (IsOwned c.args.passes.now c.args.place) (omega arith) c.loop-number.invariant.0
