use Rattle.shards.proofs.Passes.{none_of}
use Rattle.shards.proofs.fitting.pass_of.Goals as goal

pub returns-clause-none : goal.returns-clause-none
returns-clause-none c = λ _. none_of c.args.passes.now c.args.feeder c.loop-pass.pass-index c.loop-pass-test.false c.loop-pass.invariant
