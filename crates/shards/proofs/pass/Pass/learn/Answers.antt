use Rattle.std.proofs.Common.{◌≡◌, length, rules}
use Rattle.shards.proofs.InStep.{in_step_learnt}
use Rattle.shards.proofs.pass.Pass.learn.Goals as goal

pub invariant_of-self : goal.invariant_of-self
invariant_of-self c =
    let many : length c.self.inside.seen.farthest ≡ length c.args.seen.now.farthest = search rules in
    rw c.join.ensures (in_step_learnt _ c.self.inside.seen.farthest c.args.seen.now.farthest c.self.invariant many)
