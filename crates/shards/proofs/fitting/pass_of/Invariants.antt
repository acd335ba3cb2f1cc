-- no pass so far is the feeder's
use Rattle.std.proofs.Common.{◌≢◌}
use Rattle.std.specs.List.{AllWithin}
use Rattle.shards.proofs.fitting.pass_of.Given as goal

abbrev pub invariant-loop-pass : goal.invariant-loop-pass
invariant-loop-pass l = AllWithin (λ pass. pass.feeder ≢ l.feeder) l.passes 0 l.pass-index
