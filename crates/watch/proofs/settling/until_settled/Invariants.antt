-- what is pushed so far and what is left to push are all
use Rattle.std.proofs.Common.{◌≡◌, ◌++◌, ◌+◌, drop, map}
use Rattle.watch.specs.declared.settling.FeederProgress.{FeederProgress}
use Rattle.records.specs.Run.{at_most_u64}
use Rattle.watch.proofs.settling.until_settled.Given as goal

abbrev pub invariant-loop-one : goal.invariant-loop-one
invariant-loop-one l = l.until.items ++ map (λ (one : FeederProgress). at_most_u64 (one.taken + l.settle)) (drop l.one-index l.progress) ≡ map (λ (one : FeederProgress). at_most_u64 (one.taken + l.fn.settle)) l.fn.progress
