-- the first of the logs that are left is the first of all
use Rattle.std.proofs.Common.{◌≡◌, ◌≤◌, drop, length}
use Rattle.report.specs.Refused.{first_refused}
use Rattle.report.proofs.refused.first_refused.Given as goal

abbrev pub invariant-loop-feeder : goal.invariant-loop-feeder
invariant-loop-feeder l = record {
  within : l.feeder ≤ length l.logs;
  first : first_refused l.code l.feeder (drop l.feeder l.logs) ≡ first_refused l.fn.code 0 l.fn.logs;
}
