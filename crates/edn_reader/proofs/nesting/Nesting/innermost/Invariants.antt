use Rattle.std.proofs.Common.{◌≡◌, ◌≤◌, length, take, reverse}
use Rattle.edn_reader.specs.Fault.{innermost}
use Rattle.edn_reader.proofs.nesting.Nesting.innermost.Given as goal

abbrev pub invariant-loop-left : goal.invariant-loop-left
invariant-loop-left l = record {
  within : l.left ≤ length l.around;
  same : innermost (reverse (take l.left l.around)) ≡ innermost (reverse l.around);
}

abbrev pub decreases-loop-left : goal.decreases-loop-left
decreases-loop-left l = l.left
