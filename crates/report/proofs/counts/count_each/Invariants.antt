-- the counts so far are those of the registers so far
use Rattle.std.proofs.Common.{◌≡◌, ◌≤◌, length, map}
use Rattle.std.specs.List.{range_with_len}
use Rattle.report.specs.Counts.{standing_in}
use Rattle.report.proofs.counts.count_each.Given as goal

abbrev pub invariant-loop-number : goal.invariant-loop-number
invariant-loop-number l = record {
  within : l.number ≤ length l.tower.registers;
  counted : l.each.items ≡ map (standing_in l.closed) (range_with_len 0 l.number);
}
