-- the lines so far and those of the registers that are left are the lines of the tower
use Rattle.std.proofs.Common.{◌≡◌, ◌≤◌, ◌++◌, drop, length, string_bytes}
use Rattle.report.specs.Listing.{register_lines_from, tower_lines}
use Rattle.report.proofs.listing.tower_text.Given as goal

abbrev pub invariant-loop-number : goal.invariant-loop-number
invariant-loop-number l = record {
  number : l.number ≤ length l.tower.registers;
  lines : string_bytes l.text ++ register_lines_from l.tower.levels l.number (drop l.number l.tower.registers) ≡ tower_lines l.tower;
}
