-- the lines so far and those of the logs that are left are those of all
use Rattle.std.proofs.Common.{◌≡◌, ◌≤◌, ◌++◌, drop, length, string_bytes}
use Rattle.report.specs.Notes.{logs_text}
use Rattle.report.proofs.notes.push_logs.Given as goal

abbrev pub invariant-loop-feeder : goal.invariant-loop-feeder
invariant-loop-feeder l = record {
  within : l.feeder ≤ length l.logs;
  lines : string_bytes l.text ++ logs_text l.tower.registers l.feeder (drop l.feeder l.logs) ≡ string_bytes l.fn.text ++ logs_text l.fn.tower.registers 0 l.fn.logs;
}
