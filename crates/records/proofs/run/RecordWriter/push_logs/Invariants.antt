-- the lines so far and those of the logs that are left are those of all
use Rattle.std.proofs.Common.{◌≡◌, ◌≤◌, ◌++◌, drop, length}
use Rattle.records.specs.Run.{lines_of, logs_records}
use Rattle.records.proofs.run.RecordWriter.push_logs.Given as goal

abbrev pub invariant-loop-feeder : goal.invariant-loop-feeder
invariant-loop-feeder l = record {
  within : l.feeder ≤ length l.logs;
  lines : l.text.items ++ lines_of l.self.notation (logs_records l.self.places.now l.tower.registers l.feeder (drop l.feeder l.logs)) ≡ l.fn.text.items ++ lines_of l.fn.self.notation (logs_records l.fn.self.places.now l.fn.tower.registers 0 l.fn.logs);
}
