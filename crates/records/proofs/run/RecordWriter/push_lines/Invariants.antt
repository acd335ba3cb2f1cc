-- the lines so far and those that are left are the log's
use Rattle.std.proofs.Common.{◌≡◌, ◌++◌, drop, map}
use Rattle.records.specs.Run.{line_record, lines_of}
use Rattle.records.proofs.run.RecordWriter.push_lines.Given as goal

abbrev pub invariant-loop-line : goal.invariant-loop-line
invariant-loop-line l = l.text.items ++ lines_of l.self.notation (map (line_record l.self.places.now l.tower.registers l.feeder) (drop l.line-index l.lines)) ≡ l.fn.text.items ++ lines_of l.fn.self.notation (map (line_record l.fn.self.places.now l.fn.tower.registers l.fn.feeder) l.fn.lines)
