-- the lines so far and those that are left are the log's
use Rattle.std.proofs.Common.{◌≡◌, ◌++◌, drop, string_bytes}
use Rattle.std.specs.List.{flat_map}
use Rattle.report.specs.Notes.{note_line}
use Rattle.report.proofs.notes.push_log.Given as goal

abbrev pub invariant-loop-line : goal.invariant-loop-line
invariant-loop-line l = string_bytes l.text ++ flat_map (note_line l.tower.registers l.feeder) (drop l.line-index l.fn.log.lines.items) ≡ string_bytes l.fn.text ++ flat_map (note_line l.fn.tower.registers l.fn.feeder) l.fn.log.lines.items
