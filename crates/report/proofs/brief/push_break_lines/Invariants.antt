-- the lines so far and those of the traces that are left are theirs
use Rattle.std.proofs.Common.{◌≡◌, ◌++◌, drop, string_bytes}
use Rattle.std.specs.List.{flat_map}
use Rattle.report.specs.Summary.{break_line}
use Rattle.report.proofs.brief.push_break_lines.Given as goal

abbrev pub invariant-loop-feeder : goal.invariant-loop-feeder
invariant-loop-feeder l = string_bytes l.text ++ flat_map (break_line l.logs) (drop l.feeder-index l.feeders) ≡ string_bytes l.fn.text ++ flat_map (break_line l.fn.logs) l.fn.feeders
