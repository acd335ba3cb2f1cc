-- the lines so far and those of the slots left are those of all
use Rattle.std.proofs.Common.{◌≡◌, ◌++◌, drop, string_bytes}
use Rattle.std.specs.List.{flat_map}
use Rattle.register_book.specs.Fault.{ops_in_roles}
use Rattle.report.specs.Section.{part_lines}
use Rattle.report.proofs.section.push_ops.Given as goal

abbrev pub invariant-loop-slot : goal.invariant-loop-slot
invariant-loop-slot l = string_bytes l.text ++ flat_map part_lines (ops_in_roles (drop l.slot-index l.slots)) ≡ string_bytes l.fn.text ++ flat_map part_lines (ops_in_roles l.fn.slots)
