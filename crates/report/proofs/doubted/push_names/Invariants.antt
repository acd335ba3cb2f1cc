-- the names so far and those of the registers that are left are theirs
use Rattle.std.proofs.Common.{◌≡◌, ◌++◌, drop, string_bytes}
use Rattle.std.specs.List.{flat_map}
use Rattle.report.specs.Doubted.{doubted_name}
use Rattle.report.proofs.doubted.push_names.Given as goal

abbrev pub invariant-loop-id : goal.invariant-loop-id
invariant-loop-id l = string_bytes l.text ++ flat_map (doubted_name l.tower.registers l.doubts) (drop l.id-index l.ids) ≡ string_bytes l.fn.text ++ flat_map (doubted_name l.fn.tower.registers l.fn.doubts) l.fn.ids
