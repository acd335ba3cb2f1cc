-- the tower so far is what the levels gone over give
use Rattle.edn_reader.specs.Lent.{members_left}
use Rattle.tower_file.specs.Form.{IsLevel}
use Rattle.tower_file.specs.Reading.{level_after}
use Rattle.tower_file.specs.Views.{contents_with}
use Rattle.tower_file.proofs.Loops.{After}
use Rattle.tower_file.proofs.level.read_levels.Given as goal

abbrev pub invariant-loop-element : goal.invariant-loop-element
invariant-loop-element l = After IsLevel level_after l.view (contents_with l.fn.levels l.fn.registers) l.left (contents_with l.levels l.registers)

abbrev pub decreases-loop-element : goal.decreases-loop-element
decreases-loop-element l = members_left l.left
