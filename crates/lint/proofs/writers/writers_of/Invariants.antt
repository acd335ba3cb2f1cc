use Rattle.edn_reader.specs.Lent.{members_left}
use Rattle.lint.proofs.writers.writers_of.Given as goal

abbrev pub decreases-loop-level : goal.decreases-loop-level
decreases-loop-level l = members_left l.levels
