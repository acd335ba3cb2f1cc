use Rattle.edn_reader.specs.Lent.{members_left}
use Rattle.lint.proofs.writers.writers_on.Given as goal

abbrev pub decreases-loop-register : goal.decreases-loop-register
decreases-loop-register l = members_left l.registers
