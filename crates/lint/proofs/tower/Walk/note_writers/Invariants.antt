use Rattle.edn_reader.specs.Lent.{members_left}
use Rattle.lint.proofs.tower.Walk.note_writers.Given as goal

abbrev pub decreases-loop-writer : goal.decreases-loop-writer
decreases-loop-writer l = members_left l.writers
