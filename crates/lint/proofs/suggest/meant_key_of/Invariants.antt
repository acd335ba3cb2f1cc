use Rattle.edn_reader.specs.Lent.{bytes_left}
use Rattle.lint.proofs.suggest.meant_key_of.Given as goal

abbrev pub decreases-loop-key : goal.decreases-loop-key
decreases-loop-key l = bytes_left l.left
