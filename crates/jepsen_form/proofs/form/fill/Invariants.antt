use Rattle.edn_reader.specs.Lent.{bytes_left}
use Rattle.jepsen_form.proofs.Loops.{Found}
use Rattle.jepsen_form.proofs.form.fill.Given as goal

abbrev pub invariant-loop-key : goal.invariant-loop-key
invariant-loop-key l = Found l.fn.map l.chosen l.left l.form

abbrev pub decreases-loop-key : goal.decreases-loop-key
decreases-loop-key l = bytes_left l.left
