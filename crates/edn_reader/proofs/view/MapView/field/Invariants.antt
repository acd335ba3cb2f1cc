use Rattle.edn_reader.specs.Lent.{bytes_left}
use Rattle.edn_reader.proofs.Views.{Seen}
use Rattle.edn_reader.proofs.view.MapView.field.Given as goal

abbrev pub invariant-loop-name : goal.invariant-loop-name
invariant-loop-name l = Seen l.fn.self l.view l.key l.found

abbrev pub decreases-loop-name : goal.decreases-loop-name
decreases-loop-name l = bytes_left l.view
