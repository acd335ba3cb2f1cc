-- none of the pairs that were gone over is under the key
use Rattle.edn_reader.specs.Lent.{bytes_left}
use Rattle.tower_file.proofs.Locating.{Passed}
use Rattle.tower_file.proofs.locate.next_under.Given as goal

abbrev pub invariant-loop-name : goal.invariant-loop-name
invariant-loop-name l = Passed l.key l.fn.view l.view

abbrev pub decreases-loop-name : goal.decreases-loop-name
decreases-loop-name l = bytes_left l.view
