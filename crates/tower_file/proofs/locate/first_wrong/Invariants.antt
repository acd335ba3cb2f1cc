-- none of the elements gone over is wrong
use Rattle.edn_reader.specs.Lent.{piece_of, members_left}
use Rattle.tower_file.specs.Located.{is_wrong}
use Rattle.tower_file.proofs.Locating.{NoneWrong}
use Rattle.tower_file.proofs.locate.first_wrong.Given as goal

abbrev pub invariant-loop-element : goal.invariant-loop-element
invariant-loop-element l = NoneWrong (is_wrong l.fault l.first l.registers) (piece_of l.whole) l.view l.left

abbrev pub decreases-loop-element : goal.decreases-loop-element
decreases-loop-element l = members_left l.left
