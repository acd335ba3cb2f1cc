-- the values so far are those of the elements that were gone over
use Rattle.edn_reader.specs.Lent.{members_left}
use Rattle.tower_file.specs.Reading.{domain_value}
use Rattle.tower_file.proofs.Loops.{SoFar}
use Rattle.tower_file.proofs.said.values_of.Given as goal

abbrev pub invariant-loop-element : goal.invariant-loop-element
invariant-loop-element l = SoFar domain_value l.view l.left l.values.items

abbrev pub decreases-loop-element : goal.decreases-loop-element
decreases-loop-element l = members_left l.left
