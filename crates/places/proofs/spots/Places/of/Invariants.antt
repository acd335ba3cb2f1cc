-- the spots so far are those of the texts so far
use Rattle.std.proofs.Common.{take, map}
use Rattle.std.specs.List.{AllZip}
use Rattle.places.specs.Spots.{AreSpotsOf}
use Rattle.places.proofs.spots.Places.of.Given as goal

abbrev pub invariant-loop-text : goal.invariant-loop-text
invariant-loop-text l = AllZip AreSpotsOf (map (λ text. text.items) (take l.text-index l.texts)) (map (λ spots. spots.items) l.spots.items)
