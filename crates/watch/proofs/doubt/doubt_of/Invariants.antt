-- what is pushed so far and what is left to push are all
use Rattle.std.proofs.Common.{◌≡◌, ◌++◌, drop, map}
use Rattle.watch.specs.Doubt.{element_place}
use Rattle.watch.proofs.Doubting.{rested_places}
use Rattle.watch.proofs.doubt.doubt_of.Given as goal

abbrev pub invariant-loop-element : goal.invariant-loop-element
invariant-loop-element l =
    (l.doubt.left_out.items ++ map element_place (drop l.element-index l.left) ≡ map element_place l.fn.left)
    × (l.doubt.rests_on.items ++ rested_places l.fn.change (drop l.element-index l.left) ≡ rested_places l.fn.change l.fn.left)
