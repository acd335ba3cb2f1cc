-- the places so far and those among the operations left are all places
use Rattle.std.proofs.Common.{◌≡◌, ◌≤◌, ◌++◌, drop, length}
use Rattle.timeline.specs.Choice.{places_of}
use Rattle.timeline.proofs.choice.places_of.Given as goal

abbrev pub invariant-loop-place : goal.invariant-loop-place
invariant-loop-place l = record {
  within : l.place ≤ length l.ops;
  rest : l.places.items ++ places_of l.ids l.place (drop l.place l.ops) ≡ places_of l.ids 0 l.ops;
}
