-- there is a step for each mark so far, and those after the first are positive
use Rattle.std.specs.Prelude.{All}
use Rattle.std.proofs.Common.{◌≡◌, ◌≤◌, ◌<◌, ℕ, drop, length}
use Rattle.show.proofs.measure.steps_of.Given as goal

abbrev pub invariant-loop-number : goal.invariant-loop-number
invariant-loop-number l = record {
  within : l.number ≤ length l.scene.marks.items;
  many : length l.steps.items ≡ l.number;
  positive : 0 < l.measure.gap → All (λ (step : ℕ). 0 < step) (drop 1 l.steps.items);
}
