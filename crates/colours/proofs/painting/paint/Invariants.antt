-- what is shown so far is the text up to here, painted
use Rattle.std.proofs.Common.{length, ◌-◌, ◌≤◌, take}
use Rattle.colours.specs.Painted.{IsPainted}
use Rattle.colours.proofs.painting.paint.Given as goal

abbrev pub invariant-loop-at : goal.invariant-loop-at
invariant-loop-at l = record {
  within : l.at ≤ length l.text;
  painted : IsPainted (take l.at l.text) l.painted.items;
}

abbrev pub decreases-loop-at : goal.decreases-loop-at
decreases-loop-at l = length l.text - l.at
