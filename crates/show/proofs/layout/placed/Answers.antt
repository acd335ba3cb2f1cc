use Rattle.std.proofs.Common.{rules}
use Rattle.show.proofs.layout.placed.Goals as goal

pub returns : goal.returns
returns c = record {
  steps = c.in_ok-steps.steps.items;
  wants = c.in_ok-wants.wants.items;
  others = c.in_ok-wants.ensures.labels.0;
  many = search rules;
  as_many = search rules;
  apart = search rules;
  rising = c.in_ok-places.ensures.rising;
  positive = c.in_ok-steps.ensures.positive;
  of_labels = c.in_ok-wants.ensures.labels.1;
  kept = c.in_ok-places.ensures.kept;
}
