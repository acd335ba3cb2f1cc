use Rattle.std.proofs.Common.{length, ◌-◌, ◌≤◌}
use Rattle.edn_reader.specs.Skipping.{HasToken}
use Rattle.edn_reader.proofs.Skipping.{TagsLeft}
use Rattle.edn_reader.proofs.lookahead.after_tags.Given as goal

abbrev pub invariant-loop-front : goal.invariant-loop-front
invariant-loop-front l = record {
  present : HasToken l.bytes l.front;
  after : l.fn.first.at ≤ l.front.at;
  left : TagsLeft l.bytes l.fn.first.at l.front.at;
}

abbrev pub decreases-loop-front : goal.decreases-loop-front
decreases-loop-front l = length l.bytes - l.front.at
