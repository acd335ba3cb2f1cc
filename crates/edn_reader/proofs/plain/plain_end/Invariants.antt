use Rattle.std.proofs.Common.{length, ◌-◌, ◌≤◌}
use Rattle.edn_reader.specs.Taking.{LeadsWithin}
use Rattle.edn_reader.proofs.plain.plain_end.Given as goal

abbrev pub invariant-loop-at : goal.invariant-loop-at
invariant-loop-at l = record {
  within : l.at ≤ length l.input;
  after : l.from ≤ l.at;
  leads : LeadsWithin l.input l.from l.odd_before l.at l.odd;
}

abbrev pub decreases-loop-at : goal.decreases-loop-at
decreases-loop-at l = length l.input - l.at
