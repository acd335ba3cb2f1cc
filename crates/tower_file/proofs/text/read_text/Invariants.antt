-- what was found says whether no element, one or more are before the reader's place
use Rattle.std.proofs.Common.{◌≡◌, ◌≤◌, ◌-◌, length}
use Rattle.tower_file.proofs.Texts.{IsFoundUpTo}
use Rattle.tower_file.proofs.text.read_text.Given as goal

abbrev pub invariant-loop-element : goal.invariant-loop-element
invariant-loop-element l = record {
  input : l.reader.input ≡ l.bytes;
  within : l.reader.at ≤ length l.bytes;
  found : IsFoundUpTo l.bytes l.reader.at l.found;
}

abbrev pub decreases-loop-element : goal.decreases-loop-element
decreases-loop-element l = length l.bytes - l.reader.at
