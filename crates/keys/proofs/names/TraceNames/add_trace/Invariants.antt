-- what is named says what the elements before the reader's place do
use Rattle.std.proofs.Common.{◌≡◌, ◌≤◌, ◌-◌, length}
use Rattle.keys.proofs.Adding.{AddedUpTo}
use Rattle.keys.proofs.names.TraceNames.add_trace.Given as goal

abbrev pub invariant-loop-element : goal.invariant-loop-element
invariant-loop-element l = record {
  input : l.reader.input ≡ l.text;
  within : l.reader.at ≤ length l.text;
  added : AddedUpTo l.initial.self l.text l.reader.at l.self;
}

abbrev pub decreases-loop-element : goal.decreases-loop-element
decreases-loop-element l = length l.text - l.reader.at
