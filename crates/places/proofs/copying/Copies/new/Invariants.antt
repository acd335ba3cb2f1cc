-- as many copies as were made
use Rattle.std.proofs.Common.{◌≡◌, ◌≤◌, vec_len}
use Rattle.places.proofs.copying.Copies.new.Given as goal

abbrev pub invariant-loop-number : goal.invariant-loop-number
invariant-loop-number g l = record {
  many : vec_len l.copies ≡ l.number;
  within : l.number ≤ l.texts;
}
