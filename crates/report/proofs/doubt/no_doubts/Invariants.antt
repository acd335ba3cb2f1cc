-- as many registers as were counted, of each of which nothing was left out
use Rattle.std.proofs.Common.{◌≡◌, ℕ, [], length}
use Rattle.report.specs.Doubt.{left_out_at, rests_at}
use Rattle.report.proofs.doubt.no_doubts.Given as goal

abbrev pub invariant-loop : goal.invariant-loop
invariant-loop l = record {
  many : length l.doubts.items ≡ l.index;
  left_out : (number : ℕ) → left_out_at l.doubts.items number ≡ [];
  rests_on : (number : ℕ) → rests_at l.doubts.items number ≡ [];
}
