-- what is written so far fits what comes next
use Rattle.std.proofs.Common.{◌≤◌, ◌++◌, ℕ, List, drop, length}
use Rattle.excerpt.specs.Excerpt.{AreParts}
use Rattle.excerpt.proofs.excerpt.parts_of.Given as goal

abbrev pub invariant-loop-number : goal.invariant-loop-number
invariant-loop-number l = record {
  within : l.number ≤ length l.findings;
  so_far : (rest : List ℕ) → AreParts l.moments l.tower l.closed l.number (drop l.number l.findings) rest → AreParts l.moments l.tower l.closed 0 l.findings (l.text.items ++ rest);
}
