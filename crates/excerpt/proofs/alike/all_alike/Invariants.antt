-- the findings of the first numbers are alike
use Rattle.std.proofs.Common.{◌≤◌, length, take}
use Rattle.std.specs.List.{AllZip}
use Rattle.excerpt.specs.Excerpt.{AreAlike}
use Rattle.excerpt.proofs.alike.all_alike.Given as goal

abbrev pub invariant-loop-number : goal.invariant-loop-number
invariant-loop-number l = record {
  within : l.number ≤ length l.findings;
  alike : AllZip AreAlike (take l.number l.findings) (take l.number l.others);
}
