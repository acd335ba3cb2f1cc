-- the place is not before the codes so far
use Rattle.std.proofs.Common.{◌≡◌, ◌≤◌, ◌++◌, drop, length, take}
use Rattle.report.specs.Refused.{RefusedCode, put_by_frequency}
use Rattle.report.specs.Tallied.{tallied}
use Rattle.report.proofs.refused.place_of.Given as goal

abbrev pub invariant-loop-at : goal.invariant-loop-at
invariant-loop-at l = record {
  within : l.at ≤ length l.tallies;
  put : (one : RefusedCode) → one.many ≡ l.many → put_by_frequency one (tallied l.fn.tallies) ≡ tallied (take l.at l.tallies) ++ put_by_frequency one (tallied (drop l.at l.tallies));
}
