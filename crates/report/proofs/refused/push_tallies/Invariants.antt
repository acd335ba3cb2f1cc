-- the text so far and that of the codes that are left is the text of all codes
use denote.Text.{Utf8}
use denote.Shadow.{shadow}
use Rattle.std.proofs.Common.{◌≡◌, ◌++◌, codes, drop, string_bytes}
use Rattle.report.specs.Refused.{codes_text}
use Rattle.report.specs.Tallied.{tallied}
use Rattle.report.proofs.refused.push_tallies.Given as goal

abbrev pub invariant-loop-tally : goal.invariant-loop-tally
invariant-loop-tally l =
    shadow (Utf8 l.before)
    × (string_bytes l.text ++ codes_text l.logs l.before (tallied (drop l.tally-index l.tallies)) ≡ string_bytes l.fn.text ++ codes_text l.fn.logs (codes ": ") (tallied l.fn.tallies))
