-- the codes that are left, put among those so far, are all put among those at first
use Rattle.std.proofs.Common.{◌≡◌, drop}
use Rattle.texts.specs.Codes.{named_codes_of}
use Rattle.report.specs.Refused.{put_all_by_frequency, refused_codes}
use Rattle.report.specs.Tallied.{tallied}
use Rattle.report.proofs.refused.add_codes.Given as goal

abbrev pub invariant-loop-entry : goal.invariant-loop-entry
invariant-loop-entry l =
    put_all_by_frequency (refused_codes l.logs (named_codes_of (drop l.entry-index l.entries))) (tallied l.tallies.items)
    ≡ put_all_by_frequency (refused_codes l.fn.logs (named_codes_of l.fn.entries)) (tallied l.fn.tallies.items)
