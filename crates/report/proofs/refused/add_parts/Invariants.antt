-- the codes of the parts that are left, put among those so far, are all put among those at first
use Rattle.std.proofs.Common.{◌≡◌, drop}
use Rattle.std.specs.List.{flat_map}
use Rattle.texts.specs.Codes.{named_codes_of}
use Rattle.report.specs.Refused.{put_all_by_frequency, refused_codes}
use Rattle.report.specs.Tallied.{tallied}
use Rattle.report.proofs.refused.add_parts.Given as goal

abbrev pub invariant-loop-part : goal.invariant-loop-part
invariant-loop-part l =
    put_all_by_frequency (refused_codes l.logs (flat_map (λ part. named_codes_of part.now) (drop l.part-index l.parts))) (tallied l.tallies.items)
    ≡ put_all_by_frequency (refused_codes l.fn.logs (flat_map (λ part. named_codes_of part.now) l.fn.parts)) (tallied l.fn.tallies.items)
