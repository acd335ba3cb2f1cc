use Rattle.std.proofs.Common.{◌∙◌, ap, Bor, List}
use Rattle.std.specs.List.{flat_map}
use Rattle.texts.specs.declared.entry.Explanation.{Explanation}
use Rattle.texts.specs.Codes.{named_codes_of, named_refusal_codes}
use Rattle.report.proofs.Frequency.{tallied_all}
use Rattle.report.proofs.refused.tallies_of.Goals as goal

pub returns : goal.returns
returns c =
    let named = flat_map (λ (part : Bor (List Explanation)). named_codes_of part.now) c.as_slice.result.now in
    tallied_all c.args.logs.now named named_refusal_codes c.new-tallies.result.items c.add_parts.new.tallies.items
    (ap (λ (these : List (Bor (List Explanation))). flat_map (λ part. named_codes_of part.now) these) c.as_slice.ensures ∙ c.refusals-parts.ensures)
    c.new-tallies.ensures.items c.in_ok-add_parts.ensures
