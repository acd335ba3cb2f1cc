use Rattle.std.proofs.Common.{◌∙◌, ap, List, None, Some, Bor}
use Rattle.std.specs.List.{flat_map}
use Rattle.texts.specs.declared.entry.Explanation.{Explanation}
use Rattle.texts.specs.Codes.{named_codes_of}
use Rattle.texts.proofs.Parts.{message_found}
use Rattle.texts.proofs.listed.message_of_code.Goals as goal

pub returns-in-Some : goal.returns-in-Some
returns-in-Some c =
    message_found c.as_slice.result.now c.args.code.now (Some c.in-Some.entry.now)
    (ap (λ (these : List (Bor (List Explanation))). flat_map (λ part. named_codes_of part.now) these) c.as_slice.ensures ∙ c.parts-parts.ensures.named)
    c.in-Some.ensures

pub returns-in-None : goal.returns-in-None
returns-in-None c =
    message_found c.as_slice.result.now c.args.code.now None
    (ap (λ (these : List (Bor (List Explanation))). flat_map (λ part. named_codes_of part.now) these) c.as_slice.ensures ∙ c.parts-parts.ensures.named)
    c.in-None.ensures
