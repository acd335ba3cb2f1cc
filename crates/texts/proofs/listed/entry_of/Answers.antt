use Rattle.std.proofs.Common.{◌∙◌, ap, List, ℕ, Bor}
use Rattle.std.specs.List.{flat_map}
use Rattle.texts.specs.declared.entry.Explanation.{Explanation}
use Rattle.texts.specs.Codes.{code_among, codes_of}
use Rattle.texts.proofs.Parts.{code_found, codes_of_parts, entries_of}
use Rattle.texts.proofs.listed.entry_of.Goals as goal

pub returns : goal.returns
returns c =
    let parts = c.as_slice.result.now in
    let word = c.args.code.now in
    code_found (entries_of parts) word c.find_in.result c.find_in.ensures
    ∙ ap (λ (listed : List (List ℕ)). code_among listed word) (codes_of_parts parts ∙ ap (λ (these : List (Bor (List Explanation))). flat_map (λ part. codes_of part.now) these) c.as_slice.ensures ∙ c.parts-parts.ensures.codes)
