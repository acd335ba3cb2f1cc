use Rattle.std.proofs.Common.{◌∙◌, ap, List, Bor}
use Rattle.std.specs.List.{flat_map}
use Rattle.texts.specs.declared.entry.Explanation.{Explanation}
use Rattle.texts.specs.Codes.{NamedCode, code_by_name, named_codes_of}
use Rattle.texts.proofs.Parts.{entries_of, name_found, named_of_parts}
use Rattle.texts.proofs.listed.entry_named.Goals as goal

pub returns : goal.returns
returns c =
    let parts = c.as_slice.result.now in
    let name = c.args.name.now in
    name_found (entries_of parts) name c.find_in.result c.find_in.ensures
    ∙ ap (λ (named : List NamedCode). code_by_name named name) (named_of_parts parts ∙ ap (λ (these : List (Bor (List Explanation))). flat_map (λ part. named_codes_of part.now) these) c.as_slice.ensures ∙ c.code_parts-parts.ensures)
