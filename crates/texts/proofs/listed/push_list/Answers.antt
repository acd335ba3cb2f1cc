-- the lines of all parts are those of one list of entries, whose codes are all codes
use Rattle.std.proofs.Common.{◌++◌, ◌∙◌, ap, sym, List, Bor, string_bytes}
use Rattle.std.specs.List.{flat_map}
use Rattle.texts.specs.declared.entry.Explanation.{Explanation}
use Rattle.texts.specs.Printing.{list_text}
use Rattle.texts.proofs.Parts.{codes_of_parts, list_of_parts, on_ok}
use Rattle.texts.proofs.listed.push_list.Goals as goal

pub returns : goal.returns
returns c =
    let parts = c.parts-parts.result in
    on_ok c.push_parts.result c.push_parts.ensures (λ added. (
      flat_map (λ (part : Bor (List Explanation)). list_text part.now) parts,
      record {
        entries = flat_map (λ (part : Bor (List Explanation)). part.now) parts;
        are = codes_of_parts parts ∙ c.parts-parts.ensures.codes;
        is = sym (list_of_parts parts);
      },
      added ∙ ap (λ (these : List (Bor (List Explanation))). string_bytes c.args.text.now ++ flat_map (λ (part : Bor (List Explanation)). list_text part.now) these) c.as_slice.ensures,
    ))
