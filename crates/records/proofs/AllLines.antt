-- The lines of all records, one part after the other.
use Rattle.std.proofs.Common.{◌≡◌, ◌∙◌, ◌++◌, ◌∷◌, [], ℕ, List, ap, sym}
use Rattle.std.specs.List.{flat_map}
use Rattle.std.proofs.lemmas.List.{append-nil, append_assoc}
use Rattle.std.proofs.lemmas.Grind.{flat_map-append}
use Rattle.records.specs.Symbol.{Symbol}

one_line : (line : List Symbol → List ℕ) (record' : List Symbol) → flat_map line (record' ∷ []) ≡ line record'
one_line line record' = append-nil (line record')

-- the lines of the first and the last record, with those of the records of three parts between them
pub all_lines : (line : List Symbol → List ℕ) (first last : List Symbol) (registers logs asked : List (List Symbol))
    → flat_map line ((first ∷ []) ++ (registers ++ logs ++ asked) ++ last ∷ [])
    ≡ line first ++ flat_map line registers ++ flat_map line logs ++ flat_map line asked ++ line last
all_lines line first last registers logs asked =
    let middle = registers ++ logs ++ asked in
    flat_map-append line ((first ∷ []) ++ middle) (last ∷ [])
    ∙ ap (λ (text : List ℕ). text ++ flat_map line (last ∷ [])) (flat_map-append line (first ∷ []) middle)
    ∙ ap (λ (text : List ℕ). flat_map line (first ∷ []) ++ flat_map line middle ++ text) (one_line line last)
    ∙ ap (λ (text : List ℕ). text ++ flat_map line middle ++ line last) (one_line line first)
    ∙ ap (λ (text : List ℕ). line first ++ text ++ line last) (flat_map-append line (registers ++ logs) asked)
    ∙ ap (λ (text : List ℕ). line first ++ (text ++ flat_map line asked) ++ line last) (flat_map-append line registers logs)
    ∙ ap (λ (text : List ℕ). text ++ line last) (sym (append_assoc (line first) (flat_map line registers ++ flat_map line logs) (flat_map line asked)))
    ∙ ap (λ (text : List ℕ). text ++ flat_map line asked ++ line last) (sym (append_assoc (line first) (flat_map line registers) (flat_map line logs)))
