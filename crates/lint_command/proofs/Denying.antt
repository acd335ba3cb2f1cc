-- The parts of a text between its commas, and the codes that they name.
use Rattle.std.proofs.Common.{◌≡◌, ◌==◌, ◌<◌, ◌+◌, ℕ, suc, Bool, true, false, List, [], ◌∷◌, ◌++◌, length, take, drop, cond, not, subst, append_assoc, refl, sym, ap, ◌∙◌, arith}
use Rattle.std.specs.List.{position_or_len, after_first, AllZip}
use native.Mathlib.Numerals.{unary_clauses}
use Rattle.lint_command.specs.Denied.{IsNoteNamed, comma_parts}

abbrev pub is_comma : ℕ → Bool
is_comma byte = byte == 44

no_comma_by : (byte : ℕ) (text : List ℕ) (at : Bool) → (byte == 44) ≡ at → position_or_len is_comma (byte ∷ text) ≡ length (byte ∷ text)
    → (position_or_len is_comma text ≡ length text → comma_parts text ≡ text ∷ []) → comma_parts (byte ∷ text) ≡ (byte ∷ text) ∷ []
no_comma_by byte text true at is more = absurd cc
no_comma_by byte text false at is more =
    let less : 1 + position_or_len is_comma text ≡ length (byte ∷ text) = subst (λ (found : Bool). cond (not found) (1 + position_or_len is_comma text) 0 ≡ length (byte ∷ text)) at is in
    rw (at, more (omega (arith, less))) refl

pub no_comma : (text : List ℕ) → position_or_len is_comma text ≡ length text → comma_parts text ≡ text ∷ []
no_comma [] is = refl
no_comma (byte ∷ text) is = no_comma_by byte text (byte == 44) refl is (no_comma text)

later : (byte : ℕ) (text : List ℕ) → (byte == 44) ≡ false → position_or_len is_comma (byte ∷ text) ≡ suc (position_or_len is_comma text)
later byte text at = rw at (omega arith)

at_comma_by : (byte : ℕ) (text : List ℕ) (at : Bool) → (byte == 44) ≡ at → position_or_len is_comma (byte ∷ text) < length (byte ∷ text)
    → (position_or_len is_comma text < length text → comma_parts text ≡ take (position_or_len is_comma text) text ∷ comma_parts (after_first is_comma text))
    → comma_parts (byte ∷ text) ≡ take (position_or_len is_comma (byte ∷ text)) (byte ∷ text) ∷ comma_parts (drop (position_or_len is_comma (byte ∷ text) + 1) (byte ∷ text))
at_comma_by byte text true at within more = rw at refl
at_comma_by byte text false at within more =
    let place = later byte text at in
    let within_rest : position_or_len is_comma text < length text = omega (arith, place, within) in
    rw (place, at, more within_rest) (simp unary_clauses refl)

pub at_comma : (text : List ℕ) → position_or_len is_comma text < length text → comma_parts text ≡ take (position_or_len is_comma text) text ∷ comma_parts (after_first is_comma text)
at_comma [] within = absurd (omega (arith, within))
at_comma (byte ∷ text) within = at_comma_by byte text (byte == 44) refl within (at_comma text)

-- codes of the first words, while the rest of the text has the others
abbrev pub HasFirst : List ℕ → List ℕ → List (List ℕ) → Type 0
HasFirst whole rest denied = (words : List (List ℕ)) × AllZip IsNoteNamed words denied × (words ++ comma_parts rest ≡ comma_parts whole)

one_more : {A B : Type 0} (R : A → B → Type 0) (words : List A) (codes : List B) (word : A) (code : B) → AllZip R words codes → R word code → AllZip R (words ++ word ∷ []) (codes ++ code ∷ [])
one_more R [] [] word code all named = (named, tt)
one_more R [] (other ∷ codes) word code all named = absurd all
one_more R (other ∷ words) [] word code all named = absurd all
one_more R (other ∷ words) (one ∷ codes) word code all named = (all.0, one_more R words codes word code all.1 named)

pub goes_on : (whole rest word more code : List ℕ) (old new : List (List ℕ)) → HasFirst whole rest old → position_or_len is_comma rest < length rest → word ≡ take (position_or_len is_comma rest) rest
    → more ≡ after_first is_comma rest → IsNoteNamed word code → new ≡ old ++ code ∷ [] → HasFirst whole more new
goes_on whole rest word more code old new has within word_is more_is named new_is =
    let words = has.0 in (
      words ++ word ∷ [],
      subst (λ (codes : List (List ℕ)). AllZip IsNoteNamed (words ++ word ∷ []) codes) (sym new_is) (one_more IsNoteNamed words old word code has.1 named),
      append_assoc words (word ∷ []) (comma_parts more) ∙ ap (λ (parts : List (List ℕ)). words ++ parts) (rw (word_is, more_is) (sym (at_comma rest within))) ∙ has.2,
    )

pub ends : (whole rest code : List ℕ) (old new : List (List ℕ)) → HasFirst whole rest old → position_or_len is_comma rest ≡ length rest → IsNoteNamed rest code → new ≡ old ++ code ∷ [] → AllZip IsNoteNamed (comma_parts whole) new
ends whole rest code old new has none named new_is =
    let words = has.0 in
    subst (λ (parts : List (List ℕ)). AllZip IsNoteNamed parts new) (ap (λ (parts : List (List ℕ)). words ++ parts) (sym (no_comma rest none)) ∙ has.2)
    (subst (λ (codes : List (List ℕ)). AllZip IsNoteNamed (words ++ rest ∷ []) codes) (sym new_is) (one_more IsNoteNamed words old rest code has.1 named))
