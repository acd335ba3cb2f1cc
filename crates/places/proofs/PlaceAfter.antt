-- Going through a text by one byte.
use Rattle.std.proofs.Common.{◌≡◌, ℕ, ◌+◌, ◌-◌, ◌<◌, ◌≤◌, true, false, eqb, List, [], ◌∷◌, ◌++◌, drop, take, get_or, length, refl, sym, ap, ◌∙◌, arith}
use Rattle.std.specs.Prelude.{if◌then◌else◌, min}
use Rattle.std.proofs.lemmas.List.{get_or-drop, get_or-take, length-drop, length-take, take_min, take_more}
use Rattle.places.specs.declared.line_column.LineColumn.{LineColumn}
use Rattle.places.specs.LineColumn.{place_after, place_after_all, first_place, place_of_byte}

after_both : (place : LineColumn) (xs ys : List ℕ) → place_after_all place (xs ++ ys) ≡ place_after_all (place_after_all place xs) ys
after_both place [] ys = refl
after_both place (x ∷ xs) ys = after_both (place_after place x) xs ys

pub one_on : (text : List ℕ) (at byte : ℕ) → at < length text → byte ≡ get_or text at 0 → place_of_byte text (at + 1) ≡ place_after (place_of_byte text at) byte
one_on text at byte below is =
    ap (place_after_all first_place) (take_more text at 0 below) ∙ after_both first_place (take at text) (get_or text at 0 ∷ []) ∙ ap (place_after (place_of_byte text at)) (sym is)

-- a byte leads to the next line at most, and to the next column at most
pub after_small : (place : LineColumn) (byte : ℕ) → ((place_after place byte).line ≤ place.line + 1) × ((place_after place byte).column ≤ place.column + 1)
after_small place byte =
    let next : LineColumn = record { line = place.line + 1; column = 1 } in
    let same : LineColumn = record { line = place.line; column = place.column + 1 } in
    elim (eqb byte 10) as (λ t. ((if t then next else same).line ≤ place.line + 1) × ((if t then next else same).column ≤ place.column + 1)) [ true ↦ (omega arith, omega arith) | false ↦ (omega arith, omega arith) ]

-- a byte of a part of the text leads to the next line at most, and to the next column at most
pub part_on : (text : List ℕ) (from to i : ℕ) (place next : LineColumn) → from ≤ to → to ≤ length text → i < length (take (to - from) (drop from text)) → place ≡ place_of_byte text (from + i)
    → next ≡ place_after place (get_or (take (to - from) (drop from text)) i 0) → next ≡ place_of_byte text (from + (i + 1))
part_on text from to i place next order within inside is is_next =
    let part = get_or (take (to - from) (drop from text)) i 0 in
    let below : i < to - from = omega (arith, length-take (to - from) (drop from text), length-drop from text) in
    let there : from + i < length text = omega (arith, length-take (to - from) (drop from text), length-drop from text) in
    let byte : part ≡ get_or text (from + i) 0 = get_or-take (to - from) (drop from text) i 0 below ∙ get_or-drop from text i 0 in
    let further : from + i + 1 ≡ from + (i + 1) = omega arith in
    is_next ∙ ap (λ (p : LineColumn). place_after p part) is ∙ sym (one_on text (from + i) part there byte) ∙ ap (place_of_byte text) further
