-- The letters of the writes that a wrong read overlaps, one after another.
use Rattle.std.proofs.Common.{◌≡◌, ◌∙◌, ◌<◌, ℕ, zero, suc, ◌+◌, List, [], ◌∷◌, ◌++◌, drop, length, refl, sym, ap, subst, arith}
use Rattle.std.proofs.lemmas.List.{append_assoc}
use Rattle.std.specs.List.{slice_get}
use Rattle.std.specs.Option.{option_map_or}
use Rattle.intervals.specs.declared.operation.Op.{Op}
use Rattle.show.specs.declared.letter.Lettered.{Lettered}
use Rattle.show.specs.Letter.{letters_by, over_letter, over_letters}

over_from : (number place next : ℕ) (over : List Op) → next ≡ number + 1 → place < length over → over_letters number (drop place over) ≡ option_map_or (letters_by (over_letter number)) (slice_get over place) [] ++ over_letters next (drop (suc place) over)
over_from number place next [] one within = absurd (omega (arith, within))
over_from number zero next (op ∷ over) one within = subst (λ (n : ℕ). over_letters number (op ∷ over) ≡ letters_by (over_letter number) op ++ over_letters n over) (sym one) refl
over_from number (suc place) next (op ∷ over) one within = over_from number place next over one (omega (arith, within))

-- one write more
pub over_more : (over : List Op) (number : ℕ) (old new all : List Lettered) → number < length over → new ≡ old ++ option_map_or (letters_by (over_letter number)) (slice_get over number) [] → old ++ over_letters number (drop number over) ≡ all → new ++ over_letters (number + 1) (drop (number + 1) over) ≡ all
over_more over number old new all within pushed so_far =
    let here = option_map_or (letters_by (over_letter number)) (slice_get over number) [] in
    let next : suc number ≡ number + 1 = omega arith in
    let step : over_letters number (drop number over) ≡ here ++ over_letters (number + 1) (drop (number + 1) over) =
    subst (λ (n : ℕ). over_letters number (drop number over) ≡ here ++ over_letters (number + 1) (drop n over)) next (over_from number number (number + 1) over refl within) in
    rw pushed (append_assoc old here (over_letters (number + 1) (drop (number + 1) over)) ∙ ap (λ (left : List Lettered). old ++ left) (sym step) ∙ so_far)
