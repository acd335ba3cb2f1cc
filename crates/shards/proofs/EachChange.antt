-- Which entries of a journal have a change of a verdict.
use Rattle.std.proofs.Common.{◌≡◌, ◌<◌, List, [], ◌∷◌, ◌++◌, length, get_or, drop, refl, sym, ap, ◌∙◌, inl, inr, arith}
use Rattle.std.specs.Prelude.{◌⊎◌, All, Contains}
use Rattle.std.specs.List.{AllPairs}
use Rattle.std.proofs.lemmas.List.{append_assoc, length-append}
use Rattle.std.proofs.lemmas.List.Elements.{All-nil, All-push, All-weaker, Contains-append_left, Contains-append_right}
use Rattle.std.proofs.lemmas.List.Quantifiers.{all_pairs_push}
use Rattle.shards.specs.declared.entry.VerdictChange.{VerdictChange}
use Rattle.shards.specs.declared.entry.Entry.{Entry}
use Rattle.shards.specs.Plan.{Plan}
use Rattle.shards.specs.VerdictChange.{AreVerdictChanges, IsAsBefore, IsVerdictChangeBy, as_before, no_entries, one_changed}

first_of : {X : Type 0} (x y : X) (xs ys : List X) → x ∷ xs ≡ y ∷ ys → x ≡ y
first_of x y xs ys same = ap (λ l. get_or l 0 x) same

rest_of : {X : Type 0} (x y : X) (xs ys : List X) → x ∷ xs ≡ y ∷ ys → xs ≡ ys
rest_of x y xs ys same = ap (drop 1) same

-- where an element stands in a list with one more at its end
split_last : {X : Type 0} (front rest xs : List X) (e x : X) → xs ++ x ∷ [] ≡ front ++ e ∷ rest
    → ((rest ≡ []) × (front ≡ xs) × (e ≡ x)) ⊎ ((less : List X) × (rest ≡ less ++ x ∷ []) × (xs ≡ front ++ e ∷ less))
split_last {X = X} [] rest [] e x same = inl (sym (rest_of x e [] rest same), refl, sym (first_of x e [] rest same))
split_last {X = X} [] rest (y ∷ ys) e x same = inr (ys, sym (rest_of y e (ys ++ x ∷ []) rest same), ap (λ z. z ∷ ys) (first_of y e (ys ++ x ∷ []) rest same))
split_last {X = X} (f ∷ fs) rest [] e x same = absurd (let short : length {A = X} [] ≡ length (fs ++ e ∷ rest) = ap length (rest_of x f [] (fs ++ e ∷ rest) same) in omega (arith, short, length-append fs (e ∷ rest)))
split_last {X = X} (f ∷ fs) rest (y ∷ ys) e x same =
    elim (split_last fs rest ys e x (rest_of y f (ys ++ x ∷ []) (fs ++ e ∷ rest) same)) [
      | inl last ↦ inl (last.0, ap (λ l. f ∷ l) last.1 ∙ ap (λ z. z ∷ ys) (sym (first_of y f (ys ++ x ∷ []) (fs ++ e ∷ rest) same)), last.2)
      | inr before ↦ inr (before.0, before.1, ap (λ l. y ∷ l) before.2 ∙ ap (λ z. z ∷ (fs ++ e ∷ before.0)) (first_of y f (ys ++ x ∷ []) (fs ++ e ∷ rest) same))
    ]

-- each entry that changes a verdict has its change
pub each_has_its_change : (plan : Plan) (journal : List Entry) (changes : List VerdictChange) → AreVerdictChanges plan journal changes
    → (front rest : List Entry) (entry : Entry) → journal ≡ front ++ entry ∷ rest → ¬ IsAsBefore plan front entry → (change : VerdictChange) × Contains changes change × IsVerdictChangeBy plan front entry change
each_has_its_change plan journal changes no_entries front rest entry is differs =
    absurd (let short : length {A = Entry} [] ≡ length (front ++ entry ∷ rest) = ap length is in omega (arith, short, length-append front (entry ∷ rest)))
each_has_its_change plan journal changes (as_before before told last are same) front rest entry is differs =
    elim (split_last front rest before entry last is) [
      | inl at_end ↦ absurd (differs (rw (at_end.1, at_end.2) same))
      | inr earlier ↦ each_has_its_change plan before changes are front earlier.0 entry earlier.2 differs
    ]
each_has_its_change plan journal changes (one_changed before told last change are by) front rest entry is differs =
    elim (split_last front rest before entry last is) [
      | inl at_end ↦ (change, Contains-append_right told (change ∷ []) change (0, omega arith, refl), rw (at_end.1, at_end.2) by)
      | inr earlier ↦
          let one = each_has_its_change plan before told are front earlier.0 entry earlier.2 differs in
          (one.0, Contains-append_left told (change ∷ []) one.0 one.1, one.2)
    ]

-- the change is by an entry of the journal
abbrev pub IsOfOne : Plan → List Entry → VerdictChange → Type 0
IsOfOne plan journal change = (front : List Entry) × (rest : List Entry) × (entry : Entry) × (journal ≡ front ++ entry ∷ rest) × IsVerdictChangeBy plan front entry change

of_longer : (plan : Plan) (journal : List Entry) (last : Entry) (change : VerdictChange) → IsOfOne plan journal change → IsOfOne plan (journal ++ last ∷ []) change
of_longer plan journal last change of = (of.0, of.1 ++ last ∷ [], of.2, ap (λ l. l ++ last ∷ []) of.3 ∙ append_assoc of.0 (of.2 ∷ of.1) (last ∷ []), of.4)

-- each change is by an entry
pub each_is_by_an_entry : (plan : Plan) (journal : List Entry) (changes : List VerdictChange) → AreVerdictChanges plan journal changes → All (IsOfOne plan journal) changes
each_is_by_an_entry plan journal changes no_entries = All-nil (IsOfOne plan [])
each_is_by_an_entry plan journal changes (as_before before told last are same) =
    All-weaker (IsOfOne plan before) (IsOfOne plan (before ++ last ∷ [])) (λ change of. of_longer plan before last change of) changes (each_is_by_an_entry plan before changes are)
each_is_by_an_entry plan journal changes (one_changed before told last change are by) =
    All-push (IsOfOne plan (before ++ last ∷ [])) told change
    (All-weaker (IsOfOne plan before) (IsOfOne plan (before ++ last ∷ [])) (λ c of. of_longer plan before last c of) told (each_is_by_an_entry plan before told are))
    (before, [], last, refl, by)

below_more : (journal : List Entry) (last : Entry) (changes : List VerdictChange) → All (λ change. change.number < length journal) changes → All (λ change. change.number < length (journal ++ last ∷ [])) changes
below_more journal last changes below =
    All-weaker (λ change. change.number < length journal) (λ change. change.number < length (journal ++ last ∷ [])) (λ change less. omega (arith, less, length-append journal (last ∷ []))) changes below

both_rise : (plan : Plan) (journal : List Entry) (changes : List VerdictChange) → AreVerdictChanges plan journal changes
    → All (λ change. change.number < length journal) changes × AllPairs (λ a b. a.number < b.number) changes
both_rise plan journal changes no_entries = (All-nil (λ change. change.number < length {A = Entry} []), λ i j d first second. absurd (omega (arith, second)))
both_rise plan journal changes (as_before before told last are same) =
    let so_far = both_rise plan before changes are in
    (below_more before last changes so_far.0, so_far.1)
both_rise plan journal changes (one_changed before told last change are by) =
    let so_far = both_rise plan before told are in (
      All-push (λ one. one.number < length (before ++ last ∷ [])) told change (below_more before last told so_far.0) (omega (arith, by.number, length-append before (last ∷ []))),
      all_pairs_push (λ a b. a.number < b.number) told change so_far.1 (λ k d within. omega (arith, by.number, so_far.0 k d within)),
    )

-- their numbers rise
pub they_rise : (plan : Plan) (journal : List Entry) (changes : List VerdictChange) → AreVerdictChanges plan journal changes → AllPairs (λ a b. a.number < b.number) changes
they_rise plan journal changes are = (both_rise plan journal changes are).1
