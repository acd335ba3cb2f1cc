-- Judged operations, and what a filter keeps of them.
use Rattle.std.proofs.Common.{◌≡◌, ◌⊎◌, inl, inr, Bool, true, false, not, ◌&&◌, ◌||◌, List, [], ◌∷◌, ◌++◌, map, Option, Some, None, refl, ap, cond}
use Rattle.std.specs.Prelude.{All, Contains, filter, is_some}
use Rattle.std.proofs.lemmas.List.Elements.{All-head, All-tail}
use Rattle.intervals.specs.declared.operation.Op.{Op}
use Rattle.intervals.specs.declared.operation.Moment.{Moment}
use Rattle.intervals.specs.Operation.{IsWrite, IsJudgedRead, is_write, judged}
use Rattle.watch.proofs.Members.{kept_present}

-- whether the operation is one that a verdict is about: a write, or a read that has an end
abbrev pub is_judged : Op → Bool
is_judged op = is_write op || is_some op.end

-- a judged operation is a write or a judged read
pub judged_cases : (op : Op) → is_judged op ≡ true → IsWrite op ⊎ IsJudgedRead op
judged_cases op = by_cases (is_write op) (is_some op.end)
  where
    by_cases : (w s : Bool) → (w || s) ≡ true → (w ≡ true) ⊎ ((not w && s) ≡ true)
    by_cases true s e = inl refl
    by_cases false s e = inr e

-- a judged read has an end
pub end_of : (r : Op) → IsJudgedRead r → (end : Moment) × (r.end ≡ Some end)
end_of r = by_end (is_write r) r.end
  where
    by_end : (w : Bool) (end : Option Moment) → (not w && is_some end) ≡ true → (m : Moment) × (end ≡ Some m)
    by_end true end e = absurd (cc)
    by_end false None e = absurd (cc)
    by_end false (Some m) e = (m, refl)

pub not_unfinished : (r : Op) → IsJudgedRead r → r.end ≡ None → ⊥
not_unfinished r read none = let (end, is) = end_of r read in absurd (cc)

-- a judged operation without an end is a write
pub unfinished_write : (op : Op) → is_judged op ≡ true → op.end ≡ None → IsWrite op
unfinished_write op t none = by_cases (judged_cases op t)
  where
    by_cases : IsWrite op ⊎ IsJudgedRead op → IsWrite op
    by_cases (inl w) = w
    by_cases (inr r) = absurd (not_unfinished op r none)

pub judged_present : (ops : List Op) (a : Op) → Contains (judged ops) a → Contains ops a × (is_judged a ≡ true)
judged_present ops a h = kept_present is_judged ops a h

module _ {X : Type 0} where
  -- two filters in either order keep the same
  pub filters_commute : (p q : X → Bool) (xs : List X) → filter p (filter q xs) ≡ filter q (filter p xs)
  filters_commute p q [] = refl
  filters_commute p q (x ∷ xs) = by_cases (p x) (q x) refl refl (filters_commute p q xs)
    where
      by_cases : (s t : Bool) → p x ≡ s → q x ≡ t → filter p (filter q xs) ≡ filter q (filter p xs)
          → filter p (cond t (x ∷ filter q xs) (filter q xs)) ≡ filter q (cond s (x ∷ filter p xs) (filter p xs))
      by_cases true true e f rest = rw (e, f) (ap (λ (ys : List X). x ∷ ys) rest)
      by_cases true false e f rest = rw f rest
      by_cases false true e f rest = rw e rest
      by_cases false false e f rest = rest

  -- what a filter keeps of a list that it keeps, with an element that it leaves out
  pub filtered_push : (keep p : X → Bool) (xs : List X) (y : X) → All (λ x. keep x ≡ true) xs → keep y ≡ false → filter keep (filter p (xs ++ y ∷ [])) ≡ filter p xs
  filtered_push keep p [] y all out = by_cases (p y)
    where
      by_cases : (t : Bool) → filter keep (cond t (y ∷ []) []) ≡ []
      by_cases true = rw out refl
      by_cases false = refl
  filtered_push keep p (x ∷ xs) y all out = by_cases (p x) (filtered_push keep p xs y (All-tail (λ x. keep x ≡ true) x xs all) out)
    where
      by_cases : (t : Bool) → filter keep (filter p (xs ++ y ∷ [])) ≡ filter p xs
          → filter keep (cond t (x ∷ filter p (xs ++ y ∷ [])) (filter p (xs ++ y ∷ []))) ≡ cond t (x ∷ filter p xs) (filter p xs)
      by_cases true rest = rw (All-head (λ x. keep x ≡ true) x xs all) (ap (λ (ys : List X). x ∷ ys) rest)
      by_cases false rest = rest

  -- where the image of an element passes two tests exactly if the element passes a third
  pub filtered_map : (keep p q : X → Bool) (f : X → X) (xs : List X) → All (λ x. (p (f x) && keep (f x)) ≡ q x) xs → filter keep (filter p (map f xs)) ≡ map f (filter q xs)
  filtered_map keep p q f [] all = refl
  filtered_map keep p q f (x ∷ xs) all =
      by_cases (p (f x)) (keep (f x)) (q x) refl (All-head (λ x. (p (f x) && keep (f x)) ≡ q x) x xs all)
      (filtered_map keep p q f xs (All-tail (λ x. (p (f x) && keep (f x)) ≡ q x) x xs all))
    where
      by_cases : (s t u : Bool) → keep (f x) ≡ t → (s && t) ≡ u → filter keep (filter p (map f xs)) ≡ map f (filter q xs)
          → filter keep (cond s (f x ∷ filter p (map f xs)) (filter p (map f xs))) ≡ map f (cond u (x ∷ filter q xs) (filter q xs))
      by_cases true true true e g rest = rw e (ap (λ (ys : List X). f x ∷ ys) rest)
      by_cases true true false e g rest = absurd (cc)
      by_cases true false true e g rest = absurd (cc)
      by_cases true false false e g rest = rw e rest
      by_cases false t true e g rest = absurd (cc)
      by_cases false t false e g rest = rest
