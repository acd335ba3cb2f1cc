-- Rising entries that are each among as many other rising entries read as those do.
use Rattle.std.proofs.Common.{◌≡◌, ℕ, ◌<◌, ◌≤◌, ◌⊎◌, inl, inr, List, [], ◌∷◌, length, map, refl, sym, subst, ap, ◌∙◌, zero, suc, arith}
use Rattle.std.specs.Prelude.{Any}
use Rattle.std.specs.List.{AllByRecursion}
use Rattle.shards.specs.declared.entry.NumberedEntry.{NumberedEntry}
use Rattle.shards.specs.Plain.{PlainEntry, plain_numbered}
use Rattle.shards.specs.Shard.{Rises}

-- one of these entries reads as this one does, with its number
abbrev pub IsAmong : List NumberedEntry → NumberedEntry → Type 0
IsAmong ys x = Any (λ y. plain_numbered y ≡ plain_numbered x) ys

abbrev pub Above : NumberedEntry → List NumberedEntry → Type 0
Above a xs = AllByRecursion (λ b. a.number < b.number) xs

none_among : (x : NumberedEntry) → IsAmong [] x → ⊥
none_among x (k, y, within, is, same) = omega arith

among_cases : (y x : NumberedEntry) (ys : List NumberedEntry) → IsAmong (y ∷ ys) x → (plain_numbered y ≡ plain_numbered x) ⊎ IsAmong ys x
among_cases y x ys (zero, z, within, is, same) = inl (ap plain_numbered is ∙ same)
among_cases y x ys (suc k, z, within, is, same) = inr (k, z, omega arith, is, same)

same_number : (y x : NumberedEntry) → plain_numbered y ≡ plain_numbered x → y.number ≡ x.number
same_number y x e = ap (λ (p : ℕ × PlainEntry). p.0) e

above_among : (a x : NumberedEntry) (ys : List NumberedEntry) → Above a ys → IsAmong ys x → a.number < x.number
above_among a x [] up h = absurd (none_among x h)
above_among a x (y ∷ ys) up h = by_cases (among_cases y x ys h) (above_among a x ys up.1)
  where
    by_cases : (plain_numbered y ≡ plain_numbered x) ⊎ IsAmong ys x → (IsAmong ys x → a.number < x.number) → a.number < x.number
    by_cases (inl e) later = let n = same_number y x e in let l = up.0 in omega arith
    by_cases (inr g) later = later g

above_all : (a b : NumberedEntry) (xs : List NumberedEntry) → a.number < b.number → Above b xs → Above a xs
above_all a b [] l up = tt
above_all a b (x ∷ xs) l up = (let h = up.0 in omega arith, above_all a b xs l up.1)

-- entries with greater numbers than the first one's are among the others
among_others : (y : NumberedEntry) (ys xs : List NumberedEntry) → Above y xs → AllByRecursion (IsAmong (y ∷ ys)) xs → AllByRecursion (IsAmong ys) xs
among_others y ys [] up h = tt
among_others y ys (x ∷ xs) up h = (other (among_cases y x ys h.0), among_others y ys xs up.1 h.1)
  where
    other : (plain_numbered y ≡ plain_numbered x) ⊎ IsAmong ys x → IsAmong ys x
    other (inl e) = absurd (let n = same_number y x e in let l = up.0 in omega arith)
    other (inr g) = g

record Covered (xs ys : List NumberedEntry) : Type 0 where
  many : length xs ≤ length ys
  same : length xs ≡ length ys → map plain_numbered xs ≡ map plain_numbered ys

covered : (ys xs : List NumberedEntry) → Rises ys → Rises xs → AllByRecursion (IsAmong ys) xs → Covered xs ys
covered [] [] ry rx h = record { many = omega arith; same = λ e. refl }
covered (y ∷ ys) [] ry rx h = record { many = omega arith; same = λ e. absurd (omega arith) }
covered [] (x ∷ xs) ry rx h = absurd (none_among x h.0)
covered (y ∷ ys) (x ∷ xs) ry rx h = by_cases (among_cases y x ys h.0) (covered ys xs ry.1 rx.1) (covered ys (x ∷ xs) ry.1 rx)
  where
    by_cases : (plain_numbered y ≡ plain_numbered x) ⊎ IsAmong ys x → (AllByRecursion (IsAmong ys) xs → Covered xs ys) → (AllByRecursion (IsAmong ys) (x ∷ xs) → Covered (x ∷ xs) ys) → Covered (x ∷ xs) (y ∷ ys)
    by_cases (inl e) rest all =
        let up : Above y xs = subst (λ (k : ℕ). AllByRecursion (λ b. k < b.number) xs) (sym (same_number y x e)) rx.0 in
        let r = rest (among_others y ys xs up h.1) in
        let many = r.many in
        record { many = omega arith; same = λ l. let s = r.same (omega arith) in cc }
    by_cases (inr g) rest all =
        let l = above_among y x ys ry.0 g in
        let r = all (g, among_others y ys xs (above_all y x xs l rx.0) h.1) in
        let many = r.many in
        record { many = omega arith; same = λ k. absurd (omega arith) }

pub same_from_covers : (xs ys : List NumberedEntry) → Rises xs → Rises ys → AllByRecursion (IsAmong ys) xs → length xs ≡ length ys → map plain_numbered xs ≡ map plain_numbered ys
same_from_covers xs ys rx ry h e = (covered ys xs ry rx h).same e
