-- What is so of each operation, or of each two, is so after an edit, if it is so of the operation that the edit makes.
use Rattle.std.proofs.Common.{◌≡◌, ℕ, zero, suc, ◌<◌, Bool, true, false, not, List, [], ◌∷◌, length, Some, None, refl, sym, ap, ◌∙◌, cond, arith}
use Rattle.std.specs.Prelude.{All, Contains, map, option_map, slice_index_or}
use Rattle.std.specs.List.{AllPairs}
use Rattle.std.proofs.lemmas.List.Elements.{All-map, All-push, All-filter}
use Rattle.std.proofs.lemmas.List.Kept.{AllPairs-cons, AllPairs-filter}
use Rattle.std.proofs.lemmas.List.Quantifiers.{all_pairs_push}
use Rattle.intervals.specs.declared.operation.Op.{Op}
use Rattle.intervals.specs.declared.operation.OpId.{OpId}
use Rattle.intervals.specs.declared.edit.Change.{Change}
use Rattle.intervals.specs.declared.edit.Edit.{Edit}
use Rattle.intervals.specs.declared.edit.Edit.TheVariants.{Append, Amend, Withdraw, Claim}
use Rattle.intervals.specs.Operation.{same_id}
use Rattle.intervals.specs.Edit.{op_of, amended, changed, edited, new_op}
use Rattle.intervals.specs.Refusal.{first_refusal, moments_refusal}
use Rattle.intervals.specs.Standing.{HasDistinctIds}
use Rattle.intervals.proofs.Ids.{same_id-sym, same_id-trans, not_same_id, found_alike, found_by_id, none_of, distinct_pairs, not_taken}

-- the operation that has the id of an amendment, once changed, is the new one
new_of : (ops : List Op) (id : OpId) (change : Change) (a : Op) → HasDistinctIds ops → Contains ops a → same_id a.id id ≡ true → new_op ops (Amend id change) ≡ Some (changed a change)
new_of ops id change a d h s = ap (option_map (λ op. changed op change)) (sym (found_alike ops a.id id s) ∙ found_by_id ops a d h)

-- the element of a list at an index is in it
contains_at : (ops : List Op) (k : ℕ) (d : Op) → k < length ops → Contains ops (slice_index_or ops k d)
contains_at [] k d lt = absurd (omega arith)
contains_at (a ∷ ops) zero d lt = (0, omega arith, refl)
contains_at (a ∷ ops) (suc k) d lt = let h = contains_at ops k d (omega arith) in (suc h.0, omega (arith, h.1), h.2)

module _ (P : Op → Type 0) where
  amended_is : (id : OpId) (change : Change) (a : Op) → P a → (same_id a.id id ≡ true → P (changed a change)) → P (amended id change a)
  amended_is id change a p q = by_cases (same_id a.id id) q
    where
      by_cases : (t : Bool) → (t ≡ true → P (changed a change)) → P (cond t (changed a change) a)
      by_cases true q = q refl
      by_cases false q = p

  pub each_edited : (ops : List Op) (edit : Edit) → HasDistinctIds ops → All P ops → ((new : Op) → new_op ops edit ≡ Some new → P new) → All P (edited ops edit)
  each_edited ops (Append op) d all is = All-push P ops op all (is op refl)
  each_edited ops (Amend id change) d all is =
      All-map P (amended id change) ops (λ k e lt. amended_is id change (slice_index_or ops k e) (all k e lt) (λ s. is (changed (slice_index_or ops k e) change) (new_of ops id change (slice_index_or ops k e) d (contains_at ops k e lt) s)))
  each_edited ops (Withdraw id) d all is = All-filter (λ op. not (same_id op.id id)) P ops all
  each_edited ops (Claim kind) d all is = all

module _ (R : Op → Op → Type 0) (symmetric : (a b : Op) → R a b → R b a) where
  first_pairs : (a : Op) (ops : List Op) → AllPairs R (a ∷ ops) → All (R a) ops
  first_pairs a ops pairs k d lt = pairs 0 (suc k) d (omega arith) (omega arith)

  later_pairs : (a : Op) (ops : List Op) → AllPairs R (a ∷ ops) → AllPairs R ops
  later_pairs a ops pairs i j d lt lt' = pairs (suc i) (suc j) d (omega arith) (omega arith)

  -- two operations of different ids, one of which may be changed
  amended_pair : (id : OpId) (change : Change) (a b : Op) → same_id a.id b.id ≡ false → R a b
      → (same_id a.id id ≡ true → same_id b.id id ≡ false → R (changed a change) b)
      → (same_id b.id id ≡ true → same_id a.id id ≡ false → R (changed b change) a)
      → R (amended id change a) (amended id change b)
  amended_pair id change a b apart r first second = by_cases (same_id a.id id) (same_id b.id id) refl refl
    where
      by_cases : (s t : Bool) → same_id a.id id ≡ s → same_id b.id id ≡ t → R (cond s (changed a change) a) (cond t (changed b change) b)
      by_cases true true p q = absurd (let s = same_id-trans a.id id b.id p (same_id-sym b.id id q) in cc)
      by_cases true false p q = first p q
      by_cases false true p q = symmetric (changed b change) a (second q p)
      by_cases false false p q = r

  -- each operation of the edited id, once changed, is so with each operation of another id
  abbrev ChangedIs : OpId → Change → List Op → List Op → Type 0
  ChangedIs id change ops others = All (λ a. same_id a.id id ≡ true → All (λ b. same_id b.id id ≡ false → R (changed a change) b) others) ops

  pairs_amended : (id : OpId) (change : Change) (ops : List Op) → AllPairs (λ a b. same_id a.id b.id ≡ false) ops → AllPairs R ops → ChangedIs id change ops ops → AllPairs R (map (amended id change) ops)
  pairs_amended id change [] apart pairs is = λ i j d lt lt'. absurd (omega arith)
  pairs_amended id change (a ∷ ops) apart pairs is =
      AllPairs-cons R (amended id change a) (map (amended id change) ops)
      (All-map (R (amended id change a)) (amended id change) ops (λ k d lt.
      amended_pair id change a (slice_index_or ops k d) (apart 0 (suc k) d (omega arith) (omega arith)) (pairs 0 (suc k) d (omega arith) (omega arith))
      (λ s t. is 0 d (omega arith) s (suc k) d (omega arith) t)
      (λ t s. is (suc k) d (omega arith) t 0 d (omega arith) s)))
      (pairs_amended id change ops (λ i j d lt lt'. apart (suc i) (suc j) d (omega arith) (omega arith)) (later_pairs a ops pairs)
      (λ k d lt s i e lt' t. is (suc k) d (omega arith) s (suc i) e (omega arith) t))

  pub pairs_edited : (ops : List Op) (edit : Edit) → HasDistinctIds ops → AllPairs R ops → first_refusal ops edit ≡ None
      → ((new : Op) → new_op ops edit ≡ Some new → All (λ other. same_id other.id new.id ≡ false → R new other) ops)
      → AllPairs R (edited ops edit)
  pairs_edited ops (Append op) d pairs accepted is =
      all_pairs_push R ops op pairs (λ k e lt. symmetric op (slice_index_or ops k e) (is op refl k e lt (none_of ops op.id (not_taken (op_of ops op.id) (moments_refusal ops op) accepted) k e lt)))
  pairs_edited ops (Amend id change) d pairs accepted is =
      pairs_amended id change ops (distinct_pairs ops d) pairs (λ k e lt s i f lt' t.
      is (changed (slice_index_or ops k e) change) (new_of ops id change (slice_index_or ops k e) d (contains_at ops k e lt) s) i f lt'
      (not_same_id (slice_index_or ops i f).id id (slice_index_or ops k e).id t s))
  pairs_edited ops (Withdraw id) d pairs accepted is = AllPairs-filter R (λ op. not (same_id op.id id)) ops pairs
  pairs_edited ops (Claim kind) d pairs accepted is = pairs
