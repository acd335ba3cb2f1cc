-- What an accepted edit does to the operations: those of other ids stay, one may go and one may come.
use Rattle.std.proofs.Common.{◌≡◌, ◌⊎◌, inl, inr, zero, suc, Bool, true, false, not, List, [], ◌∷◌, ◌++◌, Option, Some, None, refl, sym, ap, ◌∙◌, cond, subst, arith}
use Rattle.std.specs.Prelude.{Contains, filter, map, option_map}
use Rattle.std.proofs.lemmas.Bool.{both_ways, cases_Bool, not-true, not_from_false}
use Rattle.std.proofs.lemmas.List.Elements.{All-contains, Contains-append_left, Contains-push, Contains-push_cases}
use Rattle.intervals.specs.declared.operation.Op.{Op}
use Rattle.intervals.specs.declared.operation.OpId.{OpId}
use Rattle.intervals.specs.declared.edit.Change.{Change}
use Rattle.intervals.specs.declared.edit.Edit.{Edit}
use Rattle.intervals.specs.declared.edit.Edit.TheVariants.{Append, Amend, Withdraw, Claim}
use Rattle.intervals.specs.Operation.{same_id}
use Rattle.intervals.specs.Edit.{op_of, found_by, has_id, amended, changed, edited, new_op, edit_id}
use Rattle.intervals.specs.Refusal.{first_refusal, moments_refusal}
use Rattle.intervals.specs.Standing.{HasDistinctIds}
use Rattle.intervals.proofs.Ids.{same_id-refl, found_alike, found_by_id, not_taken, none_of, found_present, found_again}
use Rattle.safe_regular.specs.Apart.{AreSequential}
use Rattle.safe_regular.specs.Change.{IsAmong}
use Rattle.safe_regular.specs.Writes.{IsAddedOf}
use Rattle.safe_regular.proofs.Lists.{kept, kept_present}

abbrev is_other : Option OpId → Op → Bool
is_other id op = not (has_id id op)

-- the operations of other ids
abbrev pub others_of : List Op → Option OpId → List Op
others_of ops id = filter (is_other id) ops

pub other_present : (ops : List Op) (id : Option OpId) (x : Op) → Contains (others_of ops id) x → Contains ops x
other_present ops id x h = kept_present (is_other id) ops x h

kept_passes : (test : Op → Bool) (ops : List Op) (x : Op) → Contains (filter test ops) x → test x ≡ true
kept_passes test [] x h = absurd (omega (arith, h.1))
kept_passes test (a ∷ ops) x h = by_cases (test a) refl h (kept_passes test ops x)
  where
    first : test a ≡ true → (k : Contains (a ∷ filter test ops) x) → (Contains (filter test ops) x → test x ≡ true) → test x ≡ true
    first t (zero, lt, e) rest = rw (← e) t
    first t (suc k, lt, e) rest = rest (k, omega arith, e)

    by_cases : (t : Bool) → test a ≡ t → Contains (cond t (a ∷ filter test ops) (filter test ops)) x → (Contains (filter test ops) x → test x ≡ true) → test x ≡ true
    by_cases true t h rest = first t h rest
    by_cases false t h rest = rest h

pub other_apart : (ops : List Op) (id : Option OpId) (x : Op) → Contains (others_of ops id) x → has_id id x ≡ false
other_apart ops id x h = not-true (has_id id x) (kept_passes (is_other id) ops x h)

pub in_others : (ops : List Op) (id : Option OpId) (x : Op) → Contains ops x → has_id id x ≡ false → Contains (others_of ops id) x
in_others ops id x h apart = kept (is_other id) ops x h (not_from_false (has_id id x) apart)

-- before the edit: each operation is one of the others, or the old one
pub before_cases : (ops : List Op) (id : Option OpId) → HasDistinctIds ops → (x : Op) → Contains ops x → IsAmong (others_of ops id) (found_by ops id) x
before_cases ops id distinct x h = by_cases (cases_Bool (has_id id x))
  where
    by_cases : (has_id id x ≡ true) ⊎ (has_id id x ≡ false) → IsAmong (others_of ops id) (found_by ops id) x
    by_cases (inl t) = inr (found_again ops id x distinct h t)
    by_cases (inr f) = inl (in_others ops id x h f)

-- an amendment changes the operation of its id and no other
amended_one : (id : OpId) (change : Change) (a : Op) → same_id a.id id ≡ true → amended id change a ≡ changed a change
amended_one id change a t = rw t refl

amended_other : (id : OpId) (change : Change) (a : Op) → same_id a.id id ≡ false → amended id change a ≡ a
amended_other id change a f = rw f refl

in_image : (f : Op → Op) (ops : List Op) (x : Op) → Contains ops x → Contains (map f ops) (f x)
in_image f [] x h = absurd (omega (arith, h.1))
in_image f (a ∷ ops) x (zero, lt, e) = (0, omega arith, ap f e)
in_image f (a ∷ ops) x (suc k, lt, e) = let h = in_image f ops x (k, omega arith, e) in (suc h.0, omega (arith, h.1), h.2)

from_image : (f : Op → Op) (ops : List Op) (y : Op) → Contains (map f ops) y → (x : Op) × Contains ops x × (f x ≡ y)
from_image f [] y h = absurd (omega (arith, h.1))
from_image f (a ∷ ops) y (zero, lt, e) = (a, (0, omega arith, refl), e)
from_image f (a ∷ ops) y (suc k, lt, e) = let h = from_image f ops y (k, omega arith, e) in (h.0, (suc h.1.0, omega (arith, h.1.1), h.1.2), h.2)

from_changed : (change : Change) (o : Option Op) (x : Op) → option_map (λ op. changed op change) o ≡ Some x → (a : Op) × (o ≡ Some a) × (changed a change ≡ x)
from_changed change None x e = absurd (cc)
from_changed change (Some a) x e = (a, refl, (cc))

-- after the edit: the others are still there
pub other_after : (ops : List Op) (edit : Edit) (x : Op) → Contains (others_of ops (edit_id edit)) x → Contains (edited ops edit) x
other_after ops (Append op) x h = Contains-append_left ops (op ∷ []) x (other_present ops (Some op.id) x h)
other_after ops (Amend id change) x h =
    subst (λ (o : Op). Contains (map (amended id change) ops) o) (amended_other id change x (other_apart ops (Some id) x h)) (in_image (amended id change) ops x (other_present ops (Some id) x h))
other_after ops (Withdraw id) x h = h
other_after ops (Claim kind) x h = other_present ops None x h

pub new_present : (ops : List Op) (edit : Edit) (x : Op) → new_op ops edit ≡ Some x → Contains (edited ops edit) x × (has_id (edit_id edit) x ≡ true)
new_present ops (Append op) x e = let same : op ≡ x = cc in subst (λ (o : Op). Contains (ops ++ op ∷ []) o × (same_id o.id op.id ≡ true)) same (Contains-push ops op, same_id-refl op.id)
new_present ops (Amend id change) x e =
    let a = from_changed change (op_of ops id) x e in
    let old = found_present ops (Some id) a.0 a.1 in
    subst (λ (o : Op). Contains (map (amended id change) ops) o × (same_id o.id id ≡ true)) a.2
    (subst (λ (o : Op). Contains (map (amended id change) ops) o) (amended_one id change a.0 old.1) (in_image (amended id change) ops a.0 old.0), old.1)
new_present ops (Withdraw id) x e = absurd (cc)
new_present ops (Claim kind) x e = absurd (cc)

pub after_cases : (ops : List Op) (edit : Edit) → HasDistinctIds ops → first_refusal ops edit ≡ None → (x : Op) → Contains (edited ops edit) x → IsAmong (others_of ops (edit_id edit)) (new_op ops edit) x
after_cases ops (Append op) distinct accepted x h = by_cases (Contains-push_cases ops op x h)
  where
    by_cases : Contains ops x ⊎ (op ≡ x) → IsAmong (others_of ops (Some op.id)) (Some op) x
    by_cases (inl present) = inl (in_others ops (Some op.id) x present
        (All-contains (λ o. same_id o.id op.id ≡ false) ops x (none_of ops op.id (not_taken (op_of ops op.id) (moments_refusal ops op) accepted)) present))
    by_cases (inr e) = inr (ap Some e)
after_cases ops (Amend id change) distinct accepted x h = let a = from_image (amended id change) ops x h in by_cases a.0 a.1 a.2 (cases_Bool (same_id a.0.id id))
  where
    by_cases : (a : Op) → Contains ops a → amended id change a ≡ x → (same_id a.id id ≡ true) ⊎ (same_id a.id id ≡ false) → IsAmong (others_of ops (Some id)) (new_op ops (Amend id change)) x
    by_cases a present e (inl t) =
        inr (ap (option_map (λ op. changed op change)) (sym (found_alike ops a.id id t) ∙ found_by_id ops a distinct present) ∙ ap Some (sym (amended_one id change a t) ∙ e))
    by_cases a present e (inr f) = inl (subst (λ (o : Op). Contains (others_of ops (Some id)) o) (sym (amended_other id change a f) ∙ e) (in_others ops (Some id) a present f))
after_cases ops (Withdraw id) distinct accepted x h = inl h
after_cases ops (Claim kind) distinct accepted x h = inl (in_others ops None x h refl)

-- the writes of a list that has one operation more than the others
module _ (others : List Op) (id : Option OpId) (others_apart : (x : Op) → Contains others x → has_id id x ≡ false) where
  pub added_of : (one : Option Op) (ops : List Op) → AreSequential ops → ((x : Op) → Contains others x → Contains ops x) → ((x : Op) → one ≡ Some x → Contains ops x × (has_id id x ≡ true))
      → ((x : Op) → Contains ops x → IsAmong others one x) → IsAddedOf others one ops
  added_of None ops apart stay present cases = record { kept = λ v write h. stay v h; only = λ v write h. by_cases v (cases v h) }
    where
      by_cases : (v : Op) → IsAmong others None v → Contains others v
      by_cases v (inl h) = h
      by_cases v (inr e) = absurd (cc)
  added_of (Some op) ops apart stay present cases = record {
    added = λ write. (present op refl).0;
    kept = λ v write h. stay v h;
    only = λ v write h. by_cases v (cases v h);
    apart = λ write v h wv e. both_ways (has_id id v) (others_apart v h) (subst (λ (o : Op). has_id id o ≡ true) (sym (apart.one v op (stay v h) (present op refl).0 wv write e)) (present op refl).1);
  }
    where
      by_cases : (v : Op) → IsAmong others (Some op) v → Contains others v ⊎ (v ≡ op)
      by_cases v (inl h) = inl h
      by_cases v (inr e) = inr (cc)

-- the writes before the edit are those of the others and the one that goes, those after it and the one that comes
pub goes : (ops : List Op) (id : Option OpId) → HasDistinctIds ops → AreSequential ops → IsAddedOf (others_of ops id) (found_by ops id) ops
goes ops id distinct apart = added_of (others_of ops id) id (other_apart ops id) (found_by ops id) ops apart (other_present ops id) (found_present ops id) (before_cases ops id distinct)

pub comes : (ops : List Op) (edit : Edit) → HasDistinctIds ops → first_refusal ops edit ≡ None → AreSequential (edited ops edit) → IsAddedOf (others_of ops (edit_id edit)) (new_op ops edit) (edited ops edit)
comes ops edit distinct accepted apart =
    added_of (others_of ops (edit_id edit)) (edit_id edit) (other_apart ops (edit_id edit)) (new_op ops edit) (edited ops edit) apart (other_after ops edit) (new_present ops edit) (after_cases ops edit distinct accepted)
