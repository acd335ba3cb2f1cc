-- What has the value of a write already, and the refusal by it (X8).
use Rattle.std.proofs.Common.{Decides, ◌≡◌, ◌↔◌, Bool, true, false, not, ◌&&◌, List, Option, Some, None, refl, sym, ap, cond}
use Rattle.std.specs.Prelude.{All, Contains, find, option_map, slice_index_or}
use Rattle.std.proofs.lemmas.Bool.Decides.{Decides-and, Decides-not, Decides-like, not_from_Decides}
use Rattle.intervals.specs.declared.operation.Op.{Op}
use Rattle.intervals.specs.declared.operation.OpId.{OpId}
use Rattle.intervals.specs.declared.operation.Value.{Value}
use Rattle.intervals.specs.declared.claim.Holder.TheVariants as holders
use Rattle.intervals.specs.declared.refusal.Refusal.{Refusal}
use Rattle.intervals.specs.declared.refusal.Refusal.TheVariants.{ValueTaken}
use Rattle.intervals.specs.Terms.{ClaimModel}
use Rattle.intervals.specs.Operation.{is_write, same_id, same_value, value_of}
use Rattle.intervals.specs.Refusal.{as_holder, holder_of, is_holder, is_initial, value_refusal}
use Rattle.intervals.specs.Standing.{IsHolder, IsInitial}
use Rattle.intervals.proofs.Agreement.{Decides-IsTrue, Decides-same_value}
use Rattle.intervals.proofs.Found.{not_mapped, find-None, find-none, find-Some}
use Rattle.intervals.proofs.Ids.{Decides-same_id_is}

pub Decides-is_holder : (op other : Op) → Decides (is_holder op other) (IsHolder op other)
Decides-is_holder op other =
    let apart = Decides-and (not (same_id other.id op.id)) (is_write other) (Decides-not (same_id other.id op.id) (Decides-same_id_is other.id op.id)) (Decides-IsTrue (is_write other)) in
    Decides-like (is_holder op other) (λ h. (h.0.0, h.0.1, h.1)) (λ h. ((h.0, h.1), h.2))
    (Decides-and (not (same_id other.id op.id) && is_write other) (same_value (value_of other.act) (value_of op.act)) apart (Decides-same_value (value_of other.act) (value_of op.act)))

-- the refusal, by whether the value is the initial one and by the other write of it, if any
abbrev taken : Bool → Option Op → Option Refusal
taken initial found = option_map ValueTaken (cond initial (Some holders.Initial) (option_map as_holder found))

pub Decides-is_initial : (claim : ClaimModel) (value : Value) → Decides (is_initial claim value) (IsInitial claim value)
Decides-is_initial claim value =
    Decides-like (is_initial claim value) (λ h. (h.0, sym h.1)) (λ h. (h.0, sym h.1))
    (Decides-and claim.known (same_value claim.initial value) (Decides-IsTrue claim.known) (Decides-same_value claim.initial value))

module _ (claim : ClaimModel) (ops : List Op) (op : Op) where
  abbrev has_initial : Bool
  has_initial = is_initial claim (value_of op.act)

  abbrev HasInitial : Type 0
  HasInitial = IsInitial claim (value_of op.act)

  it_is : has_initial ≡ true → HasInitial
  it_is t = (Decides-is_initial claim (value_of op.act)).0 t

  it_is_not : has_initial ≡ false → ¬ HasInitial
  it_is_not f e = not_from_Decides has_initial (Decides-is_initial claim (value_of op.act)) f e

  pub initial_exactly : (value_refusal claim ops op ≡ Some (ValueTaken holders.Initial)) ↔ HasInitial
  initial_exactly = by_cases has_initial (find (is_holder op) ops) refl
    where
      by_cases : (t : Bool) (found : Option Op) → has_initial ≡ t → (taken t found ≡ Some (ValueTaken holders.Initial)) ↔ HasInitial
      by_cases true found t = (λ e. it_is t, λ e. refl)
      by_cases false None t = (λ e. absurd (cc), λ e. absurd (it_is_not t e))
      by_cases false (Some other) t = (λ e. absurd (cc), λ e. absurd (it_is_not t e))

  pub named_write : (id : OpId) → value_refusal claim ops op ≡ Some (ValueTaken (holders.Op id)) → (other : Op) × (other.id ≡ id) × Contains ops other × IsHolder op other
  named_write id = by_cases has_initial (find (is_holder op) ops) refl
    where
      by_cases : (t : Bool) (found : Option Op) → find (is_holder op) ops ≡ found → taken t found ≡ Some (ValueTaken (holders.Op id)) → (other : Op) × (other.id ≡ id) × Contains ops other × IsHolder op other
      by_cases true found f e = absurd (cc)
      by_cases false None f e = absurd (cc)
      by_cases false (Some other) f e = let h = find-Some (is_holder op) ops other f in (other, (cc), h.0, (Decides-is_holder op other).0 h.1)

  pub none_exactly : (value_refusal claim ops op ≡ None) ↔ ((¬ HasInitial) × All (λ other. ¬ IsHolder op other) ops)
  none_exactly = by_cases has_initial refl
    where
      by_cases : (t : Bool) → has_initial ≡ t → (taken t (find (is_holder op) ops) ≡ None) ↔ ((¬ HasInitial) × All (λ other. ¬ IsHolder op other) ops)
      by_cases true t = (λ e. absurd (cc), λ h. absurd (h.0 (it_is t)))
      by_cases false t = (
        (λ e. (it_is_not t, λ k d lt. not_from_Decides (is_holder op (slice_index_or ops k d)) (Decides-is_holder op (slice_index_or ops k d)) (find-None (is_holder op) ops (not_mapped as_holder (find (is_holder op) ops) (not_mapped ValueTaken (option_map as_holder (find (is_holder op) ops)) e)) k d lt))),
        (λ h. rw (find-none (is_holder op) ops (λ k d lt holds. h.1 k d lt ((Decides-is_holder op (slice_index_or ops k d)).0 holds))) refl),
      )

  -- where nothing has the value, neither the register at first nor another write has it
  pub nobody : holder_of claim ops op ≡ None → (¬ HasInitial) × All (λ other. ¬ IsHolder op other) ops
  nobody e = none_exactly.0 (ap (option_map ValueTaken) e)

  pub nobody_back : (¬ HasInitial) → All (λ other. ¬ IsHolder op other) ops → value_refusal claim ops op ≡ None
  nobody_back other none = none_exactly.1 (other, none)
