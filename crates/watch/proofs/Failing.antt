-- A register that holds after edits that come last held before them.
use Rattle.std.proofs.Common.{◌≡◌, ◌⊎◌, inl, inr, Bool, true, false, List, [], ◌∷◌, ◌++◌, None, refl, ap, ◌∙◌, subst}
use Rattle.intervals.specs.declared.operation.Op.{Op}
use Rattle.intervals.specs.declared.operation.Value.{Value}
use Rattle.intervals.specs.declared.edit.Edit.{Edit}
use Rattle.intervals.specs.declared.edit.Edit.TheVariants.{Append, Amend, Withdraw, Claim}
use Rattle.intervals.specs.declared.claim.Kind.{Kind}
use Rattle.intervals.specs.declared.claim.Kind.TheVariants.{Safe, Regular, Atomic}
use Rattle.intervals.specs.Terms.{ClaimModel, RegisterState, unedited, state_of}
use Rattle.intervals.specs.Operation.{judged}
use Rattle.intervals.specs.Edit.{edited, claim_after}
use Rattle.intervals.specs.Kind.{IsArranged, HasNoWrite, IsAtomicWhere, Keeps, Holds}
use Rattle.intervals.specs.Refusal.{reply_to, carried_out, after_edit, standing}
use Rattle.intervals.specs.Standing.{StandApart}
use Rattle.intervals.proofs.Standing.{after_one, carried_out_apart, standing_apart, kind_alone_changes}
use Rattle.watch.specs.Coming.{ComesLast, ComeInOrder, LeavesReadValues, LeaveReadValues}
use Rattle.watch.proofs.Orders.{IsOrdered, ordered_from, arranged_from}
use Rattle.watch.proofs.RightReads.{StayUnder, safe_earlier, regular_earlier}
use Rattle.watch.proofs.AfterAppend.{stay_under_append, ordered_append, no_write_append}
use Rattle.watch.proofs.AfterAmend.{stay_under_amend, ordered_amend, no_write_amend}
use Rattle.watch.proofs.AfterWithdraw.{stay_under_withdraw, ordered_withdraw, unknown_withdraw}

-- an order of an atomic register before an edit, of a known and of an unknown initial value
abbrev OrdersBefore : List Op → List Op → Type 0
OrdersBefore ops after = (initial : Value) → IsOrdered initial (judged after) → IsOrdered initial (judged ops)

abbrev UnknownBefore : List Op → List Op → Type 0
UnknownBefore ops after = (value : Value) → HasNoWrite after value → IsOrdered value (judged after) → (initial : Value) × HasNoWrite ops initial × IsOrdered initial (judged ops)

module _ (claim : ClaimModel) (ops after : List Op) (apart : StandApart (state_of claim ops)) (stay : StayUnder ops after) (orders : OrdersBefore ops after) where
  arranged_earlier : IsArranged claim after → IsArranged claim ops
  arranged_earlier h = arranged_from claim ops (orders claim.initial (ordered_from claim after h))

  atomic_earlier : (known : Bool) → (known ≡ true) ⊎ UnknownBefore ops after → IsAtomicWhere known claim after → IsAtomicWhere known claim ops
  atomic_earlier true either h = arranged_earlier h
  atomic_earlier false (inl t) h = absurd (cc)
  atomic_earlier false (inr unknown) (value, none, arranged) =
      let (initial, free, ordered) = unknown value none (ordered_from (record claim { initial = value }) after arranged) in
      (initial, free, arranged_from (record claim { initial = initial }) ops ordered)

  kept_earlier : (kind : Kind) → (claim.known ≡ true) ⊎ UnknownBefore ops after → Keeps kind claim after → Keeps kind claim ops
  kept_earlier Safe either h = safe_earlier claim ops after apart.allowed stay h
  kept_earlier Regular either h = regular_earlier claim ops after apart.allowed stay h
  kept_earlier Atomic either h = atomic_earlier claim.known either h

  held_earlier : (claim.known ≡ true) ⊎ UnknownBefore ops after → Holds (state_of claim after) → Holds (state_of claim ops)
  held_earlier = kept_earlier claim.kind

-- the initial value is known, or the edit leaves the values that reads returned
abbrev MayCome : RegisterState → Edit → Type 0
MayCome held edit = (held.claim.known ≡ true) ⊎ LeavesReadValues held.ops edit

pub holds_before : (held : RegisterState) (edit : Edit) → StandApart held → reply_to held edit ≡ None → ComesLast held.ops edit → MayCome held edit
    → Holds (carried_out held edit) → Holds held
holds_before held (Append op) apart accepted (no_end, latest) may h =
    let claim = held.claim in
    let ops = held.ops in
    held_earlier claim ops (ops ++ op ∷ []) apart
    (stay_under_append claim ops op accepted no_end latest)
    (ordered_append claim ops op accepted no_end latest)
    (inr (λ value none ordered. (value, no_write_append claim ops op accepted no_end latest value none, ordered_append claim ops op accepted no_end latest value ordered)))
    h
holds_before held (Amend id change) apart accepted ends may h =
    let ops = held.ops in
    held_earlier held.claim ops (edited ops (Amend id change)) apart
    (stay_under_amend ops id change ends)
    (ordered_amend ops id change ends)
    (inr (λ value none ordered. (value, no_write_amend ops id change ends value none, ordered_amend ops id change ends value ordered)))
    h
holds_before held (Withdraw id) apart accepted unfinished may h =
    let ops = held.ops in
    held_earlier held.claim ops (edited ops (Withdraw id)) apart
    (stay_under_withdraw ops id unfinished)
    (ordered_withdraw ops id unfinished)
    (by_cases may)
    h
  where
    by_cases : (held.claim.known ≡ true) ⊎ LeavesReadValues held.ops (Withdraw id) → (held.claim.known ≡ true) ⊎ UnknownBefore held.ops (edited held.ops (Withdraw id))
    by_cases (inl t) = inl t
    by_cases (inr unread) = inr (unknown_withdraw held.ops id unfinished unread)
holds_before held (Claim kind) apart accepted last may h = absurd last

same_claim : (claim : ClaimModel) (ops : List Op) (edit : Edit) → ComesLast ops edit → claim_after claim edit ≡ claim
same_claim claim ops (Append op) last = refl
same_claim claim ops (Amend id change) last = refl
same_claim claim ops (Withdraw id) last = refl
same_claim claim ops (Claim kind) last = absurd last

-- the initial value is known, or the edits leave the values that reads returned
abbrev MayAllCome : RegisterState → List Edit → Type 0
MayAllCome held edits = (held.claim.known ≡ true) ⊎ LeaveReadValues held edits

may_first : (held : RegisterState) (edit : Edit) (edits : List Edit) → reply_to held edit ≡ None → MayAllCome held (edit ∷ edits) → MayCome held edit
may_first held edit edits accepted (inl t) = inl t
may_first held edit edits accepted (inr leave) = inr (leave.0 accepted)

may_rest : (held : RegisterState) (edit : Edit) (edits : List Edit) → ((reply_to held edit ≡ None) → ComesLast held.ops edit) → MayAllCome held (edit ∷ edits) → MayAllCome (after_edit held edit) edits
may_rest held edit edits last (inr leave) = inr leave.1
may_rest held edit edits last (inl t) =
    inl (after_one (λ (h : RegisterState). h.claim.known ≡ true) held edit t (λ accepted. ap (λ (claim : ClaimModel). claim.known) (same_claim held.claim held.ops edit (last accepted)) ∙ t))

pub held_before : (held : RegisterState) (edits : List Edit) → StandApart held → ComeInOrder held edits → MayAllCome held edits
    → Holds (standing held edits) → Holds held
held_before held [] apart order may h = h
held_before held (edit ∷ edits) apart order may h =
    after_one (λ (next : RegisterState). Holds next → Holds held) held edit
    (λ k. k)
    (λ accepted. holds_before held edit apart accepted (order.0 accepted) (may_first held edit edits accepted may))
    (held_before (after_edit held edit) edits
    (after_one StandApart held edit apart (carried_out_apart held edit apart))
    order.1 (may_rest held edit edits order.0 may) h)

pub standing_append : (held : RegisterState) (edits later : List Edit) → standing held (edits ++ later) ≡ standing (standing held edits) later
standing_append held [] later = refl
standing_append held (edit ∷ edits) later = standing_append (after_edit held edit) edits later

module _ (claim : ClaimModel) (edits later : List Edit) where
  abbrev held : RegisterState
  held = standing (unedited claim) edits

  pub fails_again : ComeInOrder held later → MayAllCome held later → ¬ Holds held
      → ¬ Holds (standing (unedited claim) (edits ++ later))
  fails_again order may fails h =
      fails (held_before held later (standing_apart claim edits) order may
      (subst Holds (standing_append (unedited claim) edits later) h))

  still_known : claim.known ≡ true → held.claim.known ≡ true
  still_known t = ap (λ (c : ClaimModel). c.known) (kind_alone_changes claim edits) ∙ t

  pub fails_again_known : claim.known ≡ true → ComeInOrder held later → ¬ Holds held
      → ¬ Holds (standing (unedited claim) (edits ++ later))
  fails_again_known t order = fails_again order (inl (still_known t))

  pub fails_again_unread : ComeInOrder held later → LeaveReadValues held later → ¬ Holds held
      → ¬ Holds (standing (unedited claim) (edits ++ later))
  fails_again_unread order leave = fails_again order (inr leave)
