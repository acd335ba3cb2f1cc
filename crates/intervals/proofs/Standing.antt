-- `StandApart` is true after each accepted edit, and so after any list of edits.
use Rattle.std.proofs.Common.{◌≡◌, ◌≢◌, ◌<◌, false, List, [], ◌∷◌, Option, Some, None, refl, sym, ap, ◌∙◌, cond, arith}
use Rattle.std.specs.Prelude.{IfSome, is_some, slice_index_or}
use Rattle.std.specs.List.{AllPairs}
use Rattle.std.proofs.lemmas.List.Elements.{All-nil}
use Rattle.std.proofs.lemmas.Bool.Decides.{not_from_Decides}
use Rattle.intervals.specs.declared.operation.Op.{Op}
use Rattle.intervals.specs.declared.edit.Edit.{Edit}
use Rattle.intervals.specs.declared.edit.Edit.TheVariants.{Append, Amend, Withdraw, Claim}
use Rattle.intervals.specs.declared.refusal.Refusal.{Refusal}
use Rattle.intervals.specs.declared.claim.Kind.TheVariants.{Atomic}
use Rattle.intervals.specs.Terms.{ClaimModel, RegisterState, IsKnownUnlessAtomic, unedited, state_of}
use Rattle.intervals.specs.Operation.{IsWrite, Overlaps, same_id, value_of}
use Rattle.intervals.specs.Edit.{edited, new_op, claim_after}
use Rattle.intervals.specs.Refusal.{first_refusal, has_large_moment, moments_refusal, reply_to, carried_out, after_edit, standing}
use Rattle.intervals.specs.Standing.{ShareNoMoment, HasDistinctMoments, HasEndsAfterBeginnings, HasNoOverlappingWrites, HasOwnValues, IsInitial, IsPermitted, StandApart}
use Rattle.intervals.proofs.Ids.{distinct_edited, Decides-same_id_is}
use Rattle.intervals.proofs.EachPair.{each_edited, pairs_edited}
use Rattle.intervals.proofs.Claimed.{HaveOtherValues, claimed_apart}
use Rattle.intervals.proofs.Accepted.{claim_accepted, one_writer_known, edit_accepted, moments_accepted, write_accepted, ends_late, moments_low, shares_none, overlaps_none, values_free}

-- where both operations are writes, they do not overlap
abbrev pub AreApart : Op → Op → Type 0
AreApart v w = IsWrite v → IsWrite w → ¬ Overlaps v w

no_pairs : (R : Op → Op → Type 0) → AllPairs R []
no_pairs R = λ i j d lt lt'. absurd (omega arith)

-- where no operation stands
pub nothing_apart : (claim : ClaimModel) → StandApart (unedited claim)
nothing_apart claim = record {
  ids = tt;
  moments = no_pairs ShareNoMoment;
  ends = All-nil _;
  low = All-nil _;
  allowed = All-nil _;
  writes = λ one_writer. no_pairs AreApart;
  values = λ atomic. record { apart = no_pairs HaveOtherValues; new = All-nil _ };
}

-- after an accepted edit
module _ (held : RegisterState) (edit : Edit) (apart : StandApart held) (e : reply_to held edit ≡ None) where
  accepted : first_refusal held.ops edit ≡ None
  accepted = edit_accepted held edit e

  moments_of_new : (new : Op) → new_op held.ops edit ≡ Some new → moments_refusal held.ops new ≡ None
  moments_of_new new is = moments_accepted held.ops edit new accepted is

  moments_kept : HasDistinctMoments (edited held.ops edit)
  moments_kept =
      pairs_edited ShareNoMoment (λ a b none moment of_b of_a. none moment of_a of_b) held.ops edit apart.ids apart.moments accepted
      (λ new is. shares_none held.ops new (moments_of_new new is))

  ends_kept : HasEndsAfterBeginnings (edited held.ops edit)
  ends_kept = each_edited (λ op. IfSome op.end (λ end. op.begin.0 < end.0)) held.ops edit apart.ids apart.ends (λ new is. ends_late held.ops new (moments_of_new new is))

  writes_kept : held.claim.kind ≢ Atomic → HasNoOverlappingWrites (edited held.ops edit)
  writes_kept one_writer =
      pairs_edited AreApart (λ v w apart write_w write_v (before, after). apart write_v write_w (after, before)) held.ops edit apart.ids (apart.writes one_writer) accepted
      (λ new is k f lt other write over. overlaps_none held.claim.kind held.claim held.ops new one_writer (write_accepted held edit new e is write).1 write k f lt other over)

  values_kept : held.claim.kind ≡ Atomic → HasOwnValues held.claim (edited held.ops edit)
  values_kept atomic = record {
    apart = pairs_edited HaveOtherValues (λ v w apart write_w write_v same. apart write_v write_w (sym same)) held.ops edit apart.ids (apart.values atomic).apart accepted
        (λ new is k f lt other write over same.
        (values_free held.claim.kind held.claim held.ops new atomic (write_accepted held edit new e is write).1).1 k f lt
        (not_from_Decides (same_id (slice_index_or held.ops k f).id new.id) (Decides-same_id_is (slice_index_or held.ops k f).id new.id) other, over, sym same));
    new = each_edited (λ w. IsWrite w → ¬ IsInitial held.claim (value_of w.act)) held.ops edit apart.ids (apart.values atomic).new
        (λ new is write. (values_free held.claim.kind held.claim held.ops new atomic (write_accepted held edit new e is write).1).0);
  }

  pub edited_apart : StandApart (state_of held.claim (edited held.ops edit))
  edited_apart = record {
    ids = distinct_edited held.ops edit apart.ids accepted;
    moments = moments_kept;
    ends = ends_kept;
    low = each_edited (λ op. has_large_moment op ≡ false) held.ops edit apart.ids apart.low (λ new is. moments_low held.ops new (moments_of_new new is));
    allowed = each_edited (λ w. IsWrite w → IsPermitted held.claim w) held.ops edit apart.ids apart.allowed (λ new is write. (write_accepted held edit new e is write).0);
    writes = writes_kept;
    values = values_kept;
  }

pub carried_out_apart : (held : RegisterState) (edit : Edit) → StandApart held → reply_to held edit ≡ None → StandApart (carried_out held edit)
carried_out_apart held (Append op) apart e = edited_apart held (Append op) apart e
carried_out_apart held (Amend id change) apart e = edited_apart held (Amend id change) apart e
carried_out_apart held (Withdraw id) apart e = edited_apart held (Withdraw id) apart e
carried_out_apart held (Claim kind) apart e = claimed_apart kind held apart (claim_accepted kind held e)

-- the initial value of a safe or regular register stays known
pub carried_out_known : (held : RegisterState) (edit : Edit) → IsKnownUnlessAtomic held.claim → reply_to held edit ≡ None → IsKnownUnlessAtomic (carried_out held edit).claim
carried_out_known held (Append op) known e = known
carried_out_known held (Amend id change) known e = known
carried_out_known held (Withdraw id) known e = known
carried_out_known held (Claim kind) known e = one_writer_known kind held.claim held.ops (claim_accepted kind held e)

-- after one edit, accepted or not
pub after_one : (P : RegisterState → Type 0) (held : RegisterState) (edit : Edit) → P held → (reply_to held edit ≡ None → P (carried_out held edit)) → P (after_edit held edit)
after_one P held edit p kept = by_cases (reply_to held edit) refl
  where
    by_cases : (reply : Option Refusal) → reply_to held edit ≡ reply → P (cond (is_some reply) held (carried_out held edit))
    by_cases (Some refusal) e = p
    by_cases None e = kept e

after_all : (held : RegisterState) (edits : List Edit) → StandApart held → StandApart (standing held edits)
after_all held [] apart = apart
after_all held (edit ∷ edits) apart =
    after_all (after_edit held edit) edits (after_one StandApart held edit apart (carried_out_apart held edit apart))

known_after_all : (held : RegisterState) (edits : List Edit) → IsKnownUnlessAtomic held.claim → IsKnownUnlessAtomic (standing held edits).claim
known_after_all held [] known = known
known_after_all held (edit ∷ edits) known =
    known_after_all (after_edit held edit) edits (after_one (λ (h : RegisterState). IsKnownUnlessAtomic h.claim) held edit known (carried_out_known held edit known))

pub standing_known : (claim : ClaimModel) (edits : List Edit) → IsKnownUnlessAtomic claim → IsKnownUnlessAtomic (standing (unedited claim) edits).claim
standing_known claim edits known = known_after_all (unedited claim) edits known

pub standing_apart : (claim : ClaimModel) (edits : List Edit) → StandApart (standing (unedited claim) edits)
standing_apart claim edits = after_all (unedited claim) edits (nothing_apart claim)

-- the two claims differ in the kind at most
abbrev pub IsOfKind : ClaimModel → ClaimModel → Type 0
IsOfKind claim other = other ≡ record claim { kind = other.kind }

of_kind_after : (claim : ClaimModel) (edit : Edit) → IsOfKind claim (claim_after claim edit)
of_kind_after claim (Append op) = refl
of_kind_after claim (Amend id change) = refl
of_kind_after claim (Withdraw id) = refl
of_kind_after claim (Claim kind) = refl

kind_alone : (held : RegisterState) (edits : List Edit) → IsOfKind held.claim (standing held edits).claim
kind_alone held [] = refl
kind_alone held (edit ∷ edits) =
    let after : RegisterState = after_edit held edit in
    let last : ClaimModel = (standing after edits).claim in
    kind_alone after edits
    ∙ ap (λ (claim : ClaimModel). record claim { kind = last.kind }) (after_one (λ (h : RegisterState). IsOfKind held.claim h.claim) held edit refl (λ e. of_kind_after held.claim edit))

pub kind_alone_changes : (claim : ClaimModel) (edits : List Edit) → IsOfKind claim (standing (unedited claim) edits).claim
kind_alone_changes claim edits = kind_alone (unedited claim) edits
