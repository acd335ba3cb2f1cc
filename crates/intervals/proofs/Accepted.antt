-- What is so of the operation that an accepted edit makes.
use Rattle.std.proofs.Common.{◌≡◌, ◌≢◌, ◌==◌, ℕ, ◌<◌, inl, inr, Bool, true, false, not, ◌&&◌, ◌||◌, List, [], ◌∷◌, Option, Some, None, refl, sym, ap, ◌∙◌, cond, subst, arith}
use Rattle.std.specs.Prelude.{All, IfSome, option_map, is_some, nat_le, slice_index_or}
use Rattle.std.proofs.lemmas.Bool.Decides.{Decides-eqb, Decides-or, nat_tests}
use Rattle.intervals.specs.declared.operation.Op.{Op}
use Rattle.intervals.specs.declared.operation.OpId.{OpId}
use Rattle.intervals.specs.declared.operation.Moment.{Moment}
use Rattle.intervals.specs.declared.edit.Edit.{Edit}
use Rattle.intervals.specs.declared.edit.Edit.TheVariants.{Append, Amend, Withdraw, Claim}
use Rattle.intervals.specs.declared.claim.Kind.{Kind}
use Rattle.intervals.specs.declared.claim.Kind.TheVariants.{Safe, Regular, Atomic}
use Rattle.intervals.specs.declared.refusal.Refusal.{Refusal}
use Rattle.intervals.specs.declared.refusal.Refusal.TheVariants.{OpTaken, EndNotAfterBegin, MomentTooLarge, NotAWriter, OutOfDomain, ClaimFixed, ClaimWriters, ClaimInitial}
use Rattle.intervals.specs.Terms.{ClaimModel, RegisterState}
use Rattle.intervals.specs.Operation.{Overlaps, IsWrite, is_write, overlaps, same_id, value_of}
use Rattle.intervals.specs.Edit.{op_of, new_op}
use Rattle.intervals.specs.Refusal.{first_present, refused_if, has_early_end, has_large_moment, is_in_domain, ends_by, is_at, is_moment_of, find_other_with, moment_taken, moments_refusal, amendment_refusal, first_refusal, may_write, is_overlapped, overlap_refusal, kind_refusal, new_write_refusal, first_overlap, is_one_writer, one_writer_refusal, overlap_claimed, to_kind_refusal, claim_refusal, reply_to}
use Rattle.intervals.specs.Standing.{IsMomentOf, ShareNoMoment, IsHolder, IsInitial, IsPermitted}
use Rattle.intervals.proofs.Agreement.{Decides-overlaps}
use Rattle.intervals.proofs.Found.{not_mapped, find-None}
use Rattle.intervals.proofs.Holders.{none_exactly}
use Rattle.intervals.proofs.LeastOf.{least_from-None}
use Rattle.intervals.specs.Least.{least_by}

-- where `first_present` finds none of two refusals, neither is there
none_of_two : (a b : Option Refusal) → first_present (a ∷ b ∷ []) ≡ None → (a ≡ None) × (b ≡ None)
none_of_two None None e = (refl, refl)
none_of_two None (Some refusal) e = absurd (cc)
none_of_two (Some refusal) b e = absurd (cc)

none_of_three : (a b c : Option Refusal) → first_present (a ∷ b ∷ c ∷ []) ≡ None → (a ≡ None) × (b ≡ None) × (c ≡ None)
none_of_three None b c e = let later = none_of_two b c e in (refl, later.0, later.1)
none_of_three (Some refusal) b c e = absurd (cc)

none_of_four : (a b c d : Option Refusal) → first_present (a ∷ b ∷ c ∷ d ∷ []) ≡ None → (a ≡ None) × (b ≡ None) × (c ≡ None) × (d ≡ None)
none_of_four None b c d e = let later = none_of_three b c d e in (refl, later.0, later.1, later.2)
none_of_four (Some refusal) b c d e = absurd (cc)

not_refused : (test : Bool) (refusal : Refusal) → refused_if test refusal ≡ None → test ≡ false
not_refused false refusal e = refl
not_refused true refusal e = absurd (cc)

not_and : (a b : Bool) → (not a && b) ≡ false → a ≡ false → b ≡ false
not_and true b e f = absurd (cc)
not_and false b e f = e

-- the moments of the new operation meet no refusal
pub moments_accepted : (ops : List Op) (edit : Edit) (new : Op) → first_refusal ops edit ≡ None → new_op ops edit ≡ Some new → moments_refusal ops new ≡ None
moments_accepted ops (Append op) new e is = by_cases (is_some (op_of ops op.id)) e is
  where
    by_cases : (t : Bool) → cond t (Some OpTaken) (moments_refusal ops op) ≡ None → Some op ≡ Some new → moments_refusal ops new ≡ None
    by_cases true e is = absurd (cc)
    by_cases false e is = let same : op ≡ new = cc in subst (λ (o : Op). moments_refusal ops o ≡ None) same e
moments_accepted ops (Amend id change) new e is = sym (ap (amendment_refusal ops) is) ∙ e
moments_accepted ops (Withdraw id) new e is = absurd (cc)
moments_accepted ops (Claim kind) new e is = absurd (cc)

-- where its moments meet no refusal, the new operation meets none of X3, X4 and X5
moments_apart : (ops : List Op) (op : Op) → moments_refusal ops op ≡ None → (refused_if (has_early_end op) EndNotAfterBegin ≡ None) × (moment_taken ops op.id (Some op.begin) ≡ None) × (moment_taken ops op.id op.end ≡ None) × (refused_if (has_large_moment op) MomentTooLarge ≡ None)
moments_apart ops op = none_of_four (refused_if (has_early_end op) EndNotAfterBegin) (moment_taken ops op.id (Some op.begin)) (moment_taken ops op.id op.end) (refused_if (has_large_moment op) MomentTooLarge)

not_at_most : (a b : ℕ) → nat_le a b ≡ false → b < a
not_at_most a b e = grind (arith, nat_tests)

-- the new operation ends after its beginning
pub ends_late : (ops : List Op) (op : Op) → moments_refusal ops op ≡ None → IfSome op.end (λ end. op.begin.0 < end.0)
ends_late ops op e = by_end op.end (not_refused (has_early_end op) EndNotAfterBegin (moments_apart ops op e).0)
  where
    by_end : (end : Option Moment) → ends_by end op.begin ≡ false → IfSome end (λ end. op.begin.0 < end.0)
    by_end None e = tt
    by_end (Some end) e = not_at_most end.0 op.begin.0 e

-- no moment of the new operation is past the greatest
pub moments_low : (ops : List Op) (op : Op) → moments_refusal ops op ≡ None → has_large_moment op ≡ false
moments_low ops op e = not_refused (has_large_moment op) MomentTooLarge (moments_apart ops op e).3

-- where the operation has a moment, the test of it passes
pub at_moment : (op : Op) (moment : Moment) → IsMomentOf op moment → is_moment_of op moment ≡ true
at_moment op moment (inl e) = (Decides-or (op.begin.0 == moment.0) _ (Decides-eqb op.begin.0 moment.0) (λ t. t, λ t. t)).1 (inl (ap (λ (m : Moment). m.0) e))
at_moment op moment (inr e) = by_begin (op.begin.0 == moment.0) (ap (λ (end : Option Moment). is_at end moment) e ∙ (Decides-eqb moment.0 moment.0).1 refl)
  where
    by_begin : (b : Bool) → is_at op.end moment ≡ true → (b || is_at op.end moment) ≡ true
    by_begin true t = refl
    by_begin false t = t

-- no other operation has the moment
none_with : (ops : List Op) (id : OpId) (moment : Moment) → moment_taken ops id (Some moment) ≡ None → All (λ other. same_id other.id id ≡ false → ¬ IsMomentOf other moment) ops
none_with ops id moment e k d lt f is =
    let other = slice_index_or ops k d in
    let none = find-None (λ op. not (same_id op.id id) && is_moment_of op moment) ops (not_mapped _ (find_other_with ops id moment) e) k d lt in
    let t = at_moment other moment is in
    let n = not_and (same_id other.id id) (is_moment_of other moment) none f in
    cc

-- the new operation has no moment in common with another
pub shares_none : (ops : List Op) (new : Op) → moments_refusal ops new ≡ None → All (λ other. same_id other.id new.id ≡ false → ShareNoMoment new other) ops
shares_none ops new e k d lt f moment (inl is) h =
    let begin = (moments_apart ops new e).1 in
    none_with ops new.id moment (subst (λ (m : Moment). moment_taken ops new.id (Some m) ≡ None) is begin) k d lt f h
shares_none ops new e k d lt f moment (inr is) h =
    let end = (moments_apart ops new e).2 in
    none_with ops new.id moment (subst (λ (m : Option Moment). moment_taken ops new.id m ≡ None) is end) k d lt f h

-- an accepted edit meets none of the three kinds of refusals: X1 to X5, X6 to X9, X10 to X14
pub accepted_by_all : (held : RegisterState) (edit : Edit) → reply_to held edit ≡ None
    → (first_refusal held.ops edit ≡ None) × (new_write_refusal held.claim held.ops (new_op held.ops edit) ≡ None) × (claim_refusal held.claim held.ops edit ≡ None)
accepted_by_all held edit e =
    none_of_three (first_refusal held.ops edit) (new_write_refusal held.claim held.ops (new_op held.ops edit)) (claim_refusal held.claim held.ops edit) e

-- an accepted edit meets none of X1 to X5
pub edit_accepted : (held : RegisterState) (edit : Edit) → reply_to held edit ≡ None → first_refusal held.ops edit ≡ None
edit_accepted held edit e = (accepted_by_all held edit e).0

not_false : (test : Bool) → not test ≡ false → test ≡ true
not_false true e = refl
not_false false e = absurd (cc)

-- where one writer may be claimed, there is one, the initial value is known, and no writes overlap
pub one_writer_accepted : (claim : ClaimModel) (ops : List Op) → one_writer_refusal claim ops ≡ None
    → (refused_if (not (is_one_writer claim.writers)) ClaimWriters ≡ None) × (refused_if (not claim.known) ClaimInitial ≡ None) × (option_map overlap_claimed (first_overlap ops) ≡ None)
one_writer_accepted claim ops e = none_of_three (refused_if (not (is_one_writer claim.writers)) ClaimWriters) (refused_if (not claim.known) ClaimInitial) (option_map overlap_claimed (first_overlap ops)) e

known_accepted : (claim : ClaimModel) (ops : List Op) → one_writer_refusal claim ops ≡ None → claim.known ≡ true
known_accepted claim ops e = not_false claim.known (not_refused (not claim.known) ClaimInitial (one_writer_accepted claim ops e).1)

-- where a kind other than atomic may be claimed, the initial value is known
pub one_writer_known : (kind : Kind) (claim : ClaimModel) (ops : List Op) → to_kind_refusal kind claim ops ≡ None → kind ≢ Atomic → claim.known ≡ true
one_writer_known Safe claim ops e one_writer = known_accepted claim ops e
one_writer_known Regular claim ops e one_writer = known_accepted claim ops e
one_writer_known Atomic claim ops e one_writer = absurd (one_writer refl)

-- an accepted claim meets none of X11 to X14
pub claim_accepted : (kind : Kind) (held : RegisterState) → reply_to held (Claim kind) ≡ None → to_kind_refusal kind held.claim held.ops ≡ None
claim_accepted kind held e = (none_of_two (refused_if held.claim.fixed ClaimFixed) (to_kind_refusal kind held.claim held.ops) (accepted_by_all held (Claim kind) e).2).1

-- a new write is permitted by the claim, and not refused by the kind of the register
pub write_accepted : (held : RegisterState) (edit : Edit) (new : Op) → reply_to held edit ≡ None → new_op held.ops edit ≡ Some new → IsWrite new
    → IsPermitted held.claim new × (kind_refusal held.claim.kind held.claim held.ops new ≡ None)
write_accepted held edit new e is write =
    by_cases (is_write new) write (sym (ap (new_write_refusal held.claim held.ops) is) ∙ (accepted_by_all held edit e).1)
  where
    is_writer : Bool
    is_writer = may_write held.claim.writers new.process

    has_value : Bool
    has_value = is_in_domain held.claim.domain (value_of new.act)

    by_cases : (t : Bool) → t ≡ true → cond t (first_present (refused_if (not is_writer) NotAWriter ∷ kind_refusal held.claim.kind held.claim held.ops new ∷ refused_if (not has_value) OutOfDomain ∷ [])) None ≡ None
        → IsPermitted held.claim new × (kind_refusal held.claim.kind held.claim held.ops new ≡ None)
    by_cases true t one =
        let none = none_of_three (refused_if (not is_writer) NotAWriter) (kind_refusal held.claim.kind held.claim held.ops new) (refused_if (not has_value) OutOfDomain) one in (
          record {
            writer = not_false is_writer (not_refused (not is_writer) NotAWriter none.0);
            value = not_false has_value (not_refused (not has_value) OutOfDomain none.2);
          },
          none.1,
        )
    by_cases false t one = absurd (cc)

not_overlapped : (ops : List Op) (new : Op) → overlap_refusal ops new ≡ None → All (λ other. same_id other.id new.id ≡ false → IsWrite other → ¬ Overlaps new other) ops
not_overlapped ops new e k d lt f write (before, after) =
    let other = slice_index_or ops k d in
    let none = (least_from-None (λ o. o.begin.0) (is_overlapped new) None ops (not_mapped _ (least_by (λ o. o.begin.0) (is_overlapped new) ops) e)).1 k d lt in
    none (overlapped (same_id other.id new.id) (is_write other) (overlaps other new) f write ((Decides-overlaps other new).1 (after, before)))
  where
    overlapped : (s w o : Bool) → s ≡ false → w ≡ true → o ≡ true → (not s && w && o) ≡ true
    overlapped s w o f g h = rw (f, g, h) refl

-- on a safe or regular register no write that stands overlaps the new one
pub overlaps_none : (kind : Kind) (claim : ClaimModel) (ops : List Op) (new : Op) → kind ≢ Atomic → kind_refusal kind claim ops new ≡ None → IsWrite new → All (λ other. same_id other.id new.id ≡ false → IsWrite other → ¬ Overlaps new other) ops
overlaps_none Atomic claim ops new one_writer e write = absurd (one_writer refl)
overlaps_none Safe claim ops new one_writer e write = not_overlapped ops new e
overlaps_none Regular claim ops new one_writer e write = not_overlapped ops new e

-- on an atomic register nothing has the value of the new write
pub values_free : (kind : Kind) (claim : ClaimModel) (ops : List Op) (new : Op) → kind ≡ Atomic → kind_refusal kind claim ops new ≡ None → (¬ IsInitial claim (value_of new.act)) × All (λ other. ¬ IsHolder new other) ops
values_free Atomic claim ops new atomic e = (none_exactly claim ops new).0 e
values_free Safe claim ops new atomic e = absurd (cc)
values_free Regular claim ops new atomic e = absurd (cc)
