-- Operations for which `StandApart` is true can be appended again, each to those before it.
use Rattle.std.proofs.Common.{◌≡◌, ◌≢◌, ◌<◌, ◌⊎◌, inl, inr, Bool, true, false, not, ◌&&◌, List, [], ◌∷◌, ◌++◌, Option, Some, None, refl, sym, ap, arith}
use Rattle.std.specs.Prelude.{Contains, IsTrue, IfSome, option_map}
use Rattle.std.specs.List.{AllPairs}
use Rattle.std.proofs.lemmas.Bool.{and_parts}
use Rattle.std.proofs.lemmas.Bool.Decides.{nat_tests}
use Rattle.std.proofs.lemmas.List.Elements.{All-contains, Contains-append_left, Contains-append_right}
use Rattle.intervals.specs.declared.operation.Op.{Op}
use Rattle.intervals.specs.declared.operation.Moment.{Moment}
use Rattle.intervals.specs.declared.claim.Kind.{Kind}
use Rattle.intervals.specs.declared.claim.Kind.TheVariants.{Safe, Regular, Atomic}
use Rattle.intervals.specs.declared.edit.Edit.TheVariants.{Append}
use Rattle.intervals.specs.Operation.{IsWrite, Overlaps, is_write, overlaps, same_id, value_of}
use Rattle.intervals.specs.Edit.{op_of}
use Rattle.intervals.specs.Refusal.{ends_by, has_large_moment, is_overlapped, kind_refusal, moment_taken, moments_refusal, overlap_refusal, reply_to, value_refusal, write_refusal}
use Rattle.intervals.specs.Standing.{HasDistinctIds, IsHolder, IsInitial, IsMomentHolder, IsMomentOf, IsPermitted, ShareNoMoment, StandApart}
use Rattle.intervals.specs.Terms.{ClaimModel, state_of}
use Rattle.intervals.proofs.Agreement.{Decides-overlaps}
use Rattle.intervals.proofs.Claimed.{HaveOtherValues}
use Rattle.intervals.proofs.Holders.{nobody_back}
use Rattle.intervals.proofs.Ids.{Decides-same_id_is, none_of, not_found, other_way}
use Rattle.intervals.proofs.LeastOf.{least_from-none}
use Rattle.intervals.proofs.Members.{all_from, here, one_or_so}
use Rattle.intervals.proofs.MomentHolders.{none_exactly}

-- no operation before has the id of a later one
new_id : (front : List Op) (op : Op) (rest : List Op) → HasDistinctIds (front ++ op ∷ rest) → op_of front op.id ≡ None
new_id [] op rest distinct = refl
new_id (a ∷ front) op rest distinct =
    let later = All-contains (λ o. same_id o.id a.id ≡ false) (front ++ op ∷ rest) op (none_of (front ++ op ∷ rest) a.id distinct.0) (Contains-append_right front (op ∷ rest) op (here op rest)) in
    not_found a front op.id (other_way op.id a.id later) (new_id front op rest distinct.1)

late_end : (end : Option Moment) (begin : Moment) → IfSome end (λ e. begin.0 < e.0) → ends_by end begin ≡ false
late_end None begin late = refl
late_end (Some end) begin late = grind (arith, nat_tests)

module _ (claim : ClaimModel) (front : List Op) (op : Op) (rest : List Op) (apart : StandApart (state_of claim (front ++ op ∷ rest))) where
  abbrev all : List Op
  all = front ++ op ∷ rest

  present : Contains all op
  present = Contains-append_right front (op ∷ rest) op (here op rest)

  in_all : (a : Op) → Contains front a → Contains all a
  in_all a h = Contains-append_left front (op ∷ rest) a h

  not_it : (a : Op) → Contains front a → ¬ (a.id ≡ op.id)
  not_it a h e =
      let other = All-contains (λ o. same_id o.id op.id ≡ false) front a (none_of front op.id (new_id front op rest apart.ids)) h in
      let same = (Decides-same_id_is a.id op.id).1 e in cc

  -- what is so of each two operations is so of one before and this one
  so : (R : Op → Op → Type 0) → ((a b : Op) → R a b → R b a) → AllPairs R all → (a : Op) → Contains front a → R a op
  so R symmetric pairs a h = by_cases (one_or_so R symmetric all pairs a op (in_all a h) present)
    where
      by_cases : (a ≡ op) ⊎ R a op → R a op
      by_cases (inl same) = absurd (not_it a h (ap (λ (o : Op). o.id) same))
      by_cases (inr r) = r

  moment_free : (moment : Moment) → IsMomentOf op moment → moment_taken front op.id (Some moment) ≡ None
  moment_free moment is =
      (none_exactly front op moment).1
      (all_from (λ other. ¬ IsMomentHolder op moment other) front (λ a h holds.
      so ShareNoMoment (λ x y none m of_y of_x. none m of_x of_y) apart.moments a h moment holds.1 is))

  end_free : (end : Option Moment) → op.end ≡ end → moment_taken front op.id end ≡ None
  end_free None e = refl
  end_free (Some moment) e = moment_free moment (inr e)

  moments_free : moments_refusal front op ≡ None
  moments_free =
      rw (
        late_end op.end op.begin (All-contains (λ o. IfSome o.end (λ e. o.begin.0 < e.0)) all op apart.ends present),
        moment_free op.begin (inl refl),
        end_free op.end refl,
        All-contains (λ o. has_large_moment o ≡ false) all op apart.low present,
      ) refl

  no_overlap : IsWrite op → claim.kind ≢ Atomic → overlap_refusal front op ≡ None
  no_overlap write one_writer = ap (option_map _) (least_from-none (λ o. o.begin.0) (is_overlapped op) None front (all_from (λ o. ¬ IsTrue (is_overlapped op o)) front none))
    where
      none : (a : Op) → Contains front a → ¬ IsTrue (is_overlapped op a)
      none a h t =
          let parts = and_parts (not (same_id a.id op.id) && is_write a) (overlaps a op) t in
          let wa = (and_parts (not (same_id a.id op.id)) (is_write a) parts.0).1 in
          so (λ v w. IsWrite v → IsWrite w → ¬ Overlaps v w) (λ x y apart wy wx (p, q). apart wx wy (q, p)) (apart.writes one_writer) a h wa write ((Decides-overlaps a op).0 parts.1)

  no_holder : IsWrite op → claim.kind ≡ Atomic → value_refusal claim front op ≡ None
  no_holder write atomic =
      nobody_back claim front op (All-contains (λ w. IsWrite w → ¬ IsInitial claim (value_of w.act)) all op (apart.values atomic).new present write)
      (all_from (λ other. ¬ IsHolder op other) front (λ a h holds.
      so HaveOtherValues (λ x y apart wy wx e. apart wx wy (sym e)) (apart.values atomic).apart a h holds.1 write holds.2))

  kind_free : IsWrite op → (kind : Kind) → claim.kind ≡ kind → kind_refusal kind claim front op ≡ None
  kind_free write Safe e = no_overlap write (λ atomic. let f = sym e in cc)
  kind_free write Regular e = no_overlap write (λ atomic. let f = sym e in cc)
  kind_free write Atomic e = no_holder write e

  write_free : write_refusal claim front op ≡ None
  write_free = by_write (is_write op) refl
    where
      by_write : (t : Bool) → is_write op ≡ t → write_refusal claim front op ≡ None
      by_write true write =
          let permitted = All-contains (λ w. IsWrite w → IsPermitted claim w) all op apart.allowed present write in
          rw (write, permitted.writer, kind_free write claim.kind refl, permitted.value) refl
      by_write false read = rw read refl

  pub accepted_again : reply_to (state_of claim front) (Append op) ≡ None
  accepted_again = rw (new_id front op rest apart.ids, moments_free, write_free) refl
