-- What is so of the operations that stand where a claim of another kind is not refused.
use Rattle.std.proofs.Common.{◌≡◌, ◌≢◌, Bool, true, false, not, ◌&&◌, ◌⊎◌, inl, inr, List, [], ◌∷◌, ◌++◌, Option, Some, None, refl, sym, ap, subst, cond, ◌∙◌, arith}
use Rattle.std.specs.Prelude.{All, Contains, IsTrue, option_map, slice_index_or}
use Rattle.std.specs.List.{AllPairs, list_any}
use Rattle.std.proofs.lemmas.Bool.{and_parts}
use Rattle.std.proofs.lemmas.List.Elements.{All-contains, All-cons, All-nil, All-weaker, Contains-append_left, Contains-append_right, Contains-get_or, Contains-push}
use Rattle.std.proofs.lemmas.List.{append-nil, append_assoc}
use Rattle.std.proofs.lemmas.List.Folds.{Any-from_list_any, list_any_at}
use Rattle.std.proofs.lemmas.List.Kept.{AllPairs-cons}
use Rattle.intervals.specs.declared.operation.Op.{Op}
use Rattle.intervals.specs.declared.operation.OpId.{OpId}
use Rattle.intervals.specs.declared.claim.Holder.{Holder}
use Rattle.intervals.specs.declared.claim.Kind.{Kind}
use Rattle.intervals.specs.declared.claim.Kind.TheVariants.{Safe, Regular, Atomic}
use Rattle.intervals.specs.Operation.{IsWrite, Overlaps, is_write, overlaps, same_id, value_of}
use Rattle.intervals.specs.declared.refusal.Refusal.TheVariants.{ValueTaken}
use Rattle.intervals.specs.Least.{IsLeast, least_by}
use Rattle.intervals.specs.Refusal.{begin_number, first_overlap, first_repeat, first_there, holder_of, id_with, ids_with, is_overlapped, overlap_claimed, overlap_of, overlaps_another, repeat_claimed, repeat_of, to_kind_refusal}
use Rattle.intervals.specs.Standing.{HasDistinctIds, HasNoOverlappingWrites, HasOwnValues, IsHolder, IsInitial, IsPermitted, StandApart}
use Rattle.intervals.specs.Terms.{ClaimModel, state_of, RegisterState}
use Rattle.intervals.proofs.Accepted.{one_writer_accepted}
use Rattle.intervals.proofs.Agreement.{Decides-overlaps, false_unless}
use Rattle.intervals.proofs.Found.{not_mapped}
use Rattle.intervals.proofs.Holders.{nobody, nobody_back}
use Rattle.intervals.proofs.Ids.{Decides-same_id_is, none_of}
use Rattle.intervals.proofs.LeastOf.{least_by-IsLeast, least_from-None, least_from-none}
use Rattle.intervals.proofs.Members.{all_from, here, one_or_so, there}

-- where both operations are writes, their values differ
abbrev pub HaveOtherValues : Op → Op → Type 0
HaveOtherValues v w = IsWrite v → IsWrite w → value_of v.act ≢ value_of w.act

any_none : (p : Op → Bool) (ops : List Op) → All (λ o. ¬ IsTrue (p o)) ops → ¬ (list_any p ops ≡ true)
any_none p ops none t = let any = Any-from_list_any p ops t in All-contains (λ o. ¬ IsTrue (p o)) ops any.1 none (any.0, any.2, any.3) any.4

-- where ids are distinct, the first operation's differs from all others
apart_ids : (a : Op) (ops : List Op) → HasDistinctIds (a ∷ ops) → All (λ b. a.id ≢ b.id) ops
apart_ids a ops distinct =
    All-weaker (λ b. same_id b.id a.id ≡ false) (λ b. a.id ≢ b.id) (λ b other same. let t = (Decides-same_id_is b.id a.id).1 (sym same) in cc) ops (none_of ops a.id distinct.0)

module _ (ops : List Op) (none : first_overlap ops ≡ None) where
  no_least : (found : Option Op) → least_by begin_number (overlaps_another ops) ops ≡ found → overlap_of ops found ≡ None → found ≡ None
  no_least None is e = refl
  no_least (Some w) is e =
      let it = least_by-IsLeast begin_number (overlaps_another ops) ops w is in
      let parts = and_parts (is_write w) (list_any (is_overlapped w) ops) it.passes in
      let least = not_mapped (ids_with w) (least_by begin_number (is_overlapped w) ops) e in
      let nothing = (least_from-None begin_number (is_overlapped w) None ops least).1 in
      absurd (any_none (is_overlapped w) ops nothing parts.1)

  each_alone : All (λ w. ¬ IsTrue (overlaps_another ops w)) ops
  each_alone = (least_from-None begin_number (overlaps_another ops) None ops (no_least (least_by begin_number (overlaps_another ops) ops) refl none)).1

  not_over : (v w : Op) → Contains ops v → Contains ops w → v.id ≢ w.id → IsWrite v → IsWrite w → ¬ Overlaps v w
  not_over v w sv sw other wv ww (before, after) =
      let over : is_overlapped v w ≡ true = rw (false_unless (same_id w.id v.id) (λ t. other (sym ((Decides-same_id_is w.id v.id).0 t))), ww, (Decides-overlaps w v).1 (after, before)) refl in
      All-contains (λ o. ¬ IsTrue (overlaps_another ops o)) ops v each_alone sv (rw (wv, list_any_at (is_overlapped v) ops sw.0 w sw.1 (rw sw.2 over)) refl)

  pairs_apart : (few : List Op) → HasDistinctIds few → ((o : Op) → Contains few o → Contains ops o) → HasNoOverlappingWrites few
  pairs_apart [] distinct stand = λ i j d lt lt'. absurd (omega arith)
  pairs_apart (v ∷ few) distinct stand =
      AllPairs-cons (λ a b. IsWrite a → IsWrite b → ¬ Overlaps a b) v few
      (λ k d lt. let w = slice_index_or few k d in not_over v w (stand v (here v few)) (stand w (there v few w (Contains-get_or few k d lt))) (apart_ids v few distinct k d lt))
      (pairs_apart few distinct.1 (λ o h. stand o (there v few o h)))

  pub none_overlap : HasDistinctIds ops → HasNoOverlappingWrites ops
  none_overlap distinct = pairs_apart ops distinct (λ o h. h)

-- where no writes overlap, no overlap is found
pub overlap_nowhere : (ops : List Op) → HasNoOverlappingWrites ops → first_overlap ops ≡ None
overlap_nowhere ops apart = ap (overlap_of ops) (least_from-none begin_number (overlaps_another ops) None ops (all_from (λ w. ¬ IsTrue (overlaps_another ops w)) ops none))
  where
    none : (w : Op) → Contains ops w → ¬ IsTrue (overlaps_another ops w)
    none w present t =
        let parts = and_parts (is_write w) (list_any (is_overlapped w) ops) t in
        let any = Any-from_list_any (is_overlapped w) ops parts.1 in
        let x : Op = any.1 in
        let over = and_parts (not (same_id x.id w.id) && is_write x) (overlaps x w) any.4 in
        let other = and_parts (not (same_id x.id w.id)) (is_write x) over.0 in
        by_pair x other.0 (one_or_so (λ v w. IsWrite v → IsWrite w → ¬ Overlaps v w) (λ a b none wb wa (p, q). none wa wb (q, p)) ops apart x w (any.0, any.2, any.3) present) other.1 parts.0 ((Decides-overlaps x w).0 over.1)
      where
        by_pair : (x : Op) → not (same_id x.id w.id) ≡ true → (x ≡ w) ⊎ (IsWrite x → IsWrite w → ¬ Overlaps x w) → IsWrite x → IsWrite w → ¬ Overlaps x w
        by_pair x other (inl same) wx ww over = let t = (Decides-same_id_is x.id w.id).1 (ap (λ (o : Op). o.id) same) in absurd (let f = ap not t in cc)
        by_pair x other (inr apart) wx ww over = apart wx ww over

-- the two writes that are found are the first that overlaps another, and the first that overlaps it
pub overlap_named : (ops : List Op) (a b : OpId) → first_overlap ops ≡ Some (a, b)
    → (w : Op) × (v : Op) × (w.id ≡ a) × (v.id ≡ b) × IsLeast begin_number (overlaps_another ops) ops w × IsLeast begin_number (is_overlapped w) ops v
overlap_named ops a b = by_first (least_by begin_number (overlaps_another ops) ops) refl
  where
    Named : Type 0
    Named = (w : Op) × (v : Op) × (w.id ≡ a) × (v.id ≡ b) × IsLeast begin_number (overlaps_another ops) ops w × IsLeast begin_number (is_overlapped w) ops v

    by_second : (w : Op) → IsLeast begin_number (overlaps_another ops) ops w → (found : Option Op) → least_by begin_number (is_overlapped w) ops ≡ found → option_map (ids_with w) found ≡ Some (a, b) → Named
    by_second w least None is e = absurd (cc)
    by_second w least (Some v) is e = let same : (w.id, v.id) ≡ (a, b) = cc in (w, v, ap (λ (p : OpId × OpId). p.0) same, ap (λ (p : OpId × OpId). p.1) same, least, least_by-IsLeast begin_number (is_overlapped w) ops v is)

    by_first : (found : Option Op) → least_by begin_number (overlaps_another ops) ops ≡ found → overlap_of ops found ≡ Some (a, b) → Named
    by_first None is e = absurd (cc)
    by_first (Some w) is e = by_second w (least_by-IsLeast begin_number (overlaps_another ops) ops w is) (least_by begin_number (is_overlapped w) ops) refl e

module _ (claim : ClaimModel) where
  -- the value of the write is neither the initial one nor that of an operation before
  abbrev IsNew : List Op → Op → Type 0
  IsNew before w = IsWrite w → (¬ IsInitial claim (value_of w.act)) × All (λ v. ¬ IsHolder w v) before

  neither_there : (first later : Option (OpId × Holder)) → first_there first later ≡ None → (first ≡ None) × (later ≡ None)
  neither_there None later e = (refl, e)
  neither_there (Some found) later e = absurd (cc)

  is_new : (before : List Op) (op : Op) → repeat_of claim before op ≡ None → IsNew before op
  is_new before op e write =
      nobody claim before op (not_mapped (id_with op) (holder_of claim before op) (sym (ap (λ (t : Bool). cond t (option_map (id_with op) (holder_of claim before op)) None) write) ∙ e))

  new_from : (before ops : List Op) → HasDistinctIds ops → first_repeat claim before ops ≡ None → All (IsNew before) ops × AllPairs HaveOtherValues ops
  new_from before [] distinct e = (All-nil _, λ i j d lt lt'. absurd (omega arith))
  new_from before (op ∷ ops) distinct e =
      let parts = neither_there (repeat_of claim before op) (first_repeat claim (before ++ op ∷ []) ops) e in
      let rest = new_from (before ++ op ∷ []) ops distinct.1 parts.1 in (
        All-cons (IsNew before) op ops (is_new before op parts.0)
            (All-weaker (IsNew (before ++ op ∷ [])) (IsNew before) (λ w new write. ((new write).0, all_from (λ v. ¬ IsHolder w v) before (λ v h. All-contains (λ v. ¬ IsHolder w v) (before ++ op ∷ []) v (new write).1 (Contains-append_left before (op ∷ []) v h)))) ops rest.0),
        AllPairs-cons HaveOtherValues op ops
            (λ k d lt write_op write same.
            let w = slice_index_or ops k d in
            All-contains (λ v. ¬ IsHolder w v) (before ++ op ∷ []) op (rest.0 k d lt write).1 (Contains-push before op) (apart_ids op ops distinct k d lt, write_op, same))
            rest.1,
      )

  pub none_repeat : (ops : List Op) → HasDistinctIds ops → first_repeat claim [] ops ≡ None → HasOwnValues claim ops
  none_repeat ops distinct e =
      let new = new_from [] ops distinct e in
      record { apart = new.1; new = All-weaker (IsNew []) (λ w. IsWrite w → ¬ IsInitial claim (value_of w.act)) (λ w is write. (is write).0) ops new.0 }

  alone : (before : List Op) (op : Op) (rest : List Op) → HasOwnValues claim (before ++ op ∷ rest) → repeat_of claim before op ≡ None
  alone before op rest values = by_write (is_write op) refl
    where
      at_op : Contains (before ++ op ∷ rest) op
      at_op = Contains-append_right before (op ∷ rest) op (here op rest)

      no_holder : IsWrite op → All (λ v. ¬ IsHolder op v) before
      no_holder write = all_from (λ v. ¬ IsHolder op v) before (λ v h holds.
          by_pair v holds (one_or_so HaveOtherValues (λ a b apart wb wa e. apart wa wb (sym e)) (before ++ op ∷ rest) values.apart v op (Contains-append_left before (op ∷ rest) v h) at_op))
        where
          by_pair : (v : Op) → IsHolder op v → (v ≡ op) ⊎ HaveOtherValues v op → ⊥
          by_pair v holds (inl same) = holds.0 (ap (λ (o : Op). o.id) same)
          by_pair v holds (inr apart) = apart holds.1 write holds.2

      by_write : (t : Bool) → is_write op ≡ t → repeat_of claim before op ≡ None
      by_write true write =
          let free = not_mapped ValueTaken (holder_of claim before op) (nobody_back claim before op (All-contains (λ w. IsWrite w → ¬ IsInitial claim (value_of w.act)) (before ++ op ∷ rest) op values.new at_op write) (no_holder write)) in
          rw (write, free) refl
      by_write false read = rw read refl

  repeat_after : (before ops : List Op) → HasOwnValues claim (before ++ ops) → first_repeat claim before ops ≡ None
  repeat_after before [] values = refl
  repeat_after before (op ∷ ops) values =
      ap (λ (first : Option (OpId × Holder)). first_there first (first_repeat claim (before ++ op ∷ []) ops)) (alone before op ops values)
      ∙ repeat_after (before ++ op ∷ []) ops (subst (HasOwnValues claim) (sym (append_assoc before (op ∷ []) ops)) values)

  -- where values are distinct, no repeat is found
  pub repeat_nowhere : (ops : List Op) → HasOwnValues claim ops → first_repeat claim [] ops ≡ None
  repeat_nowhere ops values = repeat_after [] ops values

  -- the repeat that is found is a write of the list, and no operation before it is a repeat
  pub record IsRepeatAt (before ops : List Op) (id : OpId) (holder : Holder) : Type 0 where
    pub front : List Op
    pub write : Op
    pub rest : List Op
    pub parts : ops ≡ front ++ write ∷ rest
    pub id_is : write.id ≡ id
    pub is_write : IsWrite write
    pub held : holder_of claim (before ++ front) write ≡ Some holder
    pub none : first_repeat claim before front ≡ None

  repeat_here : (before : List Op) (op : Op) (rest : List Op) (id : OpId) (holder : Holder) → repeat_of claim before op ≡ Some (id, holder) → IsRepeatAt before (op ∷ rest) id holder
  repeat_here before op rest id holder e = by_write (is_write op) refl
    where
      by_holder : (found : Option Holder) → holder_of claim before op ≡ found → option_map (id_with op) found ≡ Some (id, holder) → is_write op ≡ true → IsRepeatAt before (op ∷ rest) id holder
      by_holder None is e write = absurd (cc)
      by_holder (Some h) is e write =
          let same : (op.id, h) ≡ (id, holder) = cc in
          record {
            front = [];
            write = op;
            rest = rest;
            parts = refl;
            id_is = ap (λ (p : OpId × Holder). p.0) same;
            is_write = write;
            held = ap (λ (l : List Op). holder_of claim l op) (append-nil before) ∙ is ∙ ap (λ (p : OpId × Holder). Some p.1) same;
            none = refl;
          }

      by_write : (t : Bool) → is_write op ≡ t → IsRepeatAt before (op ∷ rest) id holder
      by_write true write = by_holder (holder_of claim before op) refl (sym (ap (λ (t : Bool). cond t (option_map (id_with op) (holder_of claim before op)) None) write) ∙ e) write
      by_write false read = absurd (let none = ap (λ (t : Bool). cond t (option_map (id_with op) (holder_of claim before op)) None) read in let f = sym none ∙ e in cc)

  pub repeat_named : (before ops : List Op) (id : OpId) (holder : Holder) → first_repeat claim before ops ≡ Some (id, holder) → IsRepeatAt before ops id holder
  repeat_named before [] id holder e = absurd (cc)
  repeat_named before (op ∷ ops) id holder e = by_first (repeat_of claim before op) refl e (repeat_named (before ++ op ∷ []) ops id holder)
    where
      by_first : (found : Option (OpId × Holder)) → repeat_of claim before op ≡ found → first_there found (first_repeat claim (before ++ op ∷ []) ops) ≡ Some (id, holder)
          → (first_repeat claim (before ++ op ∷ []) ops ≡ Some (id, holder) → IsRepeatAt (before ++ op ∷ []) ops id holder) → IsRepeatAt before (op ∷ ops) id holder
      by_first (Some first) is e later_is = repeat_here before op ops id holder (is ∙ e)
      by_first None is e later_is =
          let later = later_is e in
          record {
            front = op ∷ later.front;
            write = later.write;
            rest = later.rest;
            parts = ap (λ (l : List Op). op ∷ l) later.parts;
            id_is = later.id_is;
            is_write = later.is_write;
            held = ap (λ (l : List Op). holder_of claim l later.write) (sym (append_assoc before (op ∷ []) later.front)) ∙ later.held;
            none = ap (λ (first : Option (OpId × Holder)). first_there first (first_repeat claim (before ++ op ∷ []) later.front)) is ∙ later.none;
          }

-- where the claim is not refused, `StandApart` is true under the claimed kind
pub claimed_apart : (kind : Kind) (held : RegisterState) → StandApart held → to_kind_refusal kind held.claim held.ops ≡ None → StandApart (state_of (record held.claim { kind = kind }) held.ops)
claimed_apart kind held apart e = record {
  ids = apart.ids;
  moments = apart.moments;
  ends = apart.ends;
  low = apart.low;
  allowed = All-weaker (λ w. IsWrite w → IsPermitted held.claim w) (λ w. IsWrite w → IsPermitted (record held.claim { kind = kind }) w) (λ w is write. record { writer = (is write).writer; value = (is write).value }) held.ops apart.allowed;
  writes = one_by_one kind e;
  values = told_apart kind e;
}
  where
    one_by_one : (kind : Kind) → to_kind_refusal kind held.claim held.ops ≡ None → kind ≢ Atomic → HasNoOverlappingWrites held.ops
    one_by_one Safe e one_writer = none_overlap held.ops (not_mapped overlap_claimed (first_overlap held.ops) (one_writer_accepted held.claim held.ops e).2) apart.ids
    one_by_one Regular e one_writer = none_overlap held.ops (not_mapped overlap_claimed (first_overlap held.ops) (one_writer_accepted held.claim held.ops e).2) apart.ids
    one_by_one Atomic e one_writer = absurd (one_writer refl)

    told_apart : (of_kind : Kind) → to_kind_refusal of_kind held.claim held.ops ≡ None → of_kind ≡ Atomic → HasOwnValues (record held.claim { kind = kind }) held.ops
    told_apart Safe e atomic = absurd (cc)
    told_apart Regular e atomic = absurd (cc)
    told_apart Atomic e atomic =
        let values = none_repeat held.claim held.ops apart.ids (not_mapped repeat_claimed (first_repeat held.claim [] held.ops) e) in
        record { apart = values.apart; new = values.new }
