-- The first write by beginning that overlaps the next one, and that one, are the first overlap.
use Rattle.std.proofs.Common.{◌≡◌, ◌<◌, ◌≤◌, ◌⊎◌, inl, inr, Bool, true, false, not, ◌&&◌, List, Option, Some, None, refl, sym, ap, subst, ◌∙◌, arith}
use Rattle.std.specs.Prelude.{Contains, IsTrue, IfSome, option_map}
use Rattle.std.specs.List.{list_any}
use Rattle.std.proofs.lemmas.Bool.{cases_order, and_parts}
use Rattle.std.proofs.lemmas.List.Elements.{All-contains}
use Rattle.std.proofs.lemmas.List.Folds.{list_any_none, list_any_at}
use Rattle.intervals.specs.declared.operation.Op.{Op}
use Rattle.intervals.specs.declared.operation.Moment.{Moment}
use Rattle.intervals.specs.Operation.{IsWrite, ends_before, is_write, overlaps, precedes, same_id}
use Rattle.intervals.specs.Least.{IsLeast}
use Rattle.intervals.specs.InTurn.{IsNextWrite}
use Rattle.intervals.specs.Refusal.{begin_number, first_overlap, ids_with, overlap_of, overlaps_another}
use Rattle.intervals.specs.Refusal.{is_overlapped}
use Rattle.intervals.specs.Standing.{HasDistinctIds, HasDistinctMoments, HasEndsAfterBeginnings}
use Rattle.intervals.proofs.Agreement.{Decides-ends_before, false_unless}
use Rattle.intervals.proofs.Ids.{Decides-same_id_is, found_by_id, same_id-refl}
use Rattle.intervals.proofs.LeastOf.{AreTold, least_is, none_least}
use Rattle.intervals.proofs.Members.{all_from, begin_apart}

-- a write of the list, and each write that begins before it precedes all that begin later
pub record IsReached (ops : List Op) (w : Op) : Type 0 where
  pub present : Contains ops w
  pub write : IsWrite w
  pub earlier : (v x : Op) → Contains ops v → Contains ops x → IsWrite v → IsWrite x → v.begin.0 < w.begin.0 → v.begin.0 < x.begin.0 → precedes v x ≡ true

-- an end before a moment is before a later one
ends_earlier : (end : Option Moment) (m n : Moment) → ends_before end m ≡ true → m.0 ≤ n.0 → ends_before end n ≡ true
ends_earlier None m n e le = absurd (cc)
ends_earlier (Some end) m n e le = let lt : end.0 < m.0 = (Decides-ends_before (Some end) m).0 e in (Decides-ends_before (Some end) n).1 (omega arith)

-- an end that is after its beginning is not before a moment up to the beginning
not_before : (end : Option Moment) (begin m : Moment) → IfSome end (λ e. begin.0 < e.0) → m.0 ≤ begin.0 → ends_before end m ≡ false
not_before None begin m ends le = refl
not_before (Some end) begin m ends le = false_unless (ends_before (Some end) m) (λ t. let lt : end.0 < m.0 = (Decides-ends_before (Some end) m).0 t in omega (arith, ends))

after_it : (s w p q : Bool) → q ≡ true → (not s && w && (not p && not q)) ≡ false
after_it true w p q e = refl
after_it false false p q e = refl
after_it false true true q e = refl
after_it false true false q e = rw e refl

before_it : (s w p q : Bool) → p ≡ true → (not s && w && (not p && not q)) ≡ false
before_it true w p q e = refl
before_it false false p q e = refl
before_it false true p q e = rw e refl

the_same : (s w o : Bool) → s ≡ true → (not s && w && o) ≡ false
the_same s w o e = rw e refl

no_write : (s w o : Bool) → w ≡ false → (not s && w && o) ≡ false
no_write true w o e = refl
no_write false w o e = rw e refl

module _ (ops : List Op) (ids : HasDistinctIds ops) (moments : HasDistinctMoments ops) (ends : HasEndsAfterBeginnings ops) where
  told : (test : Op → Bool) → AreTold begin_number test ops
  told test a b sa sb pa pb e = begin_apart ops moments a b sa sb e

  over_none : (v x : Op) → Contains ops v → Contains ops x
      → (IsWrite x → v.begin.0 < x.begin.0 → precedes v x ≡ true) → (IsWrite x → x.begin.0 < v.begin.0 → precedes x v ≡ true) → is_overlapped v x ≡ false
  over_none v x sv sx later sooner = by_write (is_write x) refl
    where
      by_order : is_write x ≡ true → (x.begin.0 ≡ v.begin.0) ⊎ ((x.begin.0 < v.begin.0) ⊎ (v.begin.0 < x.begin.0)) → is_overlapped v x ≡ false
      by_order write (inl e) =
          let same : x ≡ v = begin_apart ops moments x v sx sv e in
          the_same (same_id x.id v.id) (is_write x) (overlaps x v) (subst (λ (o : Op). same_id o.id v.id ≡ true) (sym same) (same_id-refl v.id))
      by_order write (inr (inl lt)) = before_it (same_id x.id v.id) (is_write x) (precedes x v) (precedes v x) (sooner write lt)
      by_order write (inr (inr gt)) = after_it (same_id x.id v.id) (is_write x) (precedes x v) (precedes v x) (later write gt)

      by_write : (t : Bool) → is_write x ≡ t → is_overlapped v x ≡ false
      by_write true e = by_order e (cases_order x.begin.0 v.begin.0)
      by_write false e = no_write (same_id x.id v.id) (is_write x) (overlaps x v) e

  none_another : (v : Op) → ((x : Op) → Contains ops x → is_overlapped v x ≡ false) → overlaps_another ops v ≡ false
  none_another v none = rw (list_any_none (is_overlapped v) ops (all_from (λ x. is_overlapped v x ≡ false) ops none)) (by_cases (is_write v))
    where
      by_cases : (b : Bool) → (b && false) ≡ false
      by_cases true = refl
      by_cases false = refl

  -- a write that begins before the reached one overlaps none
  sooner_none : (w : Op) → IsReached ops w → (v : Op) → Contains ops v → IsWrite v → v.begin.0 < w.begin.0 → overlaps_another ops v ≡ false
  sooner_none w at v sv wv lt =
      none_another v (λ x sx. over_none v x sv sx (λ wx gt. at.earlier v x sv sx wv wx lt gt) (λ wx less. at.earlier x v sx sv wx wv (omega arith) less))

  not_passing : (v : Op) → overlaps_another ops v ≡ false → ¬ IsTrue (overlaps_another ops v)
  not_passing v e t = cc

  -- the first write of all is reached
  pub reached_first : (w : Op) → IsNextWrite ops None (Some w) → IsReached ops w
  reached_first w (present, write, following, least) = record {
    present = present;
    write = write;
    earlier = λ v x sv sx wv wx lt gt.
        let le = All-contains (λ v. IsWrite v → Unit {0} → w.begin.0 ≤ v.begin.0) ops v least sv wv tt in absurd (omega arith);
  }

  -- the next write is reached where the reached one precedes it
  pub reached_next : (w n : Op) → IsReached ops w → IsNextWrite ops (Some w.begin) (Some n) → precedes w n ≡ true → IsReached ops n
  reached_next w n at (present, write, following, least) before = record {
    present = present;
    write = write;
    earlier = λ v x sv sx wv wx lt gt. by_order v x sv sx wv wx lt gt (cases_order v.begin.0 w.begin.0);
  }
    where
      by_order : (v x : Op) → Contains ops v → Contains ops x → IsWrite v → IsWrite x → v.begin.0 < n.begin.0 → v.begin.0 < x.begin.0
          → (v.begin.0 ≡ w.begin.0) ⊎ ((v.begin.0 < w.begin.0) ⊎ (w.begin.0 < v.begin.0)) → precedes v x ≡ true
      by_order v x sv sx wv wx lt gt (inl e) =
          let same : w ≡ v = begin_apart ops moments w v at.present sv (sym e) in
          let le = All-contains (λ v. IsWrite v → w.begin.0 < v.begin.0 → n.begin.0 ≤ v.begin.0) ops x least sx wx (omega arith) in
          subst (λ (o : Op). precedes o x ≡ true) same (ends_earlier w.end n.begin x.begin before le)
      by_order v x sv sx wv wx lt gt (inr (inl sooner)) = at.earlier v x sv sx wv wx sooner gt
      by_order v x sv sx wv wx lt gt (inr (inr later)) =
          let le = All-contains (λ v. IsWrite v → w.begin.0 < v.begin.0 → n.begin.0 ≤ v.begin.0) ops v least sv wv later in absurd (omega arith)

  -- where there is no next write, no writes overlap
  pub overlap_none : (w : Op) → IsReached ops w → IsNextWrite ops (Some w.begin) None → first_overlap ops ≡ None
  overlap_none w at none = ap (overlap_of ops) (none_least begin_number (overlaps_another ops) ops each)
    where
      last : (x : Op) → Contains ops x → IsWrite x → ¬ (w.begin.0 < x.begin.0)
      last x sx wx = All-contains (λ v. IsWrite v → ¬ (w.begin.0 < v.begin.0)) ops x none sx wx

      by_order : (v : Op) → Contains ops v → IsWrite v → (v.begin.0 ≡ w.begin.0) ⊎ ((v.begin.0 < w.begin.0) ⊎ (w.begin.0 < v.begin.0)) → overlaps_another ops v ≡ false
      by_order v sv wv (inl e) =
          none_another v (λ x sx. over_none v x sv sx (λ wx gt. absurd (last x sx wx (omega arith))) (λ wx less. at.earlier x v sx sv wx wv (omega arith) less))
      by_order v sv wv (inr (inl lt)) = sooner_none w at v sv wv lt
      by_order v sv wv (inr (inr gt)) = absurd (last v sv wv gt)

      each : (v : Op) → Contains ops v → ¬ IsTrue (overlaps_another ops v)
      each v sv t = let parts = and_parts (is_write v) (list_any (is_overlapped v) ops) t in not_passing v (by_order v sv parts.0 (cases_order v.begin.0 w.begin.0)) t

  pub overlap_of_none : IsNextWrite ops None None → first_overlap ops ≡ None
  overlap_of_none none = ap (overlap_of ops) (none_least begin_number (overlaps_another ops) ops each)
    where
      each : (v : Op) → Contains ops v → ¬ IsTrue (overlaps_another ops v)
      each v sv t =
          let parts = and_parts (is_write v) (list_any (is_overlapped v) ops) t in
          All-contains (λ w. IsWrite w → ¬ Unit {0}) ops v none sv parts.0 tt

  -- where the reached one does not precede the next, the two are the first overlap
  pub overlap_found : (w n : Op) → IsReached ops w → IsNextWrite ops (Some w.begin) (Some n) → precedes w n ≡ false → first_overlap ops ≡ Some (w.id, n.id)
  overlap_found w n at (present, write, following, least) overlapping =
      ap (overlap_of ops) (least_is begin_number (overlaps_another ops) ops w (told (overlaps_another ops)) first)
      ∙ ap (option_map (ids_with w)) (least_is begin_number (is_overlapped w) ops n (told (is_overlapped w)) second)
    where
      other : same_id n.id w.id ≡ false
      other = false_unless (same_id n.id w.id) (λ t. is_other ((Decides-same_id_is n.id w.id).0 t))
        where
          is_other : ¬ (n.id ≡ w.id)
          is_other e = let p = found_by_id ops n ids present in let q = found_by_id ops w ids at.present in let same : n ≡ w = cc in let b = ap (λ (o : Op). o.begin.0) same in omega arith

      over : is_overlapped w n ≡ true
      over = rw (other, write, not_before n.end n.begin w.begin (All-contains (λ o. IfSome o.end (λ e. o.begin.0 < e.0)) ops n ends present) (omega arith), overlapping) refl

      has_over : overlaps_another ops w ≡ true
      has_over = rw (at.write, list_any_at (is_overlapped w) ops present.0 n present.1 (rw present.2 over)) refl

      first : IsLeast begin_number (overlaps_another ops) ops w
      first = record {
        present = at.present;
        passes = has_over;
        least = all_from (λ o. IsTrue (overlaps_another ops o) → w.begin.0 ≤ o.begin.0) ops (λ o so t. by_order o so t (cases_order w.begin.0 o.begin.0));
      }
        where
          by_order : (o : Op) → Contains ops o → IsTrue (overlaps_another ops o) → (w.begin.0 ≡ o.begin.0) ⊎ ((w.begin.0 < o.begin.0) ⊎ (o.begin.0 < w.begin.0)) → w.begin.0 ≤ o.begin.0
          by_order o so t (inl e) = omega arith
          by_order o so t (inr (inl lt)) = omega arith
          by_order o so t (inr (inr gt)) =
              let parts = and_parts (is_write o) (list_any (is_overlapped o) ops) t in absurd (not_passing o (sooner_none w at o so parts.0 gt) t)

      second : IsLeast begin_number (is_overlapped w) ops n
      second = record {
        present = present;
        passes = over;
        least = all_from (λ o. IsTrue (is_overlapped w o) → n.begin.0 ≤ o.begin.0) ops (λ o so t. by_order o so t (cases_order w.begin.0 o.begin.0));
      }
        where
          is_write_over : (o : Op) → IsTrue (is_overlapped w o) → IsWrite o
          is_write_over o t = let parts = and_parts (not (same_id o.id w.id) && is_write o) (overlaps o w) t in (and_parts (not (same_id o.id w.id)) (is_write o) parts.0).1

          by_order : (o : Op) → Contains ops o → IsTrue (is_overlapped w o) → (w.begin.0 ≡ o.begin.0) ⊎ ((w.begin.0 < o.begin.0) ⊎ (o.begin.0 < w.begin.0)) → n.begin.0 ≤ o.begin.0
          by_order o so t (inl e) = absurd (let none = over_none w o at.present so (λ wo gt. absurd (omega arith)) (λ wo lt. absurd (omega arith)) in cc)
          by_order o so t (inr (inl lt)) = All-contains (λ v. IsWrite v → w.begin.0 < v.begin.0 → n.begin.0 ≤ v.begin.0) ops o least so (is_write_over o t) lt
          by_order o so t (inr (inr gt)) = absurd (let none = over_none w o at.present so (λ wo less. absurd (omega arith)) (λ wo less. at.earlier o w so at.present wo at.write gt gt) in cc)
