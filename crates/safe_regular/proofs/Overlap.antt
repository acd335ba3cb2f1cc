-- Three look-ups among the writes find the first write that a new one overlaps.
use Rattle.std.proofs.Common.{◌≡◌, ◌≢◌, ℕ, ◌<◌, ◌≤◌, ◌⊎◌, inl, inr, true, false, not, ◌&&◌, List, [], Option, Some, None, Decides, refl, sym, ap, subst, ◌∙◌, arith}
use Rattle.std.specs.Prelude.{Contains, IsTrue}
use Rattle.std.specs.List.{cons_option}
use Rattle.std.proofs.lemmas.Bool.{cases_Bool, cases_lt, MatchBool-at_true, MatchBool-at_false}
use Rattle.std.proofs.lemmas.Bool.Decides.{Decides-and, Decides-like, Decides-not}
use Rattle.intervals.specs.declared.operation.Op.{Op}
use Rattle.intervals.specs.declared.claim.Kind.{Kind}
use Rattle.intervals.specs.declared.claim.Kind.TheVariants.{Safe, Regular, Atomic}
use Rattle.intervals.specs.Terms.{ClaimModel}
use Rattle.intervals.specs.Operation.{Precedes, Overlaps, IsWrite, is_write, overlaps, same_id}
use Rattle.intervals.specs.Least.{least_by}
use Rattle.intervals.specs.Refusal.{is_overlapped, kind_refusal, write_refusal}
use Rattle.intervals.proofs.Agreement.{Decides-IsTrue, Decides-overlaps}
use Rattle.intervals.proofs.Ids.{Decides-same_id_is}
use Rattle.safe_regular.specs.Apart.{AreSequential}
use Rattle.safe_regular.specs.LookUp.{BeginsBefore, BeginsFrom, BeginsAfter, IsLastWrite, IsFirstWrite, IsLastOf, IsFirstWriteOf, IsBeyondOf, AreBeside, beside_of}
use Rattle.safe_regular.proofs.Apart.{either_way, precedes_later, begins_before, same_or_precedes}
use Rattle.intervals.proofs.LeastOf.{least_among}
use Rattle.safe_regular.proofs.LookUp.{last_found, first_found, last_present, first_is_present, in_front, in_rest, each_of}

-- another write that op overlaps
abbrev pub IsOverlapped : Op → Op → Type 0
IsOverlapped op w = (w.id ≢ op.id) × IsWrite w × Overlaps w op

Decides-is_overlapped : (op w : Op) → Decides (is_overlapped op w) (IsOverlapped op w)
Decides-is_overlapped op w =
    Decides-like (is_overlapped op w) (λ (h : ((w.id ≢ op.id) × IsWrite w) × Overlaps w op). (h.0.0, h.0.1, h.1)) (λ h. ((h.0, h.1), h.2))
    (Decides-and (not (same_id w.id op.id) && is_write w) (overlaps w op)
    (Decides-and (not (same_id w.id op.id)) (is_write w) (Decides-not (same_id w.id op.id) (Decides-same_id_is w.id op.id)) (Decides-IsTrue (is_write w)))
    (Decides-overlaps w op))

-- the number of the moment at which an operation begins
abbrev pub begin_number : Op → ℕ
begin_number op = op.begin.0

module _ (ops : List Op) (op : Op) (apart : AreSequential ops) where
  -- some operation of `few` is overlapped, and begins no later than w
  abbrev HasBefore : List Op → Op → Type 0
  HasBefore few w = (best : Op) × Contains few best × IsTrue (is_overlapped op best) × (begin_number best ≤ begin_number w)

  -- a few writes of the list have the first overlapped one among them, if each overlapped write has such a one
  -- (`HasBefore`)
  pub overlapped_by_few : (few : List Op) → ((w : Op) → Contains few w → Contains ops w) → ((w : Op) → Contains ops w → IsOverlapped op w → HasBefore few w)
      → least_by begin_number (is_overlapped op) ops ≡ least_by begin_number (is_overlapped op) few
  overlapped_by_few few stand best =
      least_among begin_number (is_overlapped op) ops few
      (λ a b sa sb oa ob. apart.one a b sa sb ((Decides-is_overlapped op a).0 oa).1 ((Decides-is_overlapped op b).0 ob).1)
      stand (λ w present over. best w present ((Decides-is_overlapped op w).0 over))

  -- an overlapped write that has P, and so begins before op does, is the last write with P
  below_is : (P : Op → Type 0) (below : Option Op) → ((w : Op) → P w → w.begin.0 < op.begin.0) → IsLastOf P ops below → (w : Op) → Contains ops w → IsOverlapped op w → P w → below ≡ Some w
  below_is P below fits is w sw over p =
      let l = last_found P ops below is w sw over.1 p in by_cases l.0 l.1 l.2 (same_or_precedes ops apart w l.0 sw l.2.present over.1 l.2.write l.3)
    where
      by_cases : (l : Op) → below ≡ Some l → IsLastWrite P ops l → (w ≡ l) ⊎ ((w.begin.0 < l.begin.0) × Precedes w l) → below ≡ Some w
      by_cases l e is (inl same) = e ∙ ap Some (sym same)
      by_cases l e is (inr p) = let lt = fits l is.fits in absurd (over.2.0 (precedes_later w l op (omega arith) p.1))

  -- op overlaps another write that begins no earlier than op and no later than one that op overlaps
  above_over : (a w : Op) → Contains ops a → IsWrite a → a.id ≢ op.id → op.begin.0 ≤ a.begin.0 → a.begin.0 ≤ w.begin.0 → IsOverlapped op w → IsTrue (is_overlapped op a)
  above_over a w sa wa other from upto over = (Decides-is_overlapped op a).1 (
    other,
    wa,
    (
      (λ before. let lt = begins_before a op (apart.proper a sa wa) before in absurd (omega arith)),
      (λ after. over.2.1 (precedes_later op a w upto after)),
    ),
  )

  -- the writes that a check looks up find the first overlapped one, as the whole list does
  module _ (one : (v w : Op) → Contains ops v → Contains ops w → IsWrite v → IsWrite w → v.id ≡ w.id → v ≡ w)
      (below above beyond : Option Op) (beside : AreBeside ops op below above beyond) where
    abbrev few : List Op
    few = beside_of below above beyond

    has_below : (w : Op) → below ≡ Some w → Contains few w
    has_below = in_front below (cons_option above (cons_option beyond []))

    has_above : (w : Op) → above ≡ Some w → Contains few w
    has_above w e = in_rest below (cons_option above (cons_option beyond [])) w (in_front above (cons_option beyond []) w e)

    has_beyond : (w : Op) → beyond ≡ Some w → Contains few w
    has_beyond w e = in_rest below (cons_option above (cons_option beyond [])) w (in_rest above (cons_option beyond []) w (in_front beyond [] w e))

    -- the case that `above` has the id of op
    by_beyond : (a w : Op) → above ≡ Some a → IsFirstWrite (BeginsFrom op.begin.0) ops a → a.id ≡ op.id → Contains ops w → IsOverlapped op w → a.begin.0 ≤ w.begin.0 → HasBefore few w
    by_beyond a w e is own sw over le = by_cases (same_or_precedes ops apart a w is.present sw is.write over.1 le)
      where
        next : IsFirstWriteOf (BeginsAfter a.begin.0) ops beyond
        next = MatchBool-at_true _ (beyond ≡ None) ((Decides-same_id_is a.id op.id).1 own) (subst (λ (o : Option Op). IsBeyondOf ops op o beyond) e beside.beyond_is)

        by_cases : (a ≡ w) ⊎ ((a.begin.0 < w.begin.0) × Precedes a w) → HasBefore few w
        by_cases (inl same) = absurd (over.0 (ap (λ (o : Op). o.id) (sym same) ∙ own))
        by_cases (inr p) =
            let b = first_found (BeginsAfter a.begin.0) ops beyond next w sw over.1 p.0 in
            let after : a.begin.0 < b.0.begin.0 = b.2.fits in
            let from : op.begin.0 ≤ a.begin.0 = is.fits in
            let other : b.0.id ≢ op.id = (λ h. absurd (let same = ap begin_number (one b.0 a b.2.present is.present b.2.write is.write (h ∙ sym own)) in omega arith)) in
            (b.0, has_beyond b.0 b.1, above_over b.0 w b.2.present b.2.write other (omega arith) b.3 over, b.3)

    has_before : (w : Op) → Contains ops w → IsOverlapped op w → HasBefore few w
    has_before w sw over = by_cases (cases_lt w.begin.0 op.begin.0)
      where
        by_above : (a : Op) → above ≡ Some a → IsFirstWrite (BeginsFrom op.begin.0) ops a → a.begin.0 ≤ w.begin.0 → (a.id ≡ op.id) ⊎ (a.id ≢ op.id) → HasBefore few w
        by_above a e is le (inl own) = by_beyond a w e is own sw over le
        by_above a e is le (inr other) = (a, has_above a e, above_over a w is.present is.write other is.fits le over, le)

        by_cases : (w.begin.0 < op.begin.0) ⊎ (op.begin.0 ≤ w.begin.0) → HasBefore few w
        by_cases (inl lt) =
            let e = below_is (BeginsBefore op.begin.0) below (λ v h. h) beside.below_is w sw over lt in
            (w, has_below w e, (Decides-is_overlapped op w).1 over, omega arith)
        by_cases (inr le) =
            let a = first_found (BeginsFrom op.begin.0) ops above beside.above_is w sw over.1 le in
            by_above a.0 a.1 a.2 a.3 (either_way (same_id a.0.id op.id) (Decides-same_id_is a.0.id op.id))

    beyond_present : (found : Option Op) → IsBeyondOf ops op found beyond → (w : Op) → beyond ≡ Some w → Contains ops w
    beyond_present None is w e = absurd (cc)
    beyond_present (Some a) is w e = by_cases (cases_Bool (same_id a.id op.id))
      where
        by_cases : (same_id a.id op.id ≡ true) ⊎ (same_id a.id op.id ≡ false) → Contains ops w
        by_cases (inl t) = first_is_present (BeginsAfter a.begin.0) ops beyond (MatchBool-at_true _ (beyond ≡ None) t is) w e
        by_cases (inr f) = absurd (let none : beyond ≡ None = MatchBool-at_false (IsFirstWriteOf (BeginsAfter a.begin.0) ops beyond) (beyond ≡ None) f is in cc)

    stand : (w : Op) → Contains few w → Contains ops w
    stand =
        each_of (Contains ops) below (cons_option above (cons_option beyond [])) (last_present (BeginsBefore op.begin.0) ops below beside.below_is)
        (each_of (Contains ops) above (cons_option beyond []) (first_is_present (BeginsFrom op.begin.0) ops above beside.above_is)
        (each_of (Contains ops) beyond [] (beyond_present above beside.beyond_is)
        (λ w h. absurd (omega (arith, h.1)))))

    pub overlapped_beside : least_by begin_number (is_overlapped op) ops ≡ least_by begin_number (is_overlapped op) (beside_of below above beyond)
    overlapped_beside = overlapped_by_few few stand has_before

    -- those three writes refuse a write of one writer's register as the whole list does
    pub refused_beside : (claim : ClaimModel) → claim.kind ≢ Atomic → write_refusal claim ops op ≡ write_refusal claim (beside_of below above beyond) op
    refused_beside claim one_writer = rw (by_kind claim.kind one_writer) refl
      where
        by_kind : (kind : Kind) → kind ≢ Atomic → kind_refusal kind claim ops op ≡ kind_refusal kind claim few op
        by_kind Safe h = rw overlapped_beside refl
        by_kind Regular h = rw overlapped_beside refl
        by_kind Atomic h = absurd (h refl)
