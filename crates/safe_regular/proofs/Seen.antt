-- Which writes decide how a read is judged, and which edits leave that alone.
use Rattle.std.proofs.Common.{◌≡◌, ◌<◌, ◌≤◌, inl, inr, Bool, not, ◌&&◌, List, Option, refl, sym, ap, subst, ◌∙◌, arith}
use Rattle.std.specs.Prelude.{Contains}
use Rattle.std.proofs.lemmas.Bool.Decides.{same_from_decides, Decides-like}
use Rattle.std.proofs.lemmas.List.Elements.{All-contains}
use Rattle.intervals.specs.declared.claim.Kind.{Kind}
use Rattle.intervals.specs.declared.claim.Kind.TheVariants.{Safe, Regular, Atomic}
use Rattle.intervals.specs.declared.operation.Op.{Op}
use Rattle.intervals.specs.declared.operation.Value.{Value}
use Rattle.intervals.specs.Judging.{end_number, is_right_read, is_regular_read, is_safe_read, is_wrong_read}
use Rattle.intervals.specs.Kind.{IsRegularRead, IsSafeRead, OverlapsWrite, ReturnsLast}
use Rattle.intervals.specs.Operation.{IsJudgedRead, IsWrite, Overlaps, Precedes, is_judged_read, value_of}
use Rattle.intervals.specs.Terms.{ClaimModel}
use Rattle.intervals.proofs.Agreement.{Decides-is_regular_read, Decides-is_safe_read}
use Rattle.intervals.proofs.Members.{all_from}
use Rattle.safe_regular.specs.Apart.{AreSequential}
use Rattle.safe_regular.specs.Change.{IsChangeOf}
use Rattle.safe_regular.specs.Seen.{AreSeenIn, BeginsAfterRead, IsSeenIn, LeavesAlone}
use Rattle.safe_regular.proofs.Apart.{begins_before}
use Rattle.safe_regular.proofs.Nearest.{IsReadAmong, read_among}
use Rattle.safe_regular.proofs.Told.{writes_apart}

-- a read that sees two lists alike
module _ (r : Op) (ops others : List Op) (there : AreSeenIn r ops others) (back : AreSeenIn r others ops) where
  overlaps_in : OverlapsWrite ops r → OverlapsWrite others r
  overlaps_in any =
      let (v, present, write, over, same) = (there any.1 (any.0, any.2, any.3) any.4.0).over any.4.1 in
      (present.0, v, present.1, present.2, (write, over))

  returns_in : (initial : Value) → ReturnsLast initial ops r → ReturnsLast initial others r
  returns_in initial (inl l) = inl (
    l.0,
    record {
      present = (there l.0 l.1.present l.1.write).before l.1.before;
      write = l.1.write;
      before = l.1.before;
      last = all_from (λ v. IsWrite v → Precedes v r → v.begin.0 ≤ l.0.begin.0) others (λ v sv wv before.
          All-contains (λ u. IsWrite u → Precedes u r → u.begin.0 ≤ l.0.begin.0) ops v l.1.last ((back v sv wv).before before) wv before);
    },
    l.2,
  )
  returns_in initial (inr none) = inr (
    all_from (λ w. IsWrite w → ¬ Precedes w r) others (λ w sw ww before. All-contains (λ v. IsWrite v → ¬ Precedes v r) ops w none.0 ((back w sw ww).before before) ww before),
    none.1,
  )

  pub regular_in : (claim : ClaimModel) → IsRegularRead claim ops r → IsRegularRead claim others r
  regular_in claim (inl any) =
      let (v, present, write, over, same) = (there any.1 (any.0, any.2, any.3) any.4.0).over any.4.1 in
      inl (present.0, v, present.1, present.2, (write, over, any.4.2 ∙ sym same))
  regular_in claim (inr last) = inr (returns_in claim.initial last)

module _ (r : Op) (ops others : List Op) (there : AreSeenIn r ops others) (back : AreSeenIn r others ops) where
  safe_in : (claim : ClaimModel) → IsSafeRead claim ops r → IsSafeRead claim others r
  safe_in claim right = (
    λ none. returns_in r ops others there back claim.initial (right.0 (λ over. none (overlaps_in r ops others there back over))),
    λ over. right.1 (overlaps_in r others ops back there over),
  )

  right_alike : (claim : ClaimModel) (kind : Kind) → is_right_read kind claim ops r ≡ is_right_read kind claim others r
  right_alike claim Safe =
      same_from_decides (is_safe_read claim ops r) (is_safe_read claim others r) (Decides-is_safe_read claim ops r)
      (Decides-like (is_safe_read claim others r) back_to (safe_in claim) (Decides-is_safe_read claim others r))
    where
      back_to : IsSafeRead claim others r → IsSafeRead claim ops r
      back_to right = (
        λ none. returns_in r others ops back there claim.initial (right.0 (λ over. none (overlaps_in r others ops back there over))),
        λ over. right.1 (overlaps_in r ops others there back over),
      )
  right_alike claim Regular =
      same_from_decides (is_regular_read claim ops r) (is_regular_read claim others r) (Decides-is_regular_read claim ops r)
      (Decides-like (is_regular_read claim others r) (regular_in r others ops back there claim) (regular_in r ops others there back claim) (Decides-is_regular_read claim others r))
  right_alike claim Atomic = refl

  -- the read is wrong in both lists or in neither
  pub judged_alike : (claim : ClaimModel) → is_wrong_read claim ops r ≡ is_wrong_read claim others r
  judged_alike claim = ap (λ (b : Bool). is_judged_read r && not b) (right_alike claim claim.kind)

-- an edit that leaves a read alone
module _ (claim : ClaimModel) (ops after : List Op) (old new : Option Op) (change : IsChangeOf claim ops after old new) (r : Op) (present : Contains change.others r) (judged : IsJudgedRead r) (alone : LeavesAlone r old new) where
  -- the read does not see a write that begins when it ends or later
  not_seen : (list few : List Op) → AreSequential list → IsReadAmong list r → (w : Op) → Contains list w → IsWrite w → end_number r ≤ w.begin.0 → IsSeenIn r few w
  not_seen list few apart among w sw ww late = record {
    before = λ ahead. absurd (let lt = begins_before w r (apart.proper w sw ww) ahead in let long = among.long in omega (arith, lt, long, late));
    over = λ over. absurd (let lt = among.reached w sw ww over.1 in omega (arith, lt, late));
  }

  itself : (few : List Op) (w : Op) → Contains few w → IsWrite w → IsSeenIn r few w
  itself few w sw ww = record { before = λ _. sw; over = λ over. (w, sw, ww, over, refl) }

  abbrev AfterAmong : Type 0
  AfterAmong = IsReadAmong after r

  among_before : IsReadAmong ops r
  among_before = read_among claim ops change.apart_before r (change.in_before r (inl present)) judged

  among_after : IsReadAmong after r
  among_after = read_among claim after change.apart_after r (change.in_after r (inl present)) judged

  -- where a write begins before the read ends, another of its beginning that does not precede the read overlaps it
  other_over : (o n : Op) → o.begin.0 ≡ n.begin.0 → ¬ Precedes n r → ((w : Op) → w.begin.0 < end_number r → ¬ Precedes r w) → o.begin.0 < end_number r → Overlaps n r
  other_over o n same not not_over lt = (not, not_over n (omega (arith, same, lt)))

  seen_after : AreSeenIn r ops after
  seen_after w sw ww = elim (change.was w sw) [
    | inl among ↦ itself after w (change.in_after w (inl among)) ww
    | inr is ↦ elim alone [
      | inl following ↦ not_seen ops after (writes_apart claim ops change.apart_before) among_before w sw ww (subst (BeginsAfterRead r) is following.0 ww)
      | inr one ↦
          let same : one.o ≡ w = (let e = one.old_is in cc) in
          record {
            before = λ ahead. absurd (one.old_not (subst (λ (x : Op). Precedes x r) (sym same) ahead));
            over = λ over.
                let lt : w.begin.0 < end_number r = among_before.reached w sw ww over.1 in (
                  one.n,
                  change.in_after one.n (inr one.new_is),
                  one.new_writes,
                  other_over one.o one.n one.begin one.new_not among_after.not_over (subst (λ (x : Op). x.begin.0 < end_number r) (sym same) lt),
                  sym one.value ∙ ap (λ (x : Op). value_of x.act) same,
                );
          }
    ]
  ]

  seen_before : AreSeenIn r after ops
  seen_before w sw ww = elim (change.is w sw) [
    | inl among ↦ itself ops w (change.in_before w (inl among)) ww
    | inr is ↦ elim alone [
      | inl following ↦ not_seen after ops (writes_apart claim after change.apart_after) among_after w sw ww (subst (BeginsAfterRead r) is following.1 ww)
      | inr one ↦
          let same : one.n ≡ w = (let e = one.new_is in cc) in
          record {
            before = λ ahead. absurd (one.new_not (subst (λ (x : Op). Precedes x r) (sym same) ahead));
            over = λ over.
                let lt : w.begin.0 < end_number r = among_after.reached w sw ww over.1 in (
                  one.o,
                  change.in_before one.o (inr one.old_is),
                  one.old_writes,
                  other_over one.n one.o (sym one.begin) one.old_not among_before.not_over (subst (λ (x : Op). x.begin.0 < end_number r) (sym same) lt),
                  one.value ∙ ap (λ (x : Op). value_of x.act) same,
                );
          }
    ]
  ]

  pub left_alone : is_wrong_read claim ops r ≡ is_wrong_read claim after r
  left_alone = judged_alike r ops after seen_after seen_before claim
