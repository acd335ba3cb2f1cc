-- In the tree the last cover before a read decides whether the read is right.
use Rattle.std.proofs.Common.{◌≡◌, ◌≢◌, ◌<◌, ◌≤◌, ◌⊎◌, inl, inr, Bool, true, false, not, ◌&&◌, List, Option, Some, None, Decides, refl, sym, ap, subst, ◌∙◌, arith}
use Rattle.std.specs.Prelude.{All, Contains, IfSome, nat_lt, option_map, if◌then◌else◌}
use Rattle.std.proofs.lemmas.Bool.{cases_Bool, cases_lt}
use Rattle.std.proofs.lemmas.Bool.Decides.{Decides-and, Decides-like, Decides-not, Decides-ltb, not_from_Decides, same_from_decides}
use Rattle.std.proofs.lemmas.List.Elements.{All-contains}
use Rattle.intervals.specs.declared.claim.Kind.{Kind}
use Rattle.intervals.specs.declared.claim.Kind.TheVariants.{Safe, Regular, Atomic}
use Rattle.intervals.specs.declared.operation.Op.{Op}
use Rattle.intervals.specs.declared.operation.Value.{Value}
use Rattle.intervals.specs.Judging.{end_number, is_allowed, is_regular_read, is_safe_read, is_wrong_read}
use Rattle.intervals.specs.Kind.{IsAllowed, IsInValueSet, IsRegularRead, IsSafeRead, OverlapsWrite, ReturnsLast}
use Rattle.intervals.specs.Operation.{EndsBefore, IsJudgedRead, IsWrite, Precedes, ends_before, precedes, same_value, value_of}
use Rattle.intervals.specs.Terms.{ClaimModel}
use Rattle.intervals.proofs.Agreement.{Decides-ends_before, Decides-is_allowed, Decides-is_regular_read, Decides-is_safe_read, Decides-precedes, Decides-same_value}
use Rattle.read_tree.specs.declared.item.RowItem.{RowItem}
use Rattle.read_tree.specs.Items.{IsCoverAt, cover_of, is_uncovered, spot_of_item, row_of}
use Rattle.safe_regular.specs.Apart.{AreSequential}
use Rattle.safe_regular.specs.Held.{IsWithinMoments, AreOneWriters}
use Rattle.safe_regular.specs.RowItems.{AreItemsOf, counted_from_1, cover_item, optional_end, initial_item, reach_by, read_item}
use Rattle.safe_regular.specs.LookUp.{BeginsAfter, BeginsFrom, IsFirstWriteOf, IsLastWrite, NoneFits}
use Rattle.intervals.proofs.Members.{all_from}
use Rattle.safe_regular.proofs.Apart.{begins_before, either_way, precedes_with}
use Rattle.safe_regular.proofs.LookUp.{first_found}
use Rattle.safe_regular.proofs.Members.{are_apart}
use Rattle.safe_regular.proofs.Nearest.{ByNone, IsNear, IsNearest, IsReadAmong, counted_some, nearest, reach_below, reach_test, read_among}
use Rattle.safe_regular.proofs.Edited.{all_low, write_allowed}

-- tests for two things of which exactly one holds have opposite results
pub decides_not : (P Q : Type 0) (b q : Bool) → Decides b P → Decides q Q → (P → ¬ Q) → ((¬ P) → Q) → b ≡ not q
decides_not P Q b q decides_b decides_q one other = same_from_decides b (not q) decides_b (Decides-like (not q) back one (Decides-not q decides_q))
  where
    by_cases : P ⊎ (¬ P) → ¬ Q → P
    by_cases (inl p) n = p
    by_cases (inr h) n = absurd (n (other h))

    back : ¬ Q → P
    back = by_cases (either_way b decides_b)

module _ (claim : ClaimModel) (ops : List Op) (apart : AreSequential ops) (r : Op) (among : IsReadAmong ops r) where
  -- a write that precedes r begins before r ends
  pub before_reached : (w : Op) → Contains ops w → IsWrite w → Precedes w r → w.begin.0 < end_number r
  before_reached w sw ww before = let lt = begins_before w r (apart.proper w sw ww) before in let long = among.long in omega arith

  -- a write that begins before r ends and does not precede it overlaps it
  overlaps_here : (w : Op) → Contains ops w → IsWrite w → w.begin.0 < end_number r → ¬ Precedes w r → OverlapsWrite ops r
  overlaps_here w sw ww reached not = (sw.0, w, sw.1, sw.2, (ww, (not, among.not_over w reached)))

  -- where the first write with a property does not precede r, no write with it does
  none_past : (P : Op → Type 0) (next : Option Op) → IsFirstWriteOf P ops next → ¬ EndsBefore (optional_end next) r.begin → (w : Op) → Contains ops w → IsWrite w → P w → ¬ Precedes w r
  none_past P next is not w sw ww fits before =
      let n = first_found P ops next is w sw ww fits in
      not (subst (λ (o : Option Op). EndsBefore (optional_end o) r.begin) (sym n.1) (precedes_with ops apart n.0 w r n.2.present sw n.2.write ww n.3 before))

  -- a regular register, and no write of r's value begins before r ends
  module _ (none : NoneFits (IsNear Regular r) ops) where
    -- then r is right only with the initial value, and no write precedes it
    alone : IsRegularRead claim ops r → All (λ w. IsWrite w → ¬ Precedes w r) ops × (value_of r.act ≡ claim.initial)
    alone (inl any) = absurd (none any.1 (any.0, any.2, any.3) any.4.0 (sym any.4.2, among.reached any.1 (any.0, any.2, any.3) any.4.0 any.4.1.1))
    alone (inr (inl l)) = absurd (none l.0 l.1.present l.1.write (sym l.2, before_reached l.0 l.1.present l.1.write l.1.before))
    alone (inr (inr h)) = h

    past_initial : (next : Option Op) → IsFirstWriteOf (BeginsFrom 0) ops next → EndsBefore (optional_end next) r.begin → ¬ IsRegularRead claim ops r
    past_initial None is past right = past
    past_initial (Some n) is past right = All-contains (λ w. IsWrite w → ¬ Precedes w r) ops n (alone right).0 is.present is.write past

  -- the initial value is right where the first of all writes does not precede r
  right_initial : (next : Option Op) → value_of r.act ≡ claim.initial → IsFirstWriteOf (BeginsFrom 0) ops next → ¬ EndsBefore (optional_end next) r.begin → IsRegularRead claim ops r
  right_initial next e is not =
      inr (inr (all_from (λ w. IsWrite w → ¬ Precedes w r) ops (λ w sw ww. none_past (BeginsFrom 0) next is not w sw ww (omega arith)), e))

  -- w is the last write of r's value to begin before r ends, and `next` the write after w
  module _ (w : Op) (last : IsLastWrite (IsNear Regular r) ops w) (next : Option Op) (is : IsFirstWriteOf (BeginsAfter w.begin.0) ops next) where
    -- r is wrong where the write after w precedes r
    past_write : EndsBefore (optional_end next) r.begin → ¬ IsRegularRead claim ops r
    past_write = by_cases next is
      where
        by_cases : (next : Option Op) → IsFirstWriteOf (BeginsAfter w.begin.0) ops next → EndsBefore (optional_end next) r.begin → ¬ IsRegularRead claim ops r
        by_cases None first past right = past
        by_cases (Some n) first past (inl any) =
            let sv : Contains ops any.1 = (any.0, any.2, any.3) in
            let le = last.last any.1 sv any.4.0 (sym any.4.2, among.reached any.1 sv any.4.0 any.4.1.1) in
            let lt : w.begin.0 < n.begin.0 = first.fits in
            any.4.1.0 (precedes_with ops apart any.1 n r sv first.present any.4.0 first.write (omega arith) past)
        by_cases (Some n) first past (inr (inl l)) =
            let le = last.last l.0 l.1.present l.1.write (sym l.2, before_reached l.0 l.1.present l.1.write l.1.before) in
            let lt : w.begin.0 < n.begin.0 = first.fits in
            let ge : n.begin.0 ≤ l.0.begin.0 = All-contains (λ v. IsWrite v → Precedes v r → v.begin.0 ≤ l.0.begin.0) ops n l.1.last first.present first.write past in
            omega arith
        by_cases (Some n) first past (inr (inr h)) = All-contains (λ v. IsWrite v → ¬ Precedes v r) ops n h.0 first.present first.write past

    no_later : ¬ EndsBefore (optional_end next) r.begin → (v : Op) → Contains ops v → IsWrite v → Precedes v r → v.begin.0 ≤ w.begin.0
    no_later not v sv wv before = by_cases (cases_lt w.begin.0 v.begin.0)
      where
        by_cases : (w.begin.0 < v.begin.0) ⊎ (v.begin.0 ≤ w.begin.0) → v.begin.0 ≤ w.begin.0
        by_cases (inl lt) = absurd (none_past (BeginsAfter w.begin.0) next is not v sv wv lt before)
        by_cases (inr le) = le

    -- r is right where the write after w does not precede it: w overlaps r, or is the last write before it
    right_write : ¬ EndsBefore (optional_end next) r.begin → IsRegularRead claim ops r
    right_write not = by_cases (either_way (precedes w r) (Decides-precedes w r))
      where
        by_cases : Precedes w r ⊎ (¬ Precedes w r) → IsRegularRead claim ops r
        by_cases (inl before) = inr (inl (
          w,
          record { present = last.present; write = last.write; before = before; last = all_from (λ v. IsWrite v → Precedes v r → v.begin.0 ≤ w.begin.0) ops (no_later not) },
          sym last.fits.0,
        ))
        by_cases (inr over) = inl (last.present.0, w, last.present.1, last.present.2, (last.write, (over, among.not_over w last.fits.1), sym last.fits.0))

  -- a safe register, and no write begins before r ends
  module _ (none : NoneFits (IsNear Safe r) ops) where
    pub safe_initial : value_of r.act ≡ claim.initial → IsInValueSet claim (value_of r.act) → IsSafeRead claim ops r
    safe_initial e allowed = (
      (λ _. inr (all_from (λ w. IsWrite w → ¬ Precedes w r) ops (λ w sw ww before. none w sw ww (refl, before_reached w sw ww before)), e)),
      (λ _. allowed),
    )

    pub wrong_initial : value_of r.act ≢ claim.initial → ¬ IsSafeRead claim ops r
    wrong_initial other right = by_cases (right.0 (λ any. none any.1 (any.0, any.2, any.3) any.4.0 (refl, among.reached any.1 (any.0, any.2, any.3) any.4.0 any.4.1.1)))
      where
        by_cases : ReturnsLast claim.initial ops r → ⊥
        by_cases (inl l) = none l.0 l.1.present l.1.write (refl, before_reached l.0 l.1.present l.1.write l.1.before)
        by_cases (inr h) = other h.1

  -- a safe register, and w is the last write to begin before r ends
  module _ (w : Op) (last : IsLastWrite (IsNear Safe r) ops w) where
    -- r with an allowed value is right where that is the value of w, or where w does not precede r
    pub safe_write : ¬ ((value_of r.act ≢ value_of w.act) × Precedes w r) → IsInValueSet claim (value_of r.act) → IsSafeRead claim ops r
    safe_write not allowed =
        (by_cases (either_way (precedes w r) (Decides-precedes w r)) (either_way (same_value (value_of r.act) (value_of w.act)) (Decides-same_value (value_of r.act) (value_of w.act))), (λ _. allowed))
      where
        by_cases : Precedes w r ⊎ (¬ Precedes w r) → (value_of r.act ≡ value_of w.act) ⊎ (value_of r.act ≢ value_of w.act) → ¬ OverlapsWrite ops r → ReturnsLast claim.initial ops r
        by_cases (inl before) (inl same) _ = inl (
          w,
          record {
            present = last.present;
            write = last.write;
            before = before;
            last = all_from (λ v. IsWrite v → Precedes v r → v.begin.0 ≤ w.begin.0) ops (λ v sv wv ahead. last.last v sv wv (refl, before_reached v sv wv ahead));
          },
          same,
        )
        by_cases (inl before) (inr other) _ = absurd (not (other, before))
        by_cases (inr over) _ none = absurd (none (overlaps_here w last.present last.write last.fits.1 over))

    none_over : Precedes w r → ¬ OverlapsWrite ops r
    none_over before any =
        let sv : Contains ops any.1 = (any.0, any.2, any.3) in
        let le = last.last any.1 sv any.4.0 (refl, among.reached any.1 sv any.4.0 any.4.1.1) in
        any.4.1.0 (precedes_with ops apart any.1 w r sv last.present any.4.0 last.write le before)

    -- r with another value than w is wrong where w precedes it
    pub wrong_write : (value_of r.act ≢ value_of w.act) × Precedes w r → ¬ IsSafeRead claim ops r
    wrong_write (other, before) right = by_cases (right.0 (none_over before))
      where
        by_cases : ReturnsLast claim.initial ops r → ⊥
        by_cases (inl l) =
            let le = last.last l.0 l.1.present l.1.write (refl, before_reached l.0 l.1.present l.1.write l.1.before) in
            let ge : w.begin.0 ≤ l.0.begin.0 = All-contains (λ v. IsWrite v → Precedes v r → v.begin.0 ≤ l.0.begin.0) ops w l.1.last last.present last.write before in
            other (l.2 ∙ ap (λ (o : Op). value_of o.act) (apart.one l.0 w l.1.present last.present l.1.write last.write (omega arith)))
        by_cases (inr h) = All-contains (λ v. IsWrite v → ¬ Precedes v r) ops w h.0 last.present last.write before

  -- a read of a value that is not allowed is wrong
  pub wrong_value : ((w : Op) → Contains ops w → IsWrite w → IsInValueSet claim (value_of w.act)) → IsInValueSet claim claim.initial → ¬ IsInValueSet claim (value_of r.act) → ¬ IsSafeRead claim ops r
  wrong_value of_writes of_initial none right = by_cases (right.0 (λ over. none (right.1 over)))
    where
      by_cases : ReturnsLast claim.initial ops r → ⊥
      by_cases (inl l) = none (subst (IsInValueSet claim) (sym l.2) (of_writes l.0 l.1.present l.1.write))
      by_cases (inr h) = none (subst (IsInValueSet claim) (sym h.1) of_initial)

pub true_not : (Q : Type 0) (q : Bool) → Decides q Q → ¬ Q → true ≡ not q
true_not Q q decides_q none = sym ((Decides-not q decides_q).1 none)

differ : (a b : Value) → a ≢ b → same_value a b ≡ false
differ a b other = by_cases (cases_Bool (same_value a b))
  where
    by_cases : (same_value a b ≡ true) ⊎ (same_value a b ≡ false) → same_value a b ≡ false
    by_cases (inl t) = absurd (other ((Decides-same_value a b).0 t))
    by_cases (inr f) = f

module _ (base : ClaimModel) (ops : List Op) (apart : AreSequential ops) (r : Op) (among : IsReadAmong ops r) (low : r.begin.0 ≤ 4611686018427387903) where
  abbrev regular : ClaimModel
  regular = record base { kind = Regular }

  abbrev IsShortHere : Option RowItem → Type 0
  IsShortHere c = is_uncovered (option_map cover_of c) (read_item regular r) ≡ not (is_regular_read regular ops r)

  decides_regular : Decides (is_regular_read regular ops r) (IsRegularRead regular ops r)
  decides_regular = Decides-is_regular_read regular ops r

  regular_none : (c : Option RowItem) → ByNone regular ops r c → IsShortHere c
  regular_none c k = by_cases c k.other
    where
      wrong : true ≡ not (is_regular_read regular ops r)
      wrong = true_not (IsRegularRead regular ops r) (is_regular_read regular ops r) decides_regular (λ right. k.row (sym (alone regular ops apart r among k.none right).1))

      some : nat_lt 0 (counted_from_1 r.begin.0) ≡ true
      some = (Decides-ltb 0 (counted_from_1 r.begin.0)).1 (counted_some r.begin.0)

      by_cases : (c : Option RowItem) → IfSome c (λ d. (d.by_value ≡ true) × (row_of d ≢ value_of r.act)) → IsShortHere c
      by_cases None other = some ∙ wrong
      by_cases (Some d) other =
          let apart_from : d.value ≢ value_of r.act = rw other.0 at other.1 in
          rw (differ (value_of r.act) d.value (λ e. apart_from (sym e)), other.0, some) wrong

  -- a cover in r's row reaches r exactly where the write after it does not precede r
  regular_by : (next : Option Op) → (EndsBefore (optional_end next) r.begin → ¬ IsRegularRead regular ops r) → (¬ EndsBefore (optional_end next) r.begin → IsRegularRead regular ops r)
      → nat_lt (reach_by (optional_end next)) (counted_from_1 r.begin.0) ≡ not (is_regular_read regular ops r)
  regular_by next past right =
      reach_test (optional_end next) r.begin low
      ∙ decides_not (EndsBefore (optional_end next) r.begin) (IsRegularRead regular ops r) (ends_before (optional_end next) r.begin) (is_regular_read regular ops r)
      (Decides-ends_before (optional_end next) r.begin) decides_regular past right

  -- a regular register's read is uncovered exactly where it is wrong
  regular_short : (c : Option RowItem) → IsNearest regular ops r c → IsShortHere c
  regular_short c (inl k) =
      subst IsShortHere (sym k.is)
      (rw ((Decides-same_value (value_of r.act) (value_of k.write.act)).1 (sym k.last.fits.0))
      (regular_by k.next (past_write regular ops apart r among k.write k.last k.next k.next_is) (right_write regular ops apart r among k.write k.last k.next k.next_is)))
  regular_short c (inr (inl k)) =
      subst IsShortHere (sym k.is)
      (rw ((Decides-same_value (value_of r.act) base.initial).1 (sym k.row))
      (regular_by k.next (past_initial regular ops apart r among k.none k.next k.next_is) (right_initial regular ops apart r among k.next (sym k.row) k.next_is)))
  regular_short c (inr (inr k)) = regular_none c k

module _ (base : ClaimModel) (ops : List Op) (apart : AreSequential ops) (r : Op) (among : IsReadAmong ops r) (low : All IsWithinMoments ops) (present : Contains ops r)
    (of_writes : (w : Op) → Contains ops w → IsWrite w → IsInValueSet base (value_of w.act)) (of_initial : IsInValueSet base base.initial) where
  abbrev safe : ClaimModel
  safe = record base { kind = Safe }

  abbrev is_short_by : Option RowItem → Bool
  is_short_by c = is_uncovered (option_map cover_of c) (read_item safe r)

  abbrev IsShortAs : Option RowItem → Type 0
  IsShortAs c = is_short_by c ≡ not (is_safe_read safe ops r)

  decides_safe : Decides (is_safe_read safe ops r) (IsSafeRead safe ops r)
  decides_safe = Decides-is_safe_read safe ops r

  low_of : (op : Op) → Contains ops op → IsWithinMoments op
  low_of op = All-contains IsWithinMoments ops op low

  -- the case of a value that is allowed
  module _ (allowed : is_allowed base.domain base.initial (value_of r.act) ≡ true) where
    in_set : IsInValueSet base (value_of r.act)
    in_set = (Decides-is_allowed base.domain base.initial (value_of r.act)).0 allowed

    allowed_write : (w : Op) (next : Option Op) → IsLastWrite (IsNear Safe r) ops w → IsShortAs (Some (cover_item safe w next))
    allowed_write w next last =
        short
        ∙ decides_not ((value_of r.act ≢ value_of w.act) × Precedes w r) (IsSafeRead safe ops r) (not (same_value (value_of r.act) (value_of w.act)) && precedes w r) (is_safe_read safe ops r)
        (Decides-and (not (same_value (value_of r.act) (value_of w.act))) (precedes w r) (Decides-not (same_value (value_of r.act) (value_of w.act)) (Decides-same_value (value_of r.act) (value_of w.act))) (Decides-precedes w r))
        decides_safe (wrong_write safe ops apart r among w last) (λ n. safe_write safe ops apart r among w last n in_set)
      where
        chosen : (s : Bool) → (if s then false else precedes w r) ≡ not s && precedes w r
        chosen true = refl
        chosen false = refl

        short : is_short_by (Some (cover_item safe w next)) ≡ not (same_value (value_of r.act) (value_of w.act)) && precedes w r
        short = rw (allowed, reach_test w.end r.begin (low_of r present).begin) (chosen (same_value (value_of r.act) (value_of w.act)))

    allowed_initial : (next : Option Op) → NoneFits (IsNear Safe r) ops → IsShortAs (Some (initial_item safe next))
    allowed_initial next none =
        short
        ∙ decides_not (value_of r.act ≢ base.initial) (IsSafeRead safe ops r) (not (same_value (value_of r.act) base.initial)) (is_safe_read safe ops r)
        (Decides-not (same_value (value_of r.act) base.initial) (Decides-same_value (value_of r.act) base.initial))
        decides_safe (wrong_initial safe ops apart r among none) right
      where
        chosen : (s : Bool) → (if s then false else true) ≡ not s
        chosen true = refl
        chosen false = refl

        short : is_short_by (Some (initial_item safe next)) ≡ not (same_value (value_of r.act) base.initial)
        short = rw (allowed, (Decides-ltb 0 (counted_from_1 r.begin.0)).1 (counted_some r.begin.0)) (chosen (same_value (value_of r.act) base.initial))

        right : ¬ (value_of r.act ≢ base.initial) → IsSafeRead safe ops r
        right n = by_cases (either_way (same_value (value_of r.act) base.initial) (Decides-same_value (value_of r.act) base.initial))
          where
            by_cases : (value_of r.act ≡ base.initial) ⊎ (value_of r.act ≢ base.initial) → IsSafeRead safe ops r
            by_cases (inl e) = safe_initial safe ops apart r among none e in_set
            by_cases (inr other) = absurd (n other)

  -- a value that is not allowed
  module _ (refused : is_allowed base.domain base.initial (value_of r.act) ≡ false) where
    not_in_set : ¬ IsInValueSet base (value_of r.act)
    not_in_set = not_from_Decides (is_allowed base.domain base.initial (value_of r.act)) (Decides-is_allowed base.domain base.initial (value_of r.act)) refused

    wrong : true ≡ not (is_safe_read safe ops r)
    wrong = true_not (IsSafeRead safe ops r) (is_safe_read safe ops r) decides_safe (wrong_value safe ops apart r among of_writes of_initial not_in_set)

    refused_write : (w : Op) (next : Option Op) → Contains ops w → IsWrite w → IsShortAs (Some (cover_item safe w next))
    refused_write w next sw ww = short ∙ wrong
      where
        short : is_short_by (Some (cover_item safe w next)) ≡ true
        short = rw (differ (value_of r.act) (value_of w.act) (λ e. not_in_set (subst (IsInValueSet base) (sym e) (of_writes w sw ww))), refused, reach_below w.end (low_of w sw).end) refl

    refused_initial : (next : Option Op) → IsShortAs (Some (initial_item safe next))
    refused_initial next = short ∙ wrong
      where
        short : is_short_by (Some (initial_item safe next)) ≡ true
        short = rw (differ (value_of r.act) base.initial (λ e. not_in_set (subst (IsInValueSet base) (sym e) of_initial)), refused) refl

  -- a safe register's read is uncovered exactly where it is wrong
  safe_short : (c : Option RowItem) → IsNearest safe ops r c → IsShortAs c
  safe_short c near = by_cases near (cases_Bool allows)
    where
      allows : Bool
      allows = is_allowed base.domain base.initial (value_of r.act)

      by_cases : IsNearest safe ops r c → (allows ≡ true) ⊎ (allows ≡ false) → IsShortAs c
      by_cases (inl k) (inl t) = subst IsShortAs (sym k.is) (allowed_write t k.write k.next k.last)
      by_cases (inl k) (inr f) = subst IsShortAs (sym k.is) (refused_write f k.write k.next k.last.present k.last.write)
      by_cases (inr (inl k)) (inl t) = subst IsShortAs (sym k.is) (allowed_initial t k.next k.none)
      by_cases (inr (inl k)) (inr f) = subst IsShortAs (sym k.is) (refused_initial f k.next)
      by_cases (inr (inr k)) _ = absurd (k.row refl)

-- the initial value is in the value set
pub initial_in_set : (domain : Option (List Value)) (initial : Value) → IsAllowed domain initial initial
initial_in_set None initial = tt
initial_in_set (Some values) initial = inr refl

-- the value of each write is in the value set
pub in_value_set : (claim : ClaimModel) (ops : List Op) → AreOneWriters claim ops → (w : Op) → Contains ops w → IsWrite w → IsInValueSet claim (value_of w.act)
in_value_set claim ops apart w sw ww =
    (Decides-is_allowed claim.domain claim.initial (value_of w.act)).0 (write_allowed claim ops apart w sw ww)

module _ (ops : List Op) (items : List RowItem) (r : Op) (present : Contains ops r) (judged : IsJudgedRead r) (c : Option RowItem) (base : ClaimModel) where
  by_kind : (kind : Kind) → let claim : ClaimModel = record base { kind = kind } in AreOneWriters claim ops → AreItemsOf claim ops items → IsCoverAt items (spot_of_item (read_item claim r)) c
      → is_uncovered (option_map cover_of c) (read_item claim r) ≡ is_wrong_read claim ops r
  by_kind Safe apart are is =
      let claim : ClaimModel = record base { kind = Safe } in
      let low = All-contains IsWithinMoments ops r (all_low claim ops apart) present in
      rw judged
      (safe_short base ops (are_apart ops apart.kept.moments apart.kept.ends (apart.kept.writes apart.one_writer)) r (read_among claim ops apart r present judged) (all_low claim ops apart) present
      (in_value_set claim ops apart) (initial_in_set base.domain base.initial) c (nearest claim ops items are r low.end c is))
  by_kind Regular apart are is =
      let claim : ClaimModel = record base { kind = Regular } in
      let low = All-contains IsWithinMoments ops r (all_low claim ops apart) present in
      rw judged
      (regular_short base ops (are_apart ops apart.kept.moments apart.kept.ends (apart.kept.writes apart.one_writer)) r (read_among claim ops apart r present judged) low.begin c
      (nearest claim ops items are r low.end c is))
  by_kind Atomic apart are is = absurd (apart.one_writer refl)

module _ (claim : ClaimModel) (ops : List Op) (apart : AreOneWriters claim ops) (items : List RowItem) (are : AreItemsOf claim ops items) where
  -- the last cover before a judged read leaves it uncovered exactly where it breaks its register's sentence
  pub covered : (r : Op) → Contains ops r → IsJudgedRead r → (c : Option RowItem) → IsCoverAt items (spot_of_item (read_item claim r)) c
      → is_uncovered (option_map cover_of c) (read_item claim r) ≡ is_wrong_read claim ops r
  covered r present judged c is = by_kind ops items r present judged c claim claim.kind apart are is
