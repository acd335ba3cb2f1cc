-- The last cover before a read is that of the last write in its row to begin before its end, or the initial one.
use Rattle.std.proofs.Common.{◌≡◌, ◌≢◌, ℕ, ◌<◌, ◌≤◌, ◌⊎◌, inl, inr, Bool, true, false, not, ◌&&◌, List, Option, Some, None, Decides, refl, sym, ap, subst, ◌∙◌, arith}
use Rattle.std.specs.Prelude.{Contains, IfSome, IsTrue, is_some, nat_lt, if◌then◌else◌}
use Rattle.std.specs.declared.cmp.Ordering.{Ordering}
use Rattle.std.specs.declared.cmp.Ordering.TheVariants.{Less, Equal, Greater}
use Rattle.std.specs.Option.{option_map_or}
use Rattle.std.specs.Ordering.{nat_cmp, ordering_then}
use Rattle.std.proofs.lemmas.Bool.{cases_lt, cases_order, and_parts}
use Rattle.std.proofs.lemmas.Bool.Decides.{Decides-and, Decides-like, Decides-ltb, nat_tests, same_from_decides}
use Rattle.std.proofs.lemmas.Cmp.{int_cmp_total, tied_itself, ranked}
use Rattle.std.proofs.lemmas.List.Elements.{All-contains}
use Rattle.std.proofs.lemmas.Map.Lookups.{exact_signed}
use Rattle.intervals.specs.contracts.operation.ValueOrd.TheImpl as value_ord
use Rattle.intervals.specs.declared.claim.Kind.{Kind}
use Rattle.intervals.specs.declared.operation.Moment.{Moment}
use Rattle.intervals.specs.declared.operation.Op.{Op}
use Rattle.intervals.specs.declared.operation.Value.{Value}
use Rattle.intervals.specs.declared.operation.Value.TheVariants.{Nil, Int}
use Rattle.intervals.specs.declared.ordered_index.Spot.{Spot}
use Rattle.intervals.specs.Judging.{end_number}
use Rattle.intervals.specs.Least.{least_by}
use Rattle.intervals.specs.Operation.{EndsBefore, IsJudgedRead, IsWrite, Precedes, ends_before, is_write, same_value, value_of}
use Rattle.intervals.specs.OrderedIndex.{spot_cmp, spot_of}
use Rattle.intervals.specs.Standing.{ShareNoMoment}
use Rattle.intervals.specs.Terms.{ClaimModel}
use Rattle.intervals.proofs.Agreement.{Decides-IsTrue, Decides-same_value}
use Rattle.intervals.proofs.LeastOf.{least_by-IsLeast, least_from-None}
use Rattle.read_tree.specs.declared.item.RowItem.{RowItem}
use Rattle.read_tree.specs.Items.{IsCoverAt, IsLastCover, StandsBefore, spot_of_item, row_of}
use Rattle.safe_regular.specs.Apart.{EndsAfterBeginning}
use Rattle.safe_regular.specs.Held.{AreOneWriters}
use Rattle.safe_regular.specs.RowItems.{AreItemsOf, IsOperationItem, counted_from_1, cover_item, has_rows, initial_item, numbered_moment, reach_by, read_item}
use Rattle.safe_regular.specs.LookUp.{BeginsAfter, BeginsFrom, IsFirstWriteOf, IsLastWrite, NoneFits}
use Rattle.safe_regular.proofs.Apart.{either_way}
use Rattle.intervals.proofs.Members.{one_or_so, same_moment}

abbrev value_cmp : Value → Value → Ordering
value_cmp = (value_ord.ghosts).cmp

value_itself : (v : Value) → value_cmp v v ≡ Equal
value_itself Nil = refl
value_itself (Int x) = tied_itself int_cmp_total x

value_exact : (u v : Value) → value_cmp u v ≡ Equal → u ≡ v
value_exact Nil Nil h = refl
value_exact Nil (Int y) h = absurd (cc)
value_exact (Int x) Nil h = absurd (cc)
value_exact (Int x) (Int y) h = ap Int (exact_signed x y h)

-- in one row the moments decide the order of spots
at_value : (v : Value) (a b : Moment) → spot_cmp (spot_of v a) (spot_of v b) ≡ nat_cmp b.0 a.0
at_value v a b = rw (value_itself v) refl

nat_before : (a b : ℕ) → a < b → nat_cmp a b ≡ Less
nat_before a b lt = grind (arith, nat_tests)

tied : (o p q : Ordering) → ordering_then o p ≡ Less → ¬ (ordering_then o q ≡ Less) → o ≡ Equal
tied Less p q h k = absurd (k refl)
tied Equal p q h k = refl
tied Greater p q h k = absurd (cc)

-- a spot between two spots of a value has that value
between : (v : Value) (m n : Moment) (key : Spot) → StandsBefore key (spot_of v n) → ¬ StandsBefore key (spot_of v m) → key.value ≡ v
between v m n key h k = value_exact key.value v (tied (value_cmp key.value v) (nat_cmp key.moment.0 n.0) (nat_cmp key.moment.0 m.0) h k)

-- in one row the spot of the lesser moment is before the other
present_if : (u v : Value) (a b : Moment) → u ≡ v → a.0 < b.0 → StandsBefore (spot_of u a) (spot_of v b)
present_if u v a b e lt = subst (λ (x : Value). StandsBefore (spot_of x a) (spot_of v b)) (sym e) (at_value v b a ∙ nat_before a.0 b.0 lt)

is_if_present : (u v : Value) (a b : Moment) → u ≡ v → StandsBefore (spot_of u a) (spot_of v b) → a.0 < b.0
is_if_present u v a b e h =
    let same : StandsBefore (spot_of v a) (spot_of v b) = subst (λ (x : Value). StandsBefore (spot_of x a) (spot_of v b)) e h in
    ranked a.0 b.0 Less (sym same ∙ at_value v b a)

-- c is the last cover before x, and d a cover before x in the row of x
module _ (items : List RowItem) (x c : RowItem) (is : IsLastCover items (spot_of_item x) c) (d : RowItem) (present : Contains items d) (covers : IsTrue d.covers) (row : row_of d ≡ row_of x) (before : d.moment.0 < x.moment.0) where
  d_before : StandsBefore (spot_of_item d) (spot_of_item x)
  d_before = present_if (row_of d) (row_of x) d.moment x.moment row before

  -- c is no earlier than d, if c is in that row
  none_later : row_of c ≡ row_of x → d.moment.0 ≤ c.moment.0
  none_later same = by_cases (cases_lt c.moment.0 d.moment.0)
    where
      by_cases : (c.moment.0 < d.moment.0) ⊎ (d.moment.0 ≤ c.moment.0) → d.moment.0 ≤ c.moment.0
      by_cases (inl lt) = absurd (is.last d present covers d_before (present_if (row_of c) (row_of d) c.moment d.moment (same ∙ sym row) lt))
      by_cases (inr le) = le

  -- c is in that row
  row_same : row_of c ≡ row_of x
  row_same =
      between (row_of x) d.moment x.moment (spot_of_item c) is.before
      (λ h. is.last d present covers d_before (subst (λ (v : Value). StandsBefore (spot_of_item c) (spot_of v d.moment)) (sym row) h))

-- of the writes with a property there is a first one, or there is none
module _ (P : Op → Type 0) (p : Op → Bool) (decides : (op : Op) → Decides (p op) (P op)) (ops : List Op) where
  passes : (op : Op) → Decides (is_write op && p op) (IsWrite op × P op)
  passes op = Decides-and (is_write op) (p op) (Decides-IsTrue (is_write op)) (decides op)

  first_exists : (next : Option Op) × IsFirstWriteOf P ops next
  first_exists = (least_by begin test ops, by_cases (least_by begin test ops) refl)
    where
      begin : Op → ℕ
      begin op = op.begin.0

      test : Op → Bool
      test op = is_write op && p op

      by_cases : (found : Option Op) → least_by begin test ops ≡ found → IsFirstWriteOf P ops found
      by_cases None e = λ w sw ww fits. All-contains (λ o. ¬ IsTrue (test o)) ops w (least_from-None begin test None ops e).1 sw ((passes w).1 (ww, fits))
      by_cases (Some n) e =
          let is = least_by-IsLeast begin test ops n e in
          let q = (passes n).0 is.passes in
          record {
            present = is.present;
            write = q.0;
            fits = q.1;
            first = λ w sw ww fits. All-contains (λ o. IsTrue (test o) → begin n ≤ begin o) ops w is.least sw ((passes w).1 (ww, fits));
          }

first_after : (m : ℕ) (ops : List Op) → (next : Option Op) × IsFirstWriteOf (BeginsAfter m) ops next
first_after m ops = first_exists (BeginsAfter m) (λ op. nat_lt m op.begin.0) (λ op. Decides-ltb m op.begin.0) ops

first_of_all : (ops : List Op) → (next : Option Op) × IsFirstWriteOf (BeginsFrom 0) ops next
first_of_all ops = first_exists (BeginsFrom 0) (λ op. true) (λ op. (λ _. omega arith, λ _. refl)) ops

-- the writes that begin before the read ends are those that it does not precede, and it ends after it begins
pub record IsReadAmong (ops : List Op) (r : Op) : Type 0 where
  pub long : r.begin.0 < end_number r
  pub reached : (w : Op) → Contains ops w → IsWrite w → ¬ Precedes r w → w.begin.0 < end_number r
  pub not_over : (w : Op) → w.begin.0 < end_number r → ¬ Precedes r w

-- the row of a value
abbrev pub row_in : Kind → Value → Value
row_in kind value = if has_rows kind then value else Nil

-- a write in the row of r that begins before r ends
abbrev pub IsNear : Kind → Op → Op → Type 0
IsNear kind r w = (row_in kind (value_of w.act) ≡ row_in kind (value_of r.act)) × (w.begin.0 < end_number r)

-- the last cover before r is that of the last write in its row that begins before r ends
pub record ByWrite (claim : ClaimModel) (ops : List Op) (r : Op) (c : Option RowItem) : Type 0 where
  pub write : Op
  pub next : Option Op
  pub is : c ≡ Some (cover_item claim write next)
  pub last : IsLastWrite (IsNear claim.kind r) ops write
  pub next_is : IsFirstWriteOf (BeginsAfter write.begin.0) ops next

-- no write of r's row begins before r ends; the last cover before r is that of the initial value
pub record ByInitial (claim : ClaimModel) (ops : List Op) (r : Op) (c : Option RowItem) : Type 0 where
  pub next : Option Op
  pub is : c ≡ Some (initial_item claim next)
  pub row : row_in claim.kind claim.initial ≡ row_in claim.kind (value_of r.act)
  pub none : NoneFits (IsNear claim.kind r) ops
  pub next_is : IsFirstWriteOf (BeginsFrom 0) ops next

-- no write of r's row begins before r ends, nor is the initial value in the row; so no cover before r is in the row
pub record ByNone (claim : ClaimModel) (ops : List Op) (r : Op) (c : Option RowItem) : Type 0 where
  pub other : IfSome c (λ d. (d.by_value ≡ has_rows claim.kind) × (row_of d ≢ row_in claim.kind (value_of r.act)))
  pub row : row_in claim.kind claim.initial ≢ row_in claim.kind (value_of r.act)
  pub none : NoneFits (IsNear claim.kind r) ops

-- one of these three says what the last cover before r is
abbrev pub IsNearest : ClaimModel → List Op → Op → Option RowItem → Type 0
IsNearest claim ops r c = ByWrite claim ops r c ⊎ (ByInitial claim ops r c ⊎ ByNone claim ops r c)

counted_less : (m n : ℕ) → n ≤ 4611686018427387903 → m < n → counted_from_1 m < counted_from_1 n
counted_less m n low lt = omega arith

less_by_counted : (m n : ℕ) → counted_from_1 m < counted_from_1 n → m < n
less_by_counted m n lt = omega arith

pub counted_some : (n : ℕ) → 0 < counted_from_1 n
counted_some n = omega arith

-- a read reaches further than a cover by an optional end exactly where that end is before the read begins
pub reach_test : (end : Option Moment) (m : Moment) → m.0 ≤ 4611686018427387903 → nat_lt (reach_by end) (counted_from_1 m.0) ≡ ends_before end m
reach_test None m low = same_from_decides (nat_lt 18446744073709551614 (counted_from_1 m.0)) false (Decides-ltb 18446744073709551614 (counted_from_1 m.0)) (λ e. absurd (cc), λ lt. absurd (omega arith))
reach_test (Some end) m low =
    same_from_decides (nat_lt (counted_from_1 end.0) (counted_from_1 m.0)) (nat_lt end.0 m.0) (Decides-ltb (counted_from_1 end.0) (counted_from_1 m.0))
    (Decides-like (nat_lt end.0 m.0) (counted_less end.0 m.0 low) (less_by_counted end.0 m.0) (Decides-ltb end.0 m.0))

-- no cover of a write reaches as far as a read of a value that is not allowed
pub reach_below : (end : Option Moment) → option_map_or (λ (e : Moment). e.0) end 0 ≤ 4611686018427387903 → nat_lt (reach_by end) 18446744073709551615 ≡ true
reach_below None low = refl
reach_below (Some end) low = (Decides-ltb (counted_from_1 end.0) 18446744073709551615).1 (omega arith)

-- among the items of the operations
module _ (claim : ClaimModel) (ops : List Op) (items : List RowItem) (are : AreItemsOf claim ops items) (r : Op) (low : end_number r ≤ 4611686018427387903) where
  abbrev x : RowItem
  x = read_item claim r

  abbrev InRow : Value → Type 0
  InRow value = row_in claim.kind value ≡ row_in claim.kind (value_of r.act)

  in_row_or_not : (value : Value) → InRow value ⊎ (¬ InRow value)
  in_row_or_not value = either_way (same_value (row_in claim.kind value) (row_in claim.kind (value_of r.act))) (Decides-same_value (row_in claim.kind value) (row_in claim.kind (value_of r.act)))

  -- a write has a cover among the items
  of_write : (w : Op) → Contains ops w → IsWrite w → (next : Option Op) × Contains items (cover_item claim w next)
  of_write w sw ww =
      let n = first_after w.begin.0 ops in
      (n.0, are.each (cover_item claim w n.0) (inr (inl (record { write = w; present = sw; writes = ww; next = n.0; next_is = n.1; is = refl }))))

  of_initial : (next : Option Op) × Contains items (initial_item claim next)
  of_initial = let n = first_of_all ops in (n.0, are.each (initial_item claim n.0) (inr (inr (record { next = n.0; next_is = n.1; is = refl }))))

  -- where the last cover before the read is of another row, none before it is in the row of the read
  by_none : (c : RowItem) → IsLastCover items (spot_of_item x) c → c.by_value ≡ has_rows claim.kind → row_of c ≢ row_of x → IsNearest claim ops r (Some c)
  by_none c is rows other = inr (inr (record {
    other = (rows, other);
    row = λ e. let i = of_initial in other (row_same items x c is (initial_item claim i.0) i.1 refl e (counted_some (end_number r)));
    none = λ w sw ww near. let n = of_write w sw ww in other (row_same items x c is (cover_item claim w n.0) n.1 refl near.0 (counted_less w.begin.0 (end_number r) low near.1));
  }))

  by_write : (w : Op) (next : Option Op) → Contains ops w → IsWrite w → IsFirstWriteOf (BeginsAfter w.begin.0) ops next → IsLastCover items (spot_of_item x) (cover_item claim w next) → IsNearest claim ops r (Some (cover_item claim w next))
  by_write w next sw ww next_is is = by_cases (in_row_or_not (value_of w.act))
    where
      c : RowItem
      c = cover_item claim w next

      by_cases : InRow (value_of w.act) ⊎ (¬ InRow (value_of w.act)) → IsNearest claim ops r (Some c)
      by_cases (inl same) = inl (record {
        write = w;
        next = next;
        is = refl;
        last = record {
          present = sw;
          write = ww;
          fits = (same, less_by_counted w.begin.0 (end_number r) (is_if_present (row_of c) (row_of x) c.moment x.moment same is.before));
          last = λ u su uu near.
              let n = of_write u su uu in
              let le = none_later items x c is (cover_item claim u n.0) n.1 refl near.0 (counted_less u.begin.0 (end_number r) low near.1) same in
              let lt = near.1 in omega arith;
        };
        next_is = next_is;
      })
      by_cases (inr other) = by_none c is refl other

  by_initial : (next : Option Op) → IsFirstWriteOf (BeginsFrom 0) ops next → IsLastCover items (spot_of_item x) (initial_item claim next) → IsNearest claim ops r (Some (initial_item claim next))
  by_initial next next_is is = by_cases (in_row_or_not claim.initial)
    where
      c : RowItem
      c = initial_item claim next

      by_cases : InRow claim.initial ⊎ (¬ InRow claim.initial) → IsNearest claim ops r (Some c)
      by_cases (inl same) = inr (inl (record {
        next = next;
        is = refl;
        row = same;
        none = λ u su uu near.
            let n = of_write u su uu in
            let le = none_later items x c is (cover_item claim u n.0) n.1 refl near.0 (counted_less u.begin.0 (end_number r) low near.1) same in
            let lt = counted_some u.begin.0 in omega arith;
        next_is = next_is;
      }))
      by_cases (inr other) = by_none c is refl other

  -- the last cover before the read is one of the three that `IsNearest` says
  pub nearest : (c : Option RowItem) → IsCoverAt items (spot_of_item x) c → IsNearest claim ops r c
  nearest None is = inr (inr (record {
    other = tt;
    row = λ e. let i = of_initial in is (initial_item claim i.0) i.1 refl (present_if _ _ (numbered_moment 0) x.moment e (counted_some (end_number r)));
    none = λ w sw ww near. let n = of_write w sw ww in is (cover_item claim w n.0) n.1 refl (present_if _ _ (numbered_moment (counted_from_1 w.begin.0)) x.moment near.0 (counted_less w.begin.0 (end_number r) low near.1));
  }))
  nearest (Some c) is = by_cases (are.only c is.present)
    where
      by_cases : IsOperationItem claim ops c → IsNearest claim ops r (Some c)
      by_cases (inl read) = absurd (let covers : IsTrue (read_item claim read.read).covers = subst (λ (d : RowItem). IsTrue d.covers) read.is is.covers in cc)
      by_cases (inr (inl cover)) =
          subst (λ (d : RowItem). IsNearest claim ops r (Some d)) (sym cover.is)
          (by_write cover.write cover.next cover.present cover.writes cover.next_is (subst (IsLastCover items (spot_of_item x)) cover.is is))
      by_cases (inr (inr initial)) =
          subst (λ (d : RowItem). IsNearest claim ops r (Some d)) (sym initial.is)
          (by_initial initial.next initial.next_is (subst (IsLastCover items (spot_of_item x)) initial.is is))

long_by : (begin : Moment) (end : Option Moment) → is_some end ≡ true → IfSome end (λ e. begin.0 < e.0) → begin.0 < option_map_or (λ (e : Moment). e.0) end 0
long_by begin None some h = absurd (cc)
long_by begin (Some end) some h = h

reached_by : (end : Option Moment) (m : Moment) → is_some end ≡ true → ¬ (end ≡ Some m) → ¬ EndsBefore end m → m.0 < option_map_or (λ (e : Moment). e.0) end 0
reached_by None m some other not = absurd (cc)
reached_by (Some end) m some other not = by_cases (cases_order m.0 end.0)
  where
    by_cases : (m.0 ≡ end.0) ⊎ ((m.0 < end.0) ⊎ (end.0 < m.0)) → m.0 < end.0
    by_cases (inl same) = absurd (other (ap Some (same_moment end m (sym same))))
    by_cases (inr (inl lt)) = lt
    by_cases (inr (inr gt)) = absurd (not gt)

not_over_by : (end : Option Moment) (m : Moment) → m.0 < option_map_or (λ (e : Moment). e.0) end 0 → ¬ EndsBefore end m
not_over_by None m lt h = h
not_over_by (Some end) m lt h = omega arith

module _ (claim : ClaimModel) (ops : List Op) (apart : AreOneWriters claim ops) where
  -- for a judged read of the list `IsReadAmong` holds
  pub read_among : (r : Op) → Contains ops r → IsJudgedRead r → IsReadAmong ops r
  read_among r present judged = record {
    long = long_by r.begin r.end ended (All-contains EndsAfterBeginning ops r apart.kept.ends present);
    reached = λ w sw ww not. reached_by r.end w.begin ended (meets w ww (one_or_so ShareNoMoment (λ a b none moment of_b of_a. none moment of_a of_b) ops apart.kept.moments w r sw present)) not;
    not_over = λ w lt. not_over_by r.end w.begin lt;
  }
    where
      ended : is_some r.end ≡ true
      ended = (and_parts (not (is_write r)) (is_some r.end) judged).1

      reads : not (is_write r) ≡ true
      reads = (and_parts (not (is_write r)) (is_some r.end) judged).0

      meets : (w : Op) → IsWrite w → (w ≡ r) ⊎ ShareNoMoment w r → ¬ (r.end ≡ Some w.begin)
      meets w ww (inl same) e = absurd (let f : is_write r ≡ true = ap is_write (sym same) ∙ ww in let g : not true ≡ true = ap not (sym f) ∙ reads in cc)
      meets w ww (inr none) e = none w.begin (inl refl) (inr e)
