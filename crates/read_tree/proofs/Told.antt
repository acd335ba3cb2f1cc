-- The last cover before a spot, and what the tests of a list say of its reads.
use Rattle.std.proofs.Common.{◌≡◌, ℕ, ◌≤◌, ◌⊎◌, inl, inr, Bool, true, false, ◌||◌, cond, nat_lt, List, [], ◌∷◌, Option, Some, None, refl, sym, subst, ap, ◌∙◌, arith}
use Rattle.std.specs.Prelude.{Contains, option_map, IsTrue}
use Rattle.std.proofs.lemmas.Bool.{ltb-true, ltb-false}
use Rattle.intervals.specs.declared.ordered_index.Spot.{Spot}
use Rattle.read_tree.specs.declared.item.RowItem.{RowItem}
use Rattle.read_tree.specs.declared.item.Cover.{Cover}
use Rattle.read_tree.specs.Items.{AreItemsInOrder, StandsBefore, spot_of_item, cover_of, is_uncovered, is_some_uncovered, earlier_read, first_uncovered, IsLastCover, IsCoverAt}
use Rattle.read_tree.specs.Order.{spot_before}
use Rattle.read_tree.proofs.Order.{irreflexive, transitive, asymmetric, trichotomy, comes_true, comes_none}
use Rattle.read_tree.proofs.Members.{at_first, later, first_or_later, none_in, each_holds, one_of_a_spot}
use Rattle.read_tree.proofs.Firsts.{short_one}

-- the last cover before the spot, where o is the last one before the list
abbrev pub next_cover : Option RowItem → RowItem → Option RowItem
next_cover o x = cond x.covers (Some x) o

abbrev pub cover_at : Option RowItem → List RowItem → Spot → Option RowItem
cover_at o [] spot = o
cover_at o (x ∷ items) spot = cond (spot_before (spot_of_item x) spot) (cover_at (next_cover o x) items spot) o

-- no cover of the list comes before the spot
abbrev HasNone : List RowItem → Spot → Type 0
HasNone items spot = (d : RowItem) → Contains items d → IsTrue d.covers → ¬ StandsBefore (spot_of_item d) spot

abbrev IsFoundAt : Option RowItem → List RowItem → Spot → Option RowItem → Type 0
IsFoundAt o items spot found = ((found ≡ o) × HasNone items spot) ⊎ ((d : RowItem) × (found ≡ Some d) × IsLastCover items spot d)

module _ (x : RowItem) (items : List RowItem) (spot : Spot) (order : AreItemsInOrder (x ∷ items)) where
  following_first : (d : RowItem) → Contains items d → StandsBefore (spot_of_item x) (spot_of_item d)
  following_first d c = each_holds (λ y. StandsBefore (spot_of_item x) (spot_of_item y)) items d order.0 c

  -- where the first item does not come before the spot, none does
  none_before : ¬ StandsBefore (spot_of_item x) spot → HasNone (x ∷ items) spot
  none_before not_first d c covers before = elim (first_or_later x items d c) [
    | inl same ↦ not_first (subst (λ y. StandsBefore (spot_of_item y) spot) (sym same) before)
    | inr following ↦ not_first (transitive (spot_of_item x) (spot_of_item d) spot (following_first d following) before)
  ]

  still_last : (d : RowItem) → IsLastCover items spot d → IsLastCover (x ∷ items) spot d
  still_last d l = record {
    present = later x items d l.present;
    covers = l.covers;
    before = l.before;
    last = λ e c covers before. elim (first_or_later x items e c) [
      | inl same ↦ subst (λ y. ¬ StandsBefore (spot_of_item d) (spot_of_item y)) same (asymmetric (spot_of_item x) (spot_of_item d) (following_first d l.present))
      | inr following ↦ l.last e following covers before
    ];
  }

  first_is_last : IsTrue x.covers → StandsBefore (spot_of_item x) spot → HasNone items spot → IsLastCover (x ∷ items) spot x
  first_is_last covers before none = record {
    present = at_first x items;
    covers = covers;
    before = before;
    last = λ e c e_covers e_before. elim (first_or_later x items e c) [
      | inl same ↦ subst (λ y. ¬ StandsBefore (spot_of_item x) (spot_of_item y)) same (irreflexive (spot_of_item x))
      | inr following ↦ absurd (none e following e_covers e_before)
    ];
  }

  none_with : x.covers ≡ false → HasNone items spot → HasNone (x ∷ items) spot
  none_with is none d c covers before = elim (first_or_later x items d c) [
    | inl same ↦ let d_is : d.covers ≡ false = ap (λ (y : RowItem). y.covers) (sym same) ∙ is in let d_covers : d.covers ≡ true = covers in absurd (cc)
    | inr following ↦ none d following covers before
  ]

  found_after : (o : Option RowItem) (t : Bool) → x.covers ≡ t → StandsBefore (spot_of_item x) spot → (found : Option RowItem) → IsFoundAt (cond t (Some x) o) items spot found → IsFoundAt o (x ∷ items) spot found
  found_after o true is before found (inl h) = inr (x, h.0, first_is_last is before h.1)
  found_after o false is before found (inl h) = inl (h.0, none_with is h.1)
  found_after o t is before found (inr h) = inr (h.0, h.1, still_last h.0 h.2)

  found_by : (o : Option RowItem) (b : Bool) → spot_before (spot_of_item x) spot ≡ b → (rest : Option RowItem) → IsFoundAt (next_cover o x) items spot rest → IsFoundAt o (x ∷ items) spot (cond b rest o)
  found_by o true is rest h = found_after o x.covers refl (comes_true (spot_of_item x) spot is) rest h
  found_by o false is rest h = inl (refl, none_before (comes_none (spot_of_item x) spot is))

found_at : (o : Option RowItem) (items : List RowItem) (spot : Spot) → AreItemsInOrder items → IsFoundAt o items spot (cover_at o items spot)
found_at o [] spot order = inl (refl, λ d c covers before. none_in d c)
found_at o (x ∷ items) spot order =
    found_by x items spot order o (spot_before (spot_of_item x) spot) refl (cover_at (next_cover o x) items spot) (found_at (next_cover o x) items spot order.1)

is_cover : (items : List RowItem) (spot : Spot) (found : Option RowItem) → IsFoundAt None items spot found → IsCoverAt items spot found
is_cover items spot found (inl h) = subst (IsCoverAt items spot) (sym h.0) h.1
is_cover items spot found (inr h) = subst (IsCoverAt items spot) (sym h.1) h.2

pub last_cover : (items : List RowItem) (spot : Spot) → AreItemsInOrder items → IsCoverAt items spot (cover_at None items spot)
last_cover items spot order = is_cover items spot (cover_at None items spot) (found_at None items spot order)

-- there is one last cover
one_last : (items : List RowItem) (spot : Spot) → AreItemsInOrder items → (a b : Option RowItem) → IsCoverAt items spot a → IsCoverAt items spot b → a ≡ b
one_last items spot order None None p q = refl
one_last items spot order None (Some b) p q = absurd (p b q.present q.covers q.before)
one_last items spot order (Some a) None p q = absurd (q a p.present p.covers p.before)
one_last items spot order (Some a) (Some b) p q = ap (λ (y : RowItem). Some y) (elim (trichotomy (spot_of_item a) (spot_of_item b)) [
  | inl same ↦ one_of_a_spot items a b order p.present q.present same
  | inr either ↦ elim either [
    | inl before ↦ absurd (p.last b q.present q.covers q.before before)
    | inr following ↦ absurd (q.last a p.present p.covers p.before following)
  ]
])

pub that_cover : (items : List RowItem) (spot : Spot) (c : Option RowItem) → AreItemsInOrder items → IsCoverAt items spot c → c ≡ cover_at None items spot
that_cover items spot c order is = one_last items spot order c (cover_at None items spot) is (last_cover items spot order)

-- the last cover before a read, as the recursion over the list finds it
abbrev pub own_cover : Option RowItem → List RowItem → RowItem → Option Cover
own_cover o items r = option_map cover_of (cover_at o items (spot_of_item r))

cover_next : (t : Bool) (o : Option RowItem) (x : RowItem) → option_map cover_of (cond t (Some x) o) ≡ cond t (Some (cover_of x)) (option_map cover_of o)
cover_next true o x = refl
cover_next false o x = refl

not_itself : (a : Spot) → spot_before a a ≡ false
not_itself a = by_test (spot_before a a) refl
  where
    by_test : (t : Bool) → spot_before a a ≡ t → t ≡ false
    by_test true h = absurd (irreflexive a (comes_true a a h))
    by_test false h = refl

comes : (a b : Spot) → StandsBefore a b → spot_before a b ≡ true
comes a b h = by_test (spot_before a b) refl
  where
    by_test : (t : Bool) → spot_before a b ≡ t → t ≡ true
    by_test true k = refl
    by_test false k = absurd (comes_none a b k h)

module _ (o : Option RowItem) (x : RowItem) (items : List RowItem) where
  own_first : own_cover o (x ∷ items) x ≡ option_map cover_of o
  own_first = ap (λ t. option_map cover_of (cond t (cover_at (next_cover o x) items (spot_of_item x)) o)) (not_itself (spot_of_item x))

  own_following : (r : RowItem) → StandsBefore (spot_of_item x) (spot_of_item r) → own_cover o (x ∷ items) r ≡ own_cover (next_cover o x) items r
  own_following r h = ap (λ t. option_map cover_of (cond t (cover_at (next_cover o x) items (spot_of_item r)) o)) (comes (spot_of_item x) (spot_of_item r) h)

either_false : (a b : Bool) → (a || b) ≡ false → (a ≡ false) × (b ≡ false)
either_false true b h = absurd (cc)
either_false false b h = (refl, h)

-- where no read is uncovered, each is covered by the last cover before it
right_at : (t : Bool) (c : Option Cover) (x : RowItem) (items : List RowItem) → cond t (is_some_uncovered (Some (cover_of x)) items) (is_uncovered c x || is_some_uncovered c items) ≡ false
    → is_some_uncovered (cond t (Some (cover_of x)) c) items ≡ false
right_at true c x items h = h
right_at false c x items h = (either_false (is_uncovered c x) (is_some_uncovered c items) h).1

first_right : (t : Bool) (c : Option Cover) (x : RowItem) (items : List RowItem) → t ≡ false → cond t (is_some_uncovered (Some (cover_of x)) items) (is_uncovered c x || is_some_uncovered c items) ≡ false
    → is_uncovered c x ≡ false
first_right true c x items is h = absurd (cc)
first_right false c x items is h = (either_false (is_uncovered c x) (is_some_uncovered c items) h).0

pub all_right : (o : Option RowItem) (items : List RowItem) (r : RowItem) → AreItemsInOrder items → is_some_uncovered (option_map cover_of o) items ≡ false → Contains items r → r.covers ≡ false
    → is_uncovered (own_cover o items r) r ≡ false
all_right o [] r order h c read = absurd (none_in r c)
all_right o (x ∷ items) r order h c read = elim (first_or_later x items r c) [
  | inl same ↦
      let first_read : x.covers ≡ false = ap (λ (y : RowItem). y.covers) same ∙ read in
      let right : is_uncovered (own_cover o (x ∷ items) x) x ≡ false = ap (λ d. is_uncovered d x) (own_first o x items) ∙ first_right x.covers (option_map cover_of o) x items first_read h in
      subst (λ y. is_uncovered (own_cover o (x ∷ items) y) y ≡ false) same right
  | inr following ↦
      let before = following_first x items (spot_of_item r) order r following in
      let rest : is_some_uncovered (option_map cover_of (next_cover o x)) items ≡ false = ap (λ d. is_some_uncovered d items) (cover_next x.covers o x) ∙ right_at x.covers (option_map cover_of o) x items h in
      ap (λ d. is_uncovered d r) (own_following o x items r before) ∙ all_right (next_cover o x) items r order.1 rest following read
]

-- a read of the list that the last cover before it does not cover
pub record IsFirst (o : Option RowItem) (items : List RowItem) (r : RowItem) : Type 0 where
  pub present : Contains items r
  pub read : r.covers ≡ false
  pub uncovered : is_uncovered (own_cover o items r) r ≡ true

-- none of the list's uncovered reads ended before that number
abbrev pub NoneBefore : Option RowItem → List RowItem → ℕ → Type 0
NoneBefore o items n = (r : RowItem) → Contains items r → r.covers ≡ false → is_uncovered (own_cover o items r) r ≡ true → n ≤ r.moment.0

abbrev pub IsFirstOf : Option RowItem → List RowItem → Option RowItem → Type 0
IsFirstOf o items None = (r : RowItem) → Contains items r → r.covers ≡ false → is_uncovered (own_cover o items r) r ≡ false
IsFirstOf o items (Some r) = IsFirst o items r × NoneBefore o items r.moment.0

module _ (o : Option RowItem) (x : RowItem) (items : List RowItem) (order : AreItemsInOrder (x ∷ items)) where
  first_short_or_not : (b : Bool) → is_uncovered (option_map cover_of o) x ≡ b → is_uncovered (own_cover o (x ∷ items) x) x ≡ b
  first_short_or_not b h = ap (λ d. is_uncovered d x) (own_first o x items) ∙ h

  after_short_or_not : (r : RowItem) → Contains items r → (b : Bool) → is_uncovered (own_cover (next_cover o x) items r) r ≡ b → is_uncovered (own_cover o (x ∷ items) r) r ≡ b
  after_short_or_not r c b h = ap (λ d. is_uncovered d r) (own_following o x items r (following_first x items (spot_of_item r) order r c)) ∙ h

  first_told : (b : Bool) → is_uncovered (own_cover o (x ∷ items) x) x ≡ b → is_uncovered (option_map cover_of o) x ≡ b
  first_told b h = sym (ap (λ d. is_uncovered d x) (own_first o x items)) ∙ h

  after_told : (r : RowItem) → Contains items r → (b : Bool) → is_uncovered (own_cover o (x ∷ items) r) r ≡ b → is_uncovered (own_cover (next_cover o x) items r) r ≡ b
  after_told r c b h = sym (ap (λ d. is_uncovered d r) (own_following o x items r (following_first x items (spot_of_item r) order r c))) ∙ h

  carry_none : (x.covers ≡ false → is_uncovered (option_map cover_of o) x ≡ false) → IsFirstOf (next_cover o x) items None → IsFirstOf o (x ∷ items) None
  carry_none first rest r c read = elim (first_or_later x items r c) [
    | inl same ↦ subst (λ y. is_uncovered (own_cover o (x ∷ items) y) y ≡ false) same (first_short_or_not false (first (ap (λ (y : RowItem). y.covers) same ∙ read)))
    | inr following ↦ after_short_or_not r following false (rest r following read)
  ]

  none_of : (n : ℕ) → (x.covers ≡ false → is_uncovered (option_map cover_of o) x ≡ true → n ≤ x.moment.0) → NoneBefore (next_cover o x) items n → NoneBefore o (x ∷ items) n
  none_of n first rest r c read uncovered = elim (first_or_later x items r c) [
    | inl same ↦
        let x_short : is_uncovered (own_cover o (x ∷ items) x) x ≡ true = subst (λ y. is_uncovered (own_cover o (x ∷ items) y) y ≡ true) (sym same) uncovered in
        subst (λ y. n ≤ y.moment.0) same (first (ap (λ (y : RowItem). y.covers) same ∙ read) (first_told true x_short))
    | inr following ↦ rest r following read (after_told r following true uncovered)
  ]

  carry_some : (r : RowItem) → (x.covers ≡ false → is_uncovered (option_map cover_of o) x ≡ true → r.moment.0 ≤ x.moment.0) → IsFirstOf (next_cover o x) items (Some r) → IsFirstOf o (x ∷ items) (Some r)
  carry_some r first rest = (
    record { present = later x items r rest.0.present; read = rest.0.read; uncovered = after_short_or_not r rest.0.present true rest.0.uncovered },
    none_of r.moment.0 first rest.1,
  )

  take_first : x.covers ≡ false → is_uncovered (option_map cover_of o) x ≡ true → NoneBefore (next_cover o x) items x.moment.0 → IsFirstOf o (x ∷ items) (Some x)
  take_first read uncovered rest = (
    record { present = at_first x items; read = read; uncovered = first_short_or_not true uncovered },
    none_of x.moment.0 (λ _ _. omega arith) rest,
  )

  at_cover : (g : Option RowItem) → x.covers ≡ true → IsFirstOf (next_cover o x) items g → IsFirstOf o (x ∷ items) g
  at_cover None is h = carry_none (λ read. absurd (cc)) h
  at_cover (Some r) is h = carry_some r (λ read uncovered. absurd (cc)) h

  by_time : (t : Bool) (y : RowItem) → nat_lt y.moment.0 x.moment.0 ≡ t → x.covers ≡ false → is_uncovered (option_map cover_of o) x ≡ true
      → IsFirstOf (next_cover o x) items (Some y) → IsFirstOf o (x ∷ items) (cond t (Some y) (Some x))
  by_time true y less read uncovered h = let before = ltb-true y.moment.0 x.moment.0 less in carry_some y (λ _ _. omega (arith, before)) h
  by_time false y less read uncovered h =
      let following = ltb-false y.moment.0 x.moment.0 less in
      take_first read uncovered (λ r c r_read r_short. let rest = h.1 r c r_read r_short in omega (arith, rest, following))

  at_read : (s : Bool) (g : Option RowItem) → is_uncovered (option_map cover_of o) x ≡ s → x.covers ≡ false → IsFirstOf (next_cover o x) items g → IsFirstOf o (x ∷ items) (earlier_read (cond s (Some x) None) g)
  at_read false None is read h = carry_none (λ _. is) h
  at_read false (Some r) is read h = carry_some r (λ _ uncovered. absurd (cc)) h
  at_read true None is read h = take_first read is (λ r c r_read r_short. let other = h r c r_read in absurd (cc))
  at_read true (Some y) is read h = by_time (nat_lt y.moment.0 x.moment.0) y refl read is h

  by_kind : (t : Bool) → x.covers ≡ t → IsFirstOf (next_cover o x) items (first_uncovered (cond t (Some (cover_of x)) (option_map cover_of o)) items)
      → IsFirstOf o (x ∷ items) (cond t (first_uncovered (Some (cover_of x)) items) (earlier_read (short_one (option_map cover_of o) x) (first_uncovered (option_map cover_of o) items)))
  by_kind true is h = at_cover (first_uncovered (Some (cover_of x)) items) is h
  by_kind false is h = at_read (is_uncovered (option_map cover_of o) x) (first_uncovered (option_map cover_of o) items) refl is h

pub first_of : (o : Option RowItem) (items : List RowItem) → AreItemsInOrder items → IsFirstOf o items (first_uncovered (option_map cover_of o) items)
first_of o [] order = λ r c read. absurd (none_in r c)
first_of o (x ∷ items) order =
    by_kind o x items order x.covers refl
    (subst (λ d. IsFirstOf (next_cover o x) items (first_uncovered d items)) (cover_next x.covers o x) (first_of (next_cover o x) items order.1))
