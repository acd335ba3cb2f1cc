-- The order of spots: the greatest value first, then the latest moment.
use Rattle.std.proofs.Common.{◌≡◌, ◌<◌, ◌≤◌, ◌⊎◌, inl, inr, ℕ, Bool, true, false, List, [], ◌∷◌, ◌++◌, Option, Some, None, refl, sym, ap, subst, ◌∙◌, arith}
use Rattle.std.proofs.lemmas.Bool.{cases_order}
use Rattle.std.proofs.lemmas.Bool.Decides.{nat_tests}
use Rattle.std.specs.Prelude.{MatchOption, IsSome, if◌then◌else◌}
use Rattle.std.specs.BTreeMap.{BTreeMap, get}
use Rattle.std.specs.BTreeMap.Range.{IsRangeOf}
use Rattle.std.specs.declared.ops.Bound.TheVariants.{Excluded, Included, Unbounded}
use Rattle.std.specs.Ordering.{is_gt, is_lt, nat_cmp, ordering_then, ordering_reverse}
use Rattle.std.specs.declared.cmp.Ordering.{Ordering}
use Rattle.std.specs.declared.cmp.Ordering.TheVariants.{Less, Equal, Greater}
use Rattle.std.proofs.lemmas.Map.Lookups.{exact_signed}
use Rattle.std.proofs.lemmas.Cmp.{int_cmp_total, tied_itself, ranked}
use Rattle.intervals.specs.declared.operation.OpId.{OpId}
use Rattle.intervals.specs.declared.operation.Moment.{Moment}
use Rattle.intervals.specs.declared.operation.Value.{Value}
use Rattle.intervals.specs.declared.operation.Value.TheVariants.{Nil, Int}
use Rattle.intervals.specs.contracts.operation.ValueOrd.TheImpl as value_ord
use Rattle.intervals.specs.declared.ordered_index.Spot.{Spot}
use Rattle.intervals.specs.Operation.{same_value}
use Rattle.intervals.specs.OrderedIndex.{spot_cmp, spot_of}
use Rattle.intervals.proofs.Agreement.{Decides-same_value}

abbrev value_cmp : Value → Value → Ordering
value_cmp = (value_ord.ghosts).cmp

value_itself : (v : Value) → value_cmp v v ≡ Equal
value_itself Nil = refl
value_itself (Int x) = tied_itself int_cmp_total x

value_exact : (u v : Value) → value_cmp u v ≡ Equal → u ≡ v
value_exact Nil Nil h = refl
value_exact Nil (Int y) h = absurd (cc)
value_exact (Int x) Nil h = absurd (cc)
value_exact (Int x) (Int y) h = ap Int (exact_signed x y h)

value_back : (u v : Value) → value_cmp u v ≡ ordering_reverse (value_cmp v u)
value_back Nil Nil = refl
value_back Nil (Int y) = refl
value_back (Int x) Nil = refl
value_back (Int x) (Int y) = int_cmp_total.antisymm x y

-- of one value, the moments decide
at_value : (v : Value) (a b : Moment) → spot_cmp (spot_of v a) (spot_of v b) ≡ nat_cmp b.0 a.0
at_value v a b = rw (value_itself v) refl

nat_itself : (a : ℕ) → nat_cmp a a ≡ Equal
nat_itself a = grind (arith, nat_tests)

pub nat_less : (a b : ℕ) → nat_cmp a b ≡ Less → a < b
nat_less a b h = ranked a b Less (sym h)

pub nat_before : (a b : ℕ) → a < b → nat_cmp a b ≡ Less
nat_before a b lt = grind (arith, nat_tests)

nat_after : (a b : ℕ) → b < a → nat_cmp a b ≡ Greater
nat_after a b lt = grind (arith, nat_tests)

later_is_less : (v : Value) (a b : Moment) → b.0 < a.0 → spot_cmp (spot_of v a) (spot_of v b) ≡ Less
later_is_less v a b lt = at_value v a b ∙ nat_before b.0 a.0 lt

earlier_is_greater : (v : Value) (a b : Moment) → a.0 < b.0 → spot_cmp (spot_of v a) (spot_of v b) ≡ Greater
earlier_is_greater v a b lt = at_value v a b ∙ nat_after b.0 a.0 lt

less_is_later : (v : Value) (a b : Moment) → spot_cmp (spot_of v a) (spot_of v b) ≡ Less → b.0 < a.0
less_is_later v a b h = nat_less b.0 a.0 (sym (at_value v a b) ∙ h)

tied_below : (o p q : Ordering) → ordering_then o p ≡ Less → is_lt (ordering_then o q) ≡ false → o ≡ Equal
tied_below Less p q h k = absurd (cc)
tied_below Equal p q h k = refl
tied_below Greater p q h k = absurd (cc)

tied_above : (o p q : Ordering) → ordering_then o p ≡ Less → is_gt (ordering_then (ordering_reverse o) q) ≡ false → o ≡ Equal
tied_above Less p q h k = absurd (cc)
tied_above Equal p q h k = refl
tied_above Greater p q h k = absurd (cc)

-- a spot that is between two spots of a value has that value
value_below : (v : Value) (m from : Moment) (key : Spot) → spot_cmp key (spot_of v from) ≡ Less → is_lt (spot_cmp key (spot_of v m)) ≡ false → key.value ≡ v
value_below v m from key h k =
    sym (value_exact v key.value (tied_below (value_cmp v key.value) (nat_cmp from.0 key.moment.0) (nat_cmp m.0 key.moment.0) h k))

value_above : (v : Value) (m limit : Moment) (key : Spot) → spot_cmp (spot_of v limit) key ≡ Less → is_gt (spot_cmp key (spot_of v m)) ≡ false → key.value ≡ v
value_above v m limit key h k =
    value_exact key.value v
    (tied_above (value_cmp key.value v) (nat_cmp key.moment.0 limit.0) (nat_cmp m.0 key.moment.0) h
    (rw (← value_back v key.value) k))

-- a spot between two spots of a value has that value, where the bound is in the range
tied_upto : (o p q : Ordering) → is_gt (ordering_then o p) ≡ false → is_lt (ordering_then o q) ≡ false → o ≡ Equal
tied_upto Less p q h k = absurd (cc)
tied_upto Equal p q h k = refl
tied_upto Greater p q h k = absurd (cc)

tied_from : (o p q : Ordering) → is_gt (ordering_then o p) ≡ false → is_gt (ordering_then (ordering_reverse o) q) ≡ false → o ≡ Equal
tied_from Less p q h k = absurd (cc)
tied_from Equal p q h k = refl
tied_from Greater p q h k = absurd (cc)

value_upto : (v : Value) (m from : Moment) (key : Spot) → is_gt (spot_cmp key (spot_of v from)) ≡ false → is_lt (spot_cmp key (spot_of v m)) ≡ false → key.value ≡ v
value_upto v m from key h k =
    sym (value_exact v key.value (tied_upto (value_cmp v key.value) (nat_cmp from.0 key.moment.0) (nat_cmp m.0 key.moment.0) h k))

value_from : (v : Value) (m limit : Moment) (key : Spot) → is_gt (spot_cmp (spot_of v limit) key) ≡ false → is_gt (spot_cmp key (spot_of v m)) ≡ false → key.value ≡ v
value_from v m limit key h k =
    value_exact key.value v
    (tied_from (value_cmp key.value v) (nat_cmp key.moment.0 limit.0) (nat_cmp m.0 key.moment.0) h
    (rw (← value_back v key.value) k))

not_earlier : (v : Value) (a b : Moment) → is_gt (spot_cmp (spot_of v a) (spot_of v b)) ≡ false → b.0 ≤ a.0
not_earlier v a b h = by_cases (cases_order b.0 a.0)
  where
    by_cases : (b.0 ≡ a.0) ⊎ ((b.0 < a.0) ⊎ (a.0 < b.0)) → b.0 ≤ a.0
    by_cases (inl e) = omega arith
    by_cases (inr (inl lt)) = omega arith
    by_cases (inr (inr gt)) = absurd (let e = earlier_is_greater v a b gt in cc)

later_or_same : (v : Value) (a b : Moment) → b.0 ≤ a.0 → is_gt (spot_cmp (spot_of v a) (spot_of v b)) ≡ false
later_or_same v a b le = by_cases (cases_order b.0 a.0)
  where
    by_cases : (b.0 ≡ a.0) ⊎ ((b.0 < a.0) ⊎ (a.0 < b.0)) → is_gt (spot_cmp (spot_of v a) (spot_of v b)) ≡ false
    by_cases (inl e) = ap is_gt (at_value v a b ∙ subst (λ (n : ℕ). nat_cmp n a.0 ≡ Equal) (sym e) (nat_itself a.0))
    by_cases (inr (inl lt)) = ap is_gt (later_is_less v a b lt)
    by_cases (inr (inr gt)) = absurd (omega arith)

pub none_unless : {X : Type 0} (o : Option X) → ¬ IsSome o → o ≡ None
none_unless None f = refl
none_unless (Some x) f = absurd (f refl)

module _ (map : BTreeMap Spot (Option OpId)) (v : Value) where
  abbrev at : Moment → Option (Option OpId)
  at m = get spot_cmp map (spot_of v m)

  abbrev chosen : Spot → Option OpId → Bool → Option (Moment × Option OpId)
  chosen key id t = if t then Some (key.moment, id) else None

  -- the last place before a spot of the value, in the order of spots, is that of the next moment, or there is none
  pub first_place : (from : Moment) (key : Spot) (id : Option OpId) (front : List (Spot × Option OpId)) → IsRangeOf spot_cmp Unbounded (Excluded (spot_of v from)) map (front ++ (key, id) ∷ [])
      → MatchOption (chosen key id (same_value key.value v))
      ((m : Moment) → from.0 < m.0 → at m ≡ None)
      (λ found. (from.0 < found.0.0) × (at found.0 ≡ Some found.1) × ((m : Moment) → from.0 < m.0 → m.0 < found.0.0 → at m ≡ None))
  first_place from key id front range = by_cases (same_value key.value v) refl
    where
      entry : (spot_cmp key (spot_of v from) ≡ Less) × (get spot_cmp map key ≡ Some id)
      entry = let e = range.3 (key, id) front refl in (e.0.1, e.1)

      least : (m : Moment) → from.0 < m.0 → IsSome (at m) → is_lt (spot_cmp key (spot_of v m)) ≡ false
      least m lt is = range.4 (key, id) front refl (spot_of v m) (tt, later_is_less v m from lt) is

      by_cases : (t : Bool) → same_value key.value v ≡ t → MatchOption (chosen key id t)
          ((m : Moment) → from.0 < m.0 → at m ≡ None)
          (λ found. (from.0 < found.0.0) × (at found.0 ≡ Some found.1) × ((m : Moment) → from.0 < m.0 → m.0 < found.0.0 → at m ≡ None))
      by_cases true t =
          let same : key ≡ spot_of v key.moment = ap {B = Spot} (λ u. spot_of u key.moment) ((Decides-same_value key.value v).0 t) in (
            less_is_later v key.moment from (rw same at entry.0),
            rw same at entry.1,
            λ m gt lt. none_unless (at m) (λ is. let e = later_is_less v key.moment m lt in let f = rw same at (least m gt is) in cc),
          )
      by_cases false t =
          λ m gt. none_unless (at m) (λ is. let e = (Decides-same_value key.value v).1 (value_below v m from key entry.0 (least m gt is)) in cc)

  -- the first place after a spot of the value, in the order of spots, is that of the moment before, or there is none
  pub last_place : (limit : Moment) (key : Spot) (id : Option OpId) (rest : List (Spot × Option OpId)) → IsRangeOf spot_cmp (Excluded (spot_of v limit)) Unbounded map ((key, id) ∷ rest)
      → MatchOption (chosen key id (same_value key.value v))
      ((m : Moment) → m.0 < limit.0 → at m ≡ None)
      (λ found. (found.0.0 < limit.0) × (at found.0 ≡ Some found.1) × ((m : Moment) → found.0.0 < m.0 → m.0 < limit.0 → at m ≡ None))
  last_place limit key id rest range = by_cases (same_value key.value v) refl
    where
      entry : (spot_cmp (spot_of v limit) key ≡ Less) × (get spot_cmp map key ≡ Some id)
      entry = let e = range.1 in (e.0.0, e.1)

      greatest : (m : Moment) → m.0 < limit.0 → IsSome (at m) → is_gt (spot_cmp key (spot_of v m)) ≡ false
      greatest m lt is = range.2 (spot_of v m) (later_is_less v limit m lt, tt) is

      by_cases : (t : Bool) → same_value key.value v ≡ t → MatchOption (chosen key id t)
          ((m : Moment) → m.0 < limit.0 → at m ≡ None)
          (λ found. (found.0.0 < limit.0) × (at found.0 ≡ Some found.1) × ((m : Moment) → found.0.0 < m.0 → m.0 < limit.0 → at m ≡ None))
      by_cases true t =
          let same : key ≡ spot_of v key.moment = ap {B = Spot} (λ u. spot_of u key.moment) ((Decides-same_value key.value v).0 t) in (
            less_is_later v limit key.moment (rw same at entry.0),
            rw same at entry.1,
            λ m gt lt. none_unless (at m) (λ is. let e = earlier_is_greater v key.moment m gt in let f = rw same at (greatest m lt is) in cc),
          )
      by_cases false t =
          λ m lt. none_unless (at m) (λ is. let e = (Decides-same_value key.value v).1 (value_above v m limit key entry.0 (greatest m lt is)) in cc)

  -- the last place up to a spot of the value is that of the first moment from there on, or there is none
  pub first_place_from : (from : Moment) (key : Spot) (id : Option OpId) (front : List (Spot × Option OpId)) → IsRangeOf spot_cmp Unbounded (Included (spot_of v from)) map (front ++ (key, id) ∷ [])
      → MatchOption (chosen key id (same_value key.value v))
      ((m : Moment) → from.0 ≤ m.0 → at m ≡ None)
      (λ found. (from.0 ≤ found.0.0) × (at found.0 ≡ Some found.1) × ((m : Moment) → from.0 ≤ m.0 → m.0 < found.0.0 → at m ≡ None))
  first_place_from from key id front range = by_cases (same_value key.value v) refl
    where
      entry : (is_gt (spot_cmp key (spot_of v from)) ≡ false) × (get spot_cmp map key ≡ Some id)
      entry = let e = range.3 (key, id) front refl in (e.0.1, e.1)

      least : (m : Moment) → from.0 ≤ m.0 → IsSome (at m) → is_lt (spot_cmp key (spot_of v m)) ≡ false
      least m le is = range.4 (key, id) front refl (spot_of v m) (tt, later_or_same v m from le) is

      by_cases : (t : Bool) → same_value key.value v ≡ t → MatchOption (chosen key id t)
          ((m : Moment) → from.0 ≤ m.0 → at m ≡ None)
          (λ found. (from.0 ≤ found.0.0) × (at found.0 ≡ Some found.1) × ((m : Moment) → from.0 ≤ m.0 → m.0 < found.0.0 → at m ≡ None))
      by_cases true t =
          let same : key ≡ spot_of v key.moment = ap {B = Spot} (λ u. spot_of u key.moment) ((Decides-same_value key.value v).0 t) in (
            not_earlier v key.moment from (rw same at entry.0),
            rw same at entry.1,
            λ m ge lt. none_unless (at m) (λ is. let e = later_is_less v key.moment m lt in let f = rw same at (least m ge is) in cc),
          )
      by_cases false t =
          λ m ge. none_unless (at m) (λ is. let e = (Decides-same_value key.value v).1 (value_upto v m from key entry.0 (least m ge is)) in cc)

  -- the first place from a spot of the value on is that of the last moment up to there, or there is none
  pub last_place_upto : (limit : Moment) (key : Spot) (id : Option OpId) (rest : List (Spot × Option OpId)) → IsRangeOf spot_cmp (Included (spot_of v limit)) Unbounded map ((key, id) ∷ rest)
      → MatchOption (chosen key id (same_value key.value v))
      ((m : Moment) → m.0 ≤ limit.0 → at m ≡ None)
      (λ found. (found.0.0 ≤ limit.0) × (at found.0 ≡ Some found.1) × ((m : Moment) → found.0.0 < m.0 → m.0 ≤ limit.0 → at m ≡ None))
  last_place_upto limit key id rest range = by_cases (same_value key.value v) refl
    where
      entry : (is_gt (spot_cmp (spot_of v limit) key) ≡ false) × (get spot_cmp map key ≡ Some id)
      entry = let e = range.1 in (e.0.0, e.1)

      greatest : (m : Moment) → m.0 ≤ limit.0 → IsSome (at m) → is_gt (spot_cmp key (spot_of v m)) ≡ false
      greatest m le is = range.2 (spot_of v m) (later_or_same v limit m le, tt) is

      by_cases : (t : Bool) → same_value key.value v ≡ t → MatchOption (chosen key id t)
          ((m : Moment) → m.0 ≤ limit.0 → at m ≡ None)
          (λ found. (found.0.0 ≤ limit.0) × (at found.0 ≡ Some found.1) × ((m : Moment) → found.0.0 < m.0 → m.0 ≤ limit.0 → at m ≡ None))
      by_cases true t =
          let same : key ≡ spot_of v key.moment = ap {B = Spot} (λ u. spot_of u key.moment) ((Decides-same_value key.value v).0 t) in (
            not_earlier v limit key.moment (rw same at entry.0),
            rw same at entry.1,
            λ m gt le. none_unless (at m) (λ is. let e = earlier_is_greater v key.moment m gt in let f = rw same at (greatest m le is) in cc),
          )
      by_cases false t =
          λ m le. none_unless (at m) (λ is. let e = (Decides-same_value key.value v).1 (value_from v m limit key entry.0 (greatest m le is)) in cc)

-- a range before a spot, or after it, is one of an equal spot and list
pub range_before : (map : BTreeMap Spot (Option OpId)) (a b : Spot) (found list : List (Spot × Option OpId)) → a ≡ b → found ≡ list → IsRangeOf spot_cmp Unbounded (Excluded a) map found → IsRangeOf spot_cmp Unbounded (Excluded b) map list
range_before map a b found list e f range = subst (IsRangeOf spot_cmp Unbounded (Excluded b) map) f (subst (λ (s : Spot). IsRangeOf spot_cmp Unbounded (Excluded s) map found) e range)

pub range_after : (map : BTreeMap Spot (Option OpId)) (a b : Spot) (found list : List (Spot × Option OpId)) → a ≡ b → found ≡ list → IsRangeOf spot_cmp (Excluded a) Unbounded map found → IsRangeOf spot_cmp (Excluded b) Unbounded map list
range_after map a b found list e f range = subst (IsRangeOf spot_cmp (Excluded b) Unbounded map) f (subst (λ (s : Spot). IsRangeOf spot_cmp (Excluded s) Unbounded map found) e range)

pub range_upto : (map : BTreeMap Spot (Option OpId)) (a b : Spot) (found list : List (Spot × Option OpId)) → a ≡ b → found ≡ list → IsRangeOf spot_cmp Unbounded (Included a) map found → IsRangeOf spot_cmp Unbounded (Included b) map list
range_upto map a b found list e f range = subst (IsRangeOf spot_cmp Unbounded (Included b) map) f (subst (λ (s : Spot). IsRangeOf spot_cmp Unbounded (Included s) map found) e range)

pub range_from : (map : BTreeMap Spot (Option OpId)) (a b : Spot) (found list : List (Spot × Option OpId)) → a ≡ b → found ≡ list → IsRangeOf spot_cmp (Included a) Unbounded map found → IsRangeOf spot_cmp (Included b) Unbounded map list
range_from map a b found list e f range = subst (IsRangeOf spot_cmp (Included b) Unbounded map) f (subst (λ (s : Spot). IsRangeOf spot_cmp (Included s) Unbounded map found) e range)
