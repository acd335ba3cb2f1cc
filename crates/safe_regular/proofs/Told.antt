-- The items of different operations are at different spots: the spot says of which operation an item is.
use Rattle.std.proofs.Common.{◌≡◌, ◌≢◌, ℕ, suc, ◌≤◌, ◌⊎◌, inl, inr, true, false, not, ◌==◌, List, Option, Some, None, refl, sym, ap, ◌∙◌, cond, subst, arith}
use Rattle.std.specs.Prelude.{Contains, is_some}
use Rattle.std.proofs.lemmas.Bool.{and_parts, both_ways, not-true, eqb-true, eq-eqb, ne_eqb, and_right}
use Rattle.std.proofs.lemmas.List.Elements.{All-contains}
use Rattle.intervals.specs.declared.operation.Op.{Op}
use Rattle.intervals.specs.declared.ordered_index.Spot.{Spot}
use Rattle.intervals.specs.Judging.{end_number}
use Rattle.intervals.specs.Operation.{IsWrite, IsJudgedRead, is_write, same_value}
use Rattle.intervals.specs.OrderedIndex.{same_spot, spot_of}
use Rattle.intervals.specs.Standing.{ShareNoMoment}
use Rattle.intervals.specs.Terms.{ClaimModel}
use Rattle.intervals.proofs.Agreement.{Decides-same_value}
use Rattle.read_tree.specs.declared.item.RowItem.{RowItem}
use Rattle.read_tree.specs.Items.{spot_of_item}
use Rattle.safe_regular.specs.Apart.{AreSequential}
use Rattle.safe_regular.specs.Held.{IsWithinMoments, AreOneWriters}
use Rattle.safe_regular.specs.LookUp.{BeginsFrom, IsFirstWriteOf}
use Rattle.safe_regular.specs.RowItems.{IsOperationItem, IsLaid, counted_from_1, numbered_moment, cover_item, initial_item, initial_place, item_number, place_in, read_item}
use Rattle.safe_regular.proofs.Members.{are_apart, distinct_ends, end_is}
use Rattle.intervals.proofs.Members.{begin_apart, one_or_so, same_moment}
use Rattle.safe_regular.proofs.Edited.{all_low}

-- the test for equal spots holds of equal ones alone
pub same_is : (a b : Spot) → same_spot a b ≡ true → a ≡ b
same_is a b t =
    let parts = and_parts (same_value a.value b.value) (a.moment.0 == b.moment.0) t in
    let value : a.value ≡ b.value = (Decides-same_value a.value b.value).0 parts.0 in
    let moment : a.moment ≡ b.moment = same_moment a.moment b.moment (eqb-true a.moment.0 b.moment.0 parts.1) in
    ap {B = Spot} (λ v. spot_of v a.moment) value ∙ ap {B = Spot} (λ m. spot_of b.value m) moment

pub same_itself : (a : Spot) → same_spot a a ≡ true
same_itself a = rw ((Decides-same_value a.value a.value).1 refl, eq-eqb a.moment.0 a.moment.0 refl) refl

-- spots of different moments differ
pub other_moment : (a b : Spot) → a.moment.0 ≢ b.moment.0 → same_spot a b ≡ false
other_moment a b ne = and_right (same_value a.value b.value) (a.moment.0 == b.moment.0) (ne_eqb a.moment.0 b.moment.0 ne)

read_is_no_write : (op : Op) → IsWrite op → ¬ IsJudgedRead op
read_is_no_write op write judged = both_ways (is_write op) (not-true (is_write op) (and_parts (not (is_write op)) (is_some op.end) judged).0) write

pub number_of_write : (op : Op) → IsWrite op → item_number op ≡ op.begin.0
number_of_write op write = rw write refl

pub number_of_read : (op : Op) → IsJudgedRead op → item_number op ≡ end_number op
number_of_read op judged = rw (not-true (is_write op) (and_parts (not (is_write op)) (is_some op.end) judged).0) refl

module _ (claim : ClaimModel) (ops : List Op) (apart : AreOneWriters claim ops) where
  number_low : (op : Op) → Contains ops op → item_number op ≤ 4611686018427387903
  number_low op present =
      let low : IsWithinMoments op = All-contains IsWithinMoments ops op (all_low claim ops apart) present in
      elim (is_write op) as (λ b. cond b op.begin.0 (end_number op) ≤ 4611686018427387903) [ true ↦ low.begin | false ↦ low.end ]

  -- a judged read does not end where another operation begins
  end_not_begin : (r w : Op) → Contains ops r → Contains ops w → IsJudgedRead r → IsWrite w → end_number r ≢ w.begin.0
  end_not_begin r w sr sw judged write e = elim (one_or_so ShareNoMoment (λ a b none moment of_b of_a. none moment of_a of_b) ops apart.kept.moments r w sr sw) [
    | inl same ↦ read_is_no_write r (subst IsWrite (sym same) write) judged
    | inr none ↦ none (numbered_moment (end_number r)) (inr (end_is r.end (and_parts (not (is_write r)) (is_some r.end) judged).1)) (inl (same_moment w.begin (numbered_moment (end_number r)) (sym e)))
  ]

  -- operations whose items have one number are the same
  pub told : (a b : Op) → Contains ops a → Contains ops b → IsLaid a → IsLaid b → item_number a ≡ item_number b → a ≡ b
  told a b sa sb (inl wa) (inl wb) e = begin_apart ops apart.kept.moments a b sa sb (sym (number_of_write a wa) ∙ e ∙ number_of_write b wb)
  told a b sa sb (inl wa) (inr jb) e = absurd (end_not_begin b a sb sa jb wa (sym (sym (number_of_write a wa) ∙ e ∙ number_of_read b jb)))
  told a b sa sb (inr ja) (inl wb) e = absurd (end_not_begin a b sa sb ja wb (sym (number_of_read a ja) ∙ e ∙ number_of_write b wb))
  told a b sa sb (inr ja) (inr jb) e = distinct_ends ops apart.kept.moments a b sa sb ja jb (sym (number_of_read a ja) ∙ e ∙ number_of_read b jb)

  pub told_by_count : (a b : Op) → Contains ops a → Contains ops b → IsLaid a → IsLaid b → counted_from_1 (item_number a) ≡ counted_from_1 (item_number b) → a ≡ b
  told_by_count a b sa sb la lb e =
      let low_a = number_low a sa in
      let low_b = number_low b sb in
      told a b sa sb la lb (omega (arith, e, low_a, low_b))

  -- different operations have their items at different spots
  pub op_away : (a b : Op) → Contains ops a → Contains ops b → IsLaid a → IsLaid b → ¬ (a ≡ b) → same_spot (place_in claim a) (place_in claim b) ≡ false
  op_away a b sa sb la lb other = other_moment (place_in claim a) (place_in claim b) (λ e. other (told_by_count a b sa sb la lb e))

  pub initial_away : (a : Op) → Contains ops a → same_spot (initial_place claim) (place_in claim a) ≡ false
  initial_away a sa = other_moment (initial_place claim) (place_in claim a) (λ e. let low = number_low a sa in omega (arith, e, low))

  pub writes_apart : AreSequential ops
  writes_apart = are_apart ops apart.kept.moments apart.kept.ends (apart.kept.writes apart.one_writer)

  -- there is at most one first write from a moment on
  pub next_told : (n : ℕ) (p q : Option Op) → IsFirstWriteOf (BeginsFrom n) ops p → IsFirstWriteOf (BeginsFrom n) ops q → p ≡ q
  next_told n None None p_is q_is = refl
  next_told n None (Some q) p_is q_is = absurd (p_is q q_is.present q_is.write q_is.fits)
  next_told n (Some p) None p_is q_is = absurd (q_is p p_is.present p_is.write p_is.fits)
  next_told n (Some p) (Some q) p_is q_is =
      let le : p.begin.0 ≤ q.begin.0 = p_is.first q q_is.present q_is.write q_is.fits in
      let ge : q.begin.0 ≤ p.begin.0 = q_is.first p p_is.present p_is.write p_is.fits in
      ap Some (writes_apart.one p q p_is.present q_is.present p_is.write q_is.write (omega (arith, le, ge)))

  -- the spot of the item of an operation or of the initial value
  pub place_of_read : (r : Op) → IsJudgedRead r → spot_of_item (read_item claim r) ≡ place_in claim r
  place_of_read r judged = rw (number_of_read r judged) refl

  pub place_of_cover : (w : Op) (next : Option Op) → IsWrite w → spot_of_item (cover_item claim w next) ≡ place_in claim w
  place_of_cover w next write = rw (number_of_write w write) refl

  -- an item is at the spot of the initial value or of an operation that has an item
  pub of_which : (x : RowItem) → IsOperationItem claim ops x → (spot_of_item x ≡ initial_place claim) ⊎ ((o : Op) × Contains ops o × IsLaid o × (spot_of_item x ≡ place_in claim o))
  of_which x (inl is) = inr (is.read, is.present, inr is.judged, ap spot_of_item is.is ∙ place_of_read is.read is.judged)
  of_which x (inr (inl is)) = inr (is.write, is.present, inl is.writes, ap spot_of_item is.is ∙ place_of_cover is.write is.next is.writes)
  of_which x (inr (inr is)) = inl (ap spot_of_item is.is)

  -- an operation has only one item
  of_read : (x : RowItem) (o : Op) → IsOperationItem claim ops x → Contains ops o → IsJudgedRead o → spot_of_item x ≡ place_in claim o → x ≡ read_item claim o
  of_read x o (inl is) present judged e =
      let number = ap (λ (s : Spot). s.moment.0) (sym (ap spot_of_item is.is ∙ place_of_read is.read is.judged) ∙ e) in
      let same : is.read ≡ o = told_by_count is.read o is.present present (inr is.judged) (inr judged) number in
      is.is ∙ ap (read_item claim) same
  of_read x o (inr (inl is)) present judged e =
      let number = ap (λ (s : Spot). s.moment.0) (sym (ap spot_of_item is.is ∙ place_of_cover is.write is.next is.writes) ∙ e) in
      let same : is.write ≡ o = told_by_count is.write o is.present present (inl is.writes) (inr judged) number in
      absurd (read_is_no_write o (subst IsWrite same is.writes) judged)
  of_read x o (inr (inr is)) present judged e =
      let number = ap (λ (s : Spot). s.moment.0) (sym (ap spot_of_item is.is) ∙ e) in
      let low = number_low o present in
      absurd (omega (arith, number, low))

  of_write : (x : RowItem) (o : Op) (next : Option Op) → IsOperationItem claim ops x → Contains ops o → IsWrite o → IsFirstWriteOf (BeginsFrom (suc o.begin.0)) ops next → spot_of_item x ≡ place_in claim o → x ≡ cover_item claim o next
  of_write x o next (inl is) present write next_is e =
      let number = ap (λ (s : Spot). s.moment.0) (sym (ap spot_of_item is.is ∙ place_of_read is.read is.judged) ∙ e) in
      let same : is.read ≡ o = told_by_count is.read o is.present present (inr is.judged) (inl write) number in
      absurd (read_is_no_write o write (subst IsJudgedRead same is.judged))
  of_write x o next (inr (inl is)) present write next_is e =
      let number = ap (λ (s : Spot). s.moment.0) (sym (ap spot_of_item is.is ∙ place_of_cover is.write is.next is.writes) ∙ e) in
      let same : is.write ≡ o = told_by_count is.write o is.present present (inl is.writes) (inl write) number in
      let nexts : is.next ≡ next = next_told (suc o.begin.0) is.next next (subst (λ (w : Op). IsFirstWriteOf (BeginsFrom (suc w.begin.0)) ops is.next) same is.next_is) next_is in
      is.is ∙ ap (λ (w : Op). cover_item claim w is.next) same ∙ ap (cover_item claim o) nexts
  of_write x o next (inr (inr is)) present write next_is e =
      let number = ap (λ (s : Spot). s.moment.0) (sym (ap spot_of_item is.is) ∙ e) in
      let low = number_low o present in
      absurd (omega (arith, number, low))

  of_initial : (x : RowItem) (next : Option Op) → IsOperationItem claim ops x → IsFirstWriteOf (BeginsFrom 0) ops next → spot_of_item x ≡ initial_place claim → x ≡ initial_item claim next
  of_initial x next (inl is) next_is e =
      let number = ap (λ (s : Spot). s.moment.0) (sym (ap spot_of_item is.is ∙ place_of_read is.read is.judged) ∙ e) in
      let low = number_low is.read is.present in
      absurd (omega (arith, number, low))
  of_initial x next (inr (inl is)) next_is e =
      let number = ap (λ (s : Spot). s.moment.0) (sym (ap spot_of_item is.is ∙ place_of_cover is.write is.next is.writes) ∙ e) in
      let low = number_low is.write is.present in
      absurd (omega (arith, number, low))
  of_initial x next (inr (inr is)) next_is e = is.is ∙ ap (initial_item claim) (next_told 0 is.next next is.next_is next_is)

  -- items at one spot are the same
  pub items_told : (x y : RowItem) → IsOperationItem claim ops x → IsOperationItem claim ops y → spot_of_item x ≡ spot_of_item y → x ≡ y
  items_told x y x_is (inl is) e = of_read x is.read x_is is.present is.judged (e ∙ ap spot_of_item is.is ∙ place_of_read is.read is.judged) ∙ sym is.is
  items_told x y x_is (inr (inl is)) e = of_write x is.write is.next x_is is.present is.writes is.next_is (e ∙ ap spot_of_item is.is ∙ place_of_cover is.write is.next is.writes) ∙ sym is.is
  items_told x y x_is (inr (inr is)) e = of_initial x is.next x_is is.next_is (e ∙ ap spot_of_item is.is) ∙ sym is.is
