-- The places that are reserved for an operation that is to come.
use Rattle.std.proofs.Common.{◌≡◌, Bool, true, false, ◌||◌, Option, Some, None, refl, sym, ap, subst, ◌∙◌, cond}
use Rattle.std.specs.Prelude.{IfSome, is_some}
use Rattle.intervals.specs.declared.operation.Op.{Op}
use Rattle.intervals.specs.declared.operation.OpId.{OpId}
use Rattle.intervals.specs.declared.operation.Moment.{Moment}
use Rattle.intervals.specs.declared.ordered_index.Spot.{Spot}
use Rattle.intervals.specs.declared.ordered_index.OrderedIndex.{OrderedIndex}
use Rattle.intervals.specs.Operation.{is_write}
use Rattle.intervals.specs.OrderedIndex.{id_at, is_spot, id_if_there, place_at}
use Rattle.intervals.specs.Table.{prepared_after}
use Rattle.intervals.proofs.SameSpot.{is_spot_one}
use Rattle.zones.specs.declared.index.IndexKind.{IndexKind}
use Rattle.zones.specs.declared.index.IndexKind.TheVariants.{Ends, Begins}
use Rattle.zones.specs.declared.index.Members.{Members}
use Rattle.zones.specs.Index.{ReservesOnlyForMember, IsMade, shelf_of, spot_in, spot_on, taken_at}
use Rattle.zones.specs.Zoned.{judged_part}
use Rattle.zones.proofs.Rows.{IsChanged, of_rows}

-- each place of the index that has no id is reserved for the operation
abbrev pub IsOnlyFor : IndexKind → Option Op → OrderedIndex → Type 0
IsOnlyFor row op shelf = (spot : Spot) → place_at shelf spot ≡ Some None → is_spot (spot_in row op) spot ≡ true

-- where the id at one spot is taken out, only the awaited place is reserved
taken : (gone awaited : Option Spot) (spot : Spot) (found : Option (Option OpId)) → (found ≡ Some None → is_spot awaited spot ≡ true) → taken_at gone awaited spot found ≡ Some None → is_spot awaited spot ≡ true
taken gone awaited spot found only = by_tests (is_spot gone spot) (is_spot awaited spot) refl
  where
    by_tests : (t s : Bool) → is_spot awaited spot ≡ s → cond t (cond s (Some None) None) found ≡ Some None → is_spot awaited spot ≡ true
    by_tests true true e h = e
    by_tests true false e h = absurd (cc)
    by_tests false s e h = only h

changed_row : (row : IndexKind) (old new prepared : Option Op) (from to : OrderedIndex) → IfSome new (λ op. prepared ≡ Some op) → IsChanged row old new prepared from to → IsOnlyFor row prepared from → IsOnlyFor row (prepared_after new prepared) to
changed_row row old None prepared from to is changed only spot held =
    taken (spot_in row old) (spot_in row prepared) spot (place_at from spot) (only spot) (sym (changed spot) ∙ held)
changed_row row old (Some op) prepared from to is changed only spot held = absurd (by_test (is_spot (spot_on row op) spot) refl (sym (changed spot) ∙ held))
  where
    by_test : (t : Bool) → is_spot (spot_on row op) spot ≡ t → cond t (Some (Some op.id)) (taken_at (spot_in row old) (spot_in row prepared) spot (place_at from spot)) ≡ Some None → ⊥
    by_test true e h = cc
    by_test false e h =
        let awaited = taken (spot_in row old) (spot_in row prepared) spot (place_at from spot) (only spot) h in
        let same = ap (λ (o : Option Op). is_spot (spot_in row o) spot) is in
        cc

-- the place of one operation is reserved, where none was
pub held_row : (row : IndexKind) (op : Op) (from to : OrderedIndex) (spot : Option Spot) → spot ≡ spot_on row op
    → ((other : Spot) → is_spot spot other ≡ false → place_at to other ≡ place_at from other) → IsOnlyFor row None from → IsOnlyFor row (Some op) to
held_row row op from to spot spot_is others only other held = by_cases (is_spot spot other) refl
  where
    by_cases : (t : Bool) → is_spot spot other ≡ t → is_spot (spot_on row op) other ≡ true
    by_cases true t = ap (λ s. is_spot s other) (sym spot_is) ∙ t
    by_cases false f = absurd (let t = only other (sym (others other f) ∙ held) in cc)

-- the place that was reserved for one operation is dropped, where it has no id
pub released_row : (row : IndexKind) (op : Op) (from to : OrderedIndex) (spot : Option Spot) → spot ≡ spot_on row op
    → IfSome spot (λ s. id_at from s ≡ None → place_at to s ≡ None) → ((other : Spot) → id_at to other ≡ id_at from other)
    → ((other : Spot) → is_spot spot other ≡ false → place_at to other ≡ place_at from other) → IsOnlyFor row (Some op) from → IsOnlyFor row None to
released_row row op from to spot spot_is gone ids others only other held = absurd (by_cases (is_spot spot other) refl)
  where
    none : id_at from other ≡ None
    none = sym (ids other) ∙ ap id_if_there held

    by_cases : (t : Bool) → is_spot spot other ≡ t → ⊥
    by_cases true t =
        let one : spot ≡ Some other = is_spot_one spot other t in
        let went = subst (λ (x : Option Spot). IfSome x (λ s. id_at from s ≡ None → place_at to s ≡ None)) one gone in
        let left : place_at to other ≡ None = went none in
        cc
    by_cases false f =
        let t = only other (sym (others other f) ∙ held) in
        let e = ap (λ s. is_spot s other) spot_is in
        cc

-- a place that was made and dropped again leaves what was there
pub made_and_gone : (from between to : OrderedIndex) (made : Option Spot) → IsMade from between made → ((other : Spot) → id_at between other ≡ id_at from other)
    → IfSome made (λ s. id_at between s ≡ None → place_at to s ≡ None) → ((other : Spot) → is_spot made other ≡ false → place_at to other ≡ place_at between other) → (spot : Spot) → place_at to spot ≡ place_at from spot
made_and_gone from between to made is ids gone others spot = by_cases (is_spot made spot) refl
  where
    by_cases : (t : Bool) → is_spot made spot ≡ t → place_at to spot ≡ place_at from spot
    by_cases true t =
        let one : made ≡ Some spot = is_spot_one made spot t in
        let new : place_at from spot ≡ None = subst (λ (x : Option Spot). IfSome x (λ s. place_at from s ≡ None)) one is.new in
        let went = subst (λ (x : Option Spot). IfSome x (λ s. id_at between s ≡ None → place_at to s ≡ None)) one gone in
        let left : place_at to spot ≡ None = went (ids spot ∙ ap id_if_there new) in
        left ∙ sym new
    by_cases false f = others spot f ∙ is.others spot f

-- from each of the two indexes to both
abbrev pub by_rows : (op : Option Op) (ends begins : OrderedIndex) → IsOnlyFor Ends op ends → IsOnlyFor Begins op begins → ReservesOnlyForMember op (record { ends = ends; begins = begins })
by_rows op ends begins e b = of_rows (λ row. IsOnlyFor row op (shelf_of (record { ends = ends; begins = begins }) row)) e b

module _ (members : Members) (ends begins : OrderedIndex) where
  pub changed_only : (old new prepared : Option Op) → IfSome new (λ op. prepared ≡ Some op)
      → IsChanged Ends old new prepared members.ends ends → IsChanged Begins old new prepared members.begins begins
      → ReservesOnlyForMember prepared members → ReservesOnlyForMember (prepared_after new prepared) (record { ends = ends; begins = begins })
  changed_only old new prepared is e b only =
      by_rows (prepared_after new prepared) ends begins
      (changed_row Ends old new prepared members.ends ends is e (only Ends))
      (changed_row Begins old new prepared members.begins begins is b (only Begins))

-- an operation that is not judged has no place
or_false : (a b : Bool) → (a || b) ≡ false → (a ≡ false) × (b ≡ false)
or_false true b e = absurd (cc)
or_false false b e = (refl, e)

no_end : (end : Option Moment) → is_some end ≡ false → end ≡ None
no_end None e = refl
no_end (Some end) e = absurd (cc)

no_spot : (op : Op) → (is_write op || is_some op.end) ≡ false → (row : IndexKind) → spot_on row op ≡ None
no_spot op unjudged Ends = let (read, open_end) = or_false (is_write op) (is_some op.end) unjudged in rw (read, no_end op.end open_end) refl
no_spot op unjudged Begins = let (read, open_end) = or_false (is_write op) (is_some op.end) unjudged in rw (read, no_end op.end open_end) refl

-- what is reserved for the prepared operation once the judged part of the new one has come
pub only_after : (new prepared : Option Op) (members : Members) → IfSome new (λ op. prepared ≡ Some op) → ReservesOnlyForMember (prepared_after (judged_part new) prepared) members → ReservesOnlyForMember (prepared_after new prepared) members
only_after None prepared members is only = only
only_after (Some op) prepared members is only = by_test (is_write op || is_some op.end) refl only
  where
    by_test : (t : Bool) → (is_write op || is_some op.end) ≡ t → ReservesOnlyForMember (prepared_after (cond t (Some op) None) prepared) members → ReservesOnlyForMember None members
    by_test true t only = only
    by_test false f only = λ row spot held.
        let awaited : is_spot (spot_in row (Some op)) spot ≡ true = subst (λ (p : Option Op). is_spot (spot_in row p) spot ≡ true) is (only row spot held) in
        let none = ap (λ s. is_spot s spot) (no_spot op f row) in
        absurd (cc)
