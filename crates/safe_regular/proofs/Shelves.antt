-- The index of the writes: what a look-up finds, and what the index has after one write goes or comes.
use Rattle.std.proofs.Common.{◌≡◌, ◌≢◌, ◌<◌, ◌≤◌, ◌⊎◌, inl, inr, Bool, true, false, List, Option, Some, None, refl, sym, ap, subst, ◌∙◌, cond}
use Rattle.std.specs.Prelude.{Contains, IfSome, MatchOption}
use Rattle.std.proofs.lemmas.Bool.{ne_eqb}
use Rattle.intervals.specs.declared.operation.Op.{Op}
use Rattle.intervals.specs.declared.operation.OpId.{OpId}
use Rattle.intervals.specs.declared.operation.Moment.{Moment}
use Rattle.intervals.specs.declared.operation.Value.TheVariants.{Nil}
use Rattle.intervals.specs.declared.ordered_index.Spot.{Spot}
use Rattle.intervals.specs.declared.ordered_index.OrderedIndex.{OrderedIndex}
use Rattle.intervals.specs.Operation.{IsWrite, is_write}
use Rattle.intervals.specs.Edit.{op_of}
use Rattle.intervals.specs.OrderedIndex.{id_at, is_spot, id_if_there, place_at, spot_of, same_spot}
use Rattle.intervals.specs.Standing.{HasDistinctIds}
use Rattle.intervals.specs.Table.{prepared_after}
use Rattle.intervals.proofs.Ids.{found_by_id}
use Rattle.intervals.proofs.SameSpot.{is_spot_one}
use Rattle.safe_regular.specs.declared.writes.Writes.{Writes}
use Rattle.safe_regular.specs.Index.{IsIndex}
use Rattle.safe_regular.specs.LookUp.{BeginsBefore, BeginsFrom, BeginsAfter, IsLastOf, IsFirstWriteOf}
use Rattle.safe_regular.specs.Writes.{AreWrites, HaveSameWrites, IsAdded, IsAddedOf, StandAlike, StandAlikeIn, ReservesOnlyForWrite, id_by_begin, spot_by_begin, spot_by_begin_in, op_of_found}
use Rattle.safe_regular.proofs.Index.{none_indexed, last_indexed, first_indexed, index_with, index_without}
use Rattle.intervals.proofs.Ids.{one_of_id}

-- the operation whose id was found at a moment
module _ (Fits : Op → Type 0) (Q : Moment → Type 0) (says : (w : Op) → Fits w → Q w.begin) (met : (w : Op) → Q w.begin → Fits w)
    (ops : List Op) (distinct : HasDistinctIds ops) (at : Moment → Option OpId) (index : IsIndex ops at) where
  named : (w : Op) (id : OpId) → Contains ops w → w.id ≡ id → op_of ops id ≡ Some w
  named w id present own = subst (λ (i : OpId). op_of ops i ≡ Some w) own (found_by_id ops w distinct present)

  pub last_at : (found : Option (Moment × OpId))
      → MatchOption found ((m : Moment) → Q m → at m ≡ None) (λ f. Q f.0 × (at f.0 ≡ Some f.1) × ((m : Moment) → f.0.0 < m.0 → Q m → at m ≡ None))
      → IsLastOf Fits ops (op_of_found ops found)
  last_at None none = none_indexed Fits Q says met ops at index none
  last_at (Some (m, id)) is =
      let w = index.back m id is.1 in
      subst (λ (o : Option Op). IsLastOf Fits ops o) (sym (named w.0 id w.1 w.4))
      (last_indexed Fits Q says met ops at index (one_of_id ops distinct) m id w.0 w.1 w.4
      (record { here = is.0; present = is.1; last = λ n q lt. is.2 n lt q }))

  pub first_at : (found : Option (Moment × OpId))
      → MatchOption found ((m : Moment) → Q m → at m ≡ None) (λ f. Q f.0 × (at f.0 ≡ Some f.1) × ((m : Moment) → Q m → m.0 < f.0.0 → at m ≡ None))
      → IsFirstWriteOf Fits ops (op_of_found ops found)
  first_at None none = none_indexed Fits Q says met ops at index none
  first_at (Some (m, id)) is =
      let w = index.back m id is.1 in
      subst (λ (o : Option Op). IsFirstWriteOf Fits ops o) (sym (named w.0 id w.1 w.4))
      (first_indexed Fits Q says met ops at index (one_of_id ops distinct) m id w.0 w.1 w.4
      (record { here = is.0; present = is.1; first = is.2 }))

-- the look-ups by beginning
module _ (ops : List Op) (writes : Writes) (are : AreWrites ops writes) (distinct : HasDistinctIds ops) (found : Option (Moment × OpId)) where
  pub last_before_is : (limit : Moment)
      → MatchOption found ((m : Moment) → m.0 < limit.0 → id_at writes.begins (spot_of Nil m) ≡ None)
      (λ f. (f.0.0 < limit.0) × (id_at writes.begins (spot_of Nil f.0) ≡ Some f.1) × ((m : Moment) → f.0.0 < m.0 → m.0 < limit.0 → id_at writes.begins (spot_of Nil m) ≡ None))
      → IsLastOf (BeginsBefore limit.0) ops (op_of_found ops found)
  last_before_is limit = last_at (BeginsBefore limit.0) (λ m. m.0 < limit.0) (λ w h. h) (λ w h. h) ops distinct (id_by_begin writes) are found

  pub first_from_is : (from : Moment)
      → MatchOption found ((m : Moment) → from.0 ≤ m.0 → id_at writes.begins (spot_of Nil m) ≡ None)
      (λ f. (from.0 ≤ f.0.0) × (id_at writes.begins (spot_of Nil f.0) ≡ Some f.1) × ((m : Moment) → from.0 ≤ m.0 → m.0 < f.0.0 → id_at writes.begins (spot_of Nil m) ≡ None))
      → IsFirstWriteOf (BeginsFrom from.0) ops (op_of_found ops found)
  first_from_is from = first_at (BeginsFrom from.0) (λ m. from.0 ≤ m.0) (λ w h. h) (λ w h. h) ops distinct (id_by_begin writes) are found

  pub first_after_is : (after : Moment)
      → MatchOption found ((m : Moment) → after.0 < m.0 → id_at writes.begins (spot_of Nil m) ≡ None)
      (λ f. (after.0 < f.0.0) × (id_at writes.begins (spot_of Nil f.0) ≡ Some f.1) × ((m : Moment) → after.0 < m.0 → m.0 < f.0.0 → id_at writes.begins (spot_of Nil m) ≡ None))
      → IsFirstWriteOf (BeginsAfter after.0) ops (op_of_found ops found)
  first_after_is after = first_at (BeginsAfter after.0) (λ m. after.0 < m.0) (λ w h. h) (λ w h. h) ops distinct (id_by_begin writes) are found

-- spots of different moments differ
moments_apart : (a b : Moment) → b.0 ≢ a.0 → same_spot (spot_of Nil a) (spot_of Nil b) ≡ false
moments_apart a b ne = ne_eqb a.0 b.0 (λ e. ne (sym e))

-- a map with the same ids is an index of the same writes
index_same : (ops : List Op) (at new : Moment → Option OpId) → ((m : Moment) → new m ≡ at m) → IsIndex ops at → IsIndex ops new
index_same ops at new same index = record {
  there = λ w present write. same w.begin ∙ index.there w present write;
  back = λ m id e. index.back m id (sym (same m) ∙ e);
}

pub same_turned : (others ops : List Op) → HaveSameWrites others ops → HaveSameWrites ops others
same_turned others ops are = record { kept = are.only; only = are.kept }

pub writes_of_same : (others ops : List Op) (writes : Writes) → HaveSameWrites others ops → AreWrites others writes → AreWrites ops writes
writes_of_same others ops writes same are = record {
  there = λ w present write. are.there w (same.only w write present) write;
  back = λ m id e. let w = are.back m id e in (w.0, same.kept w.0 w.2 w.1, w.2, w.3, w.4);
}

abbrev pub AreAlike : OrderedIndex → OrderedIndex → Type 0
AreAlike old new = (other : Spot) → id_at new other ≡ id_at old other

-- the ids at all other spots are unchanged
abbrev pub AreAlikeBeside : Option Spot → OrderedIndex → OrderedIndex → Type 0
AreAlikeBeside spot old new = (other : Spot) → IfSome spot (λ s. same_spot s other ≡ false) → id_at new other ≡ id_at old other

abbrev on : OrderedIndex → Writes
on begins = record { begins = begins }

-- an index with the same ids is one of the same writes
pub writes_alike : (ops : List Op) (old : Writes) (begins : OrderedIndex) → AreAlike old.begins begins → AreWrites ops old → AreWrites ops (on begins)
writes_alike ops old begins alike are = index_same ops (id_by_begin old) (id_by_begin (on begins)) (λ m. alike (spot_of Nil m)) are

module _ (others : List Op) (op : Op) (ops : List Op) (is : IsAdded others op ops) (old : Writes) (begins : OrderedIndex) where
  no_more : ¬ IsWrite op → HaveSameWrites others ops
  no_more read = record { kept = is.kept; only = λ w write present. by_cases w write (is.only w write present) }
    where
      by_cases : (w : Op) → IsWrite w → Contains others w ⊎ (w ≡ op) → Contains others w
      by_cases w write (inl present) = present
      by_cases w write (inr e) = absurd (read (subst (λ (o : Op). IsWrite o) e write))

  with_at : (t : Bool) → is_write op ≡ t → AreAlikeBeside (cond t (Some (spot_of Nil op.begin)) None) old.begins begins
      → IfSome (cond t (Some (spot_of Nil op.begin)) None) (λ s. id_at begins s ≡ Some op.id) → AreWrites others old → AreWrites ops (on begins)
  with_at true write beside here are = index_with others op ops is write (id_by_begin old) (id_by_begin (on begins)) are here (λ m apart. beside (spot_of Nil m) (moments_apart op.begin m apart))
  with_at false read beside here are =
      writes_of_same others ops (on begins) (no_more (λ write. absurd (cc))) (index_same others (id_by_begin old) (id_by_begin (on begins)) (λ m. beside (spot_of Nil m) tt) are)

  without_at : (t : Bool) → is_write op ≡ t → AreAlikeBeside (cond t (Some (spot_of Nil op.begin)) None) old.begins begins
      → IfSome (cond t (Some (spot_of Nil op.begin)) None) (λ s. id_at begins s ≡ None) → AreWrites ops old → AreWrites others (on begins)
  without_at true write beside gone are = index_without others op ops is write (id_by_begin old) (id_by_begin (on begins)) are gone (λ m apart. beside (spot_of Nil m) (moments_apart op.begin m apart))
  without_at false read beside gone are =
      writes_of_same ops others (on begins) (same_turned others ops (no_more (λ write. absurd (cc)))) (index_same ops (id_by_begin old) (id_by_begin (on begins)) (λ m. beside (spot_of Nil m) tt) are)

  module _ (spot : Option Spot) (spot_is : spot ≡ spot_by_begin op) (beside : AreAlikeBeside spot old.begins begins) where
    pub writes_with : IfSome spot (λ s. id_at begins s ≡ Some op.id) → AreWrites others old → AreWrites ops (on begins)
    writes_with here = with_at (is_write op) refl
        (subst (λ (s : Option Spot). AreAlikeBeside s old.begins begins) spot_is beside)
        (subst (λ (s : Option Spot). IfSome s (λ s. id_at begins s ≡ Some op.id)) spot_is here)

    pub writes_without : IfSome spot (λ s. id_at begins s ≡ None) → AreWrites ops old → AreWrites others (on begins)
    writes_without gone = without_at (is_write op) refl
        (subst (λ (s : Option Spot). AreAlikeBeside s old.begins begins) spot_is beside)
        (subst (λ (s : Option Spot). IfSome s (λ s. id_at begins s ≡ None)) spot_is gone)

-- where a write keeps its id and beginning, the index is right after the edit as it is
pub writes_stay : (others before after : List Op) (old new : Op) → StandAlike old new → IsAdded others old before → IsAdded others new after → (writes : Writes) → AreWrites before writes → AreWrites after writes
writes_stay others before after old new alike gone come writes index = record { there = there_after; back = back_after }
  where
    at : Moment → Option OpId
    at m = id_by_begin writes m

    there_after : (w : Op) → Contains after w → IsWrite w → at w.begin ≡ Some w.id
    there_after w present write = by_cases (come.only w write present)
      where
        by_cases : Contains others w ⊎ (w ≡ new) → at w.begin ≡ Some w.id
        by_cases (inl left) = index.there w (gone.kept w write left) write
        by_cases (inr e) =
            let was : at old.begin ≡ Some old.id = index.there old (gone.added alike.old_writes) alike.old_writes in
            rw e (rw (← alike.begin) (rw (← alike.id) was))

    back_after : (m : Moment) (id : OpId) → at m ≡ Some id → (w : Op) × Contains after w × IsWrite w × (w.begin ≡ m) × (w.id ≡ id)
    back_after m id e = let (w, present, write, at_m, of_id) = index.back m id e in by_origin w write at_m of_id (gone.only w write present)
      where
        by_origin : (w : Op) → IsWrite w → w.begin ≡ m → w.id ≡ id → Contains others w ⊎ (w ≡ old) → (w : Op) × Contains after w × IsWrite w × (w.begin ≡ m) × (w.id ≡ id)
        by_origin w write at_m of_id (inl left) = (w, come.kept w write left, write, at_m, of_id)
        by_origin w write at_m of_id (inr s) =
            (new, come.added alike.new_writes, alike.new_writes, sym alike.begin ∙ ap (λ (o : Op). o.begin) (sym s) ∙ at_m, sym alike.id ∙ ap (λ (o : Op). o.id) (sym s) ∙ of_id)

-- where an optional write keeps its id and beginning, the index is right after the edit as it is
pub writes_stay_in : (others before after : List Op) (old new : Option Op) → StandAlikeIn old new → IsAddedOf others old before → IsAddedOf others new after → (writes : Writes) → AreWrites before writes → AreWrites after writes
writes_stay_in others before after old new (o, n, is_old, is_new, alike) gone come =
    writes_stay others before after o n alike
    (subst (λ (x : Option Op). IsAddedOf others x before) is_old gone)
    (subst (λ (x : Option Op). IsAddedOf others x after) is_new come)

-- after `hold` the only empty place is that of the operation, if none was empty
pub held_for : (op : Op) (old : Writes) (begins : OrderedIndex) (spot : Option Spot) → spot ≡ spot_by_begin op
    → ((other : Spot) → is_spot spot other ≡ false → place_at begins other ≡ place_at old.begins other) → ReservesOnlyForWrite None old → ReservesOnlyForWrite (Some op) (on begins)
held_for op old begins spot spot_is others only other held = by_cases (is_spot spot other) refl
  where
    by_cases : (t : Bool) → is_spot spot other ≡ t → is_spot (spot_by_begin op) other ≡ true
    by_cases true t = ap (λ s. is_spot s other) (sym spot_is) ∙ t
    by_cases false f = absurd (let t = only other (sym (others other f) ∙ held) in cc)

-- after `release` no place is empty, if none but that of the operation was and no id is at its spot
pub held_no_more : (op : Op) (old : Writes) (begins : OrderedIndex) (spot : Option Spot) → spot ≡ spot_by_begin op
    → IfSome spot (λ s. id_at old.begins s ≡ None → place_at begins s ≡ None) → AreAlike old.begins begins
    → ((other : Spot) → is_spot spot other ≡ false → place_at begins other ≡ place_at old.begins other) → ReservesOnlyForWrite (Some op) old → ReservesOnlyForWrite None (on begins)
held_no_more op old begins spot spot_is gone alike others only other held = absurd (by_cases (is_spot spot other) refl)
  where
    none : id_at old.begins other ≡ None
    none = sym (alike other) ∙ ap id_if_there held

    by_cases : (t : Bool) → is_spot spot other ≡ t → ⊥
    by_cases true t =
        let one : spot ≡ Some other = is_spot_one spot other t in
        let went = subst (λ (x : Option Spot). IfSome x (λ s. id_at old.begins s ≡ None → place_at begins s ≡ None)) one gone in
        let left : place_at begins other ≡ None = went none in
        cc
    by_cases false f =
        let t = only other (sym (others other f) ∙ held) in
        let e = ap (λ s. is_spot s other) spot_is in
        cc

-- where a write keeps its id and beginning, its place has an id already, so no place is empty
pub none_held_in : (before others : List Op) (old new prepared : Option Op) (writes : Writes) → StandAlikeIn old new → IfSome new (λ op. prepared ≡ Some op) → AreWrites before writes → IsAddedOf others old before → ReservesOnlyForWrite prepared writes → ReservesOnlyForWrite (prepared_after new prepared) writes
none_held_in before others old new prepared writes (o, n, is_old, is_new, alike) room are gone only spot held =
    let prepared_is : prepared ≡ Some n = subst (λ (p : Option Op). IfSome p (λ op. prepared ≡ Some op)) is_new room in
    let awaited : is_spot (spot_by_begin n) spot ≡ true = subst (λ (p : Option Op). is_spot (spot_by_begin_in p) spot ≡ true) prepared_is (only spot held) in
    let one : Some (spot_of Nil n.begin) ≡ Some spot = is_spot_one (Some (spot_of Nil n.begin)) spot (rw alike.new_writes at awaited) in
    let here : spot_of Nil n.begin ≡ spot = cc in
    let there : IsAdded others o before = subst (λ (x : Option Op). IsAddedOf others x before) is_old gone in
    let present : id_by_begin writes n.begin ≡ Some o.id = subst (λ (m : Moment). id_by_begin writes m ≡ Some o.id) alike.begin (are.there o (there.added alike.old_writes) alike.old_writes) in
    let some : id_at writes.begins spot ≡ Some o.id = subst (λ (s : Spot). id_at writes.begins s ≡ Some o.id) here present in
    let none : id_at writes.begins spot ≡ None = ap id_if_there held in
    absurd (cc)
