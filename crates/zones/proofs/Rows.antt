-- One of the two indexes: what it contains, what a change makes of it, and what a look-up in it says.
use Rattle.std.proofs.Common.{◌≡◌, ◌≢◌, ◌⊎◌, inl, inr, Bool, true, false, List, Option, Some, None, refl, sym, ap, subst, ◌∙◌}
use Rattle.std.specs.Prelude.{Contains, IfSome, is_some, if◌then◌else◌}
use Rattle.intervals.specs.declared.operation.Op.{Op}
use Rattle.intervals.specs.declared.operation.OpId.{OpId}
use Rattle.intervals.specs.declared.operation.Moment.{Moment}
use Rattle.intervals.specs.declared.operation.Value.{Value}
use Rattle.intervals.specs.declared.ordered_index.Spot.{Spot}
use Rattle.intervals.specs.declared.ordered_index.OrderedIndex.{OrderedIndex}
use Rattle.intervals.specs.Operation.{is_write, value_of, judged}
use Rattle.intervals.specs.OrderedIndex.{place_at, id_at, is_spot, id_if_there, spot_of}
use Rattle.intervals.proofs.SameSpot.{is_spot_one, is_spot_itself}
use Rattle.zones.specs.declared.index.IndexKind.{IndexKind}
use Rattle.zones.specs.declared.index.IndexKind.TheVariants.{Ends, Begins}
use Rattle.zones.specs.Cluster.{edge_of_end}
use Rattle.zones.specs.Members.{HaveOwnPlaces, IsChange}
use Rattle.zones.specs.declared.index.Members.{Members}
use Rattle.zones.specs.Index.{AreMembers, HasPlaceAt, HasPlaces, HasPlacesOf, IsInTime, IsShelfOf, shelf_of, by_begin, by_end, come_at, spot_in, spot_on, taken_at}
use Rattle.zones.proofs.Members.{kept, kept_present}
use Rattle.zones.proofs.Judged.{is_judged}

-- the value and the moment of an operation whose spot is this one
by_end_is : (v : Value) (end : Option Moment) (spot : Spot) → by_end v end ≡ Some spot → (v ≡ spot.value) × (end ≡ Some spot.moment)
by_end_is v None spot e = absurd (cc)
by_end_is v (Some end) spot e = let f : spot_of v end ≡ spot = cc in (ap (λ (s : Spot). s.value) f, ap (λ (s : Spot). Some s.moment) f)

pub ended : (op : Op) (spot : Spot) → spot_on Ends op ≡ Some spot → (is_write op ≡ false) × (value_of op.act ≡ spot.value) × (op.end ≡ Some spot.moment)
ended op spot e = by_test (is_write op) refl
  where
    by_test : (t : Bool) → is_write op ≡ t → (is_write op ≡ false) × (value_of op.act ≡ spot.value) × (op.end ≡ Some spot.moment)
    by_test true s = absurd (let f = rw s at e in cc)
    by_test false s = let (v, m) = by_end_is (value_of op.act) op.end spot (rw s at e) in (s, v, m)

by_begin_is : (v : Value) (begin : Moment) (end : Option Moment) (spot : Spot) → by_begin v begin end ≡ Some spot → (v ≡ spot.value) × (begin ≡ spot.moment) × (is_some end ≡ true)
by_begin_is v begin None spot e = absurd (cc)
by_begin_is v begin (Some end) spot e = let f : spot_of v begin ≡ spot = cc in (ap (λ (s : Spot). s.value) f, ap (λ (s : Spot). s.moment) f, refl)

pub begun : (op : Op) (spot : Spot) → spot_on Begins op ≡ Some spot → (is_write op ≡ false) × (value_of op.act ≡ spot.value) × (op.begin ≡ spot.moment) × (is_some op.end ≡ true)
begun op spot e = by_test (is_write op) refl
  where
    by_test : (t : Bool) → is_write op ≡ t → (is_write op ≡ false) × (value_of op.act ≡ spot.value) × (op.begin ≡ spot.moment) × (is_some op.end ≡ true)
    by_test true s = absurd (let f = rw s at e in cc)
    by_test false s = let (v, m, i) = by_begin_is (value_of op.act) op.begin op.end spot (rw s at e) in (s, v, m, i)

pub judged_there : (row : IndexKind) (op : Op) (spot : Spot) → spot_on row op ≡ Some spot → is_judged op ≡ true
judged_there Ends op spot e = let (w, v, m) = ended op spot e in rw (w, m) refl
judged_there Begins op spot e = let (w, v, m, i) = begun op spot e in rw (w, i) refl

-- no two judged operations have one spot
own_spot : (ops : List Op) → HaveOwnPlaces ops → (row : IndexKind) (a b : Op) (spot : Spot) → Contains (judged ops) a → Contains (judged ops) b → spot_on row a ≡ Some spot → spot_on row b ≡ Some spot → a ≡ b
own_spot ops own Ends a b spot ha hb e f =
    let (_, p, m) = ended a spot e in
    let (_, q, n) = ended b spot f in
    own.by_end a b ha hb (p ∙ sym q) (ap edge_of_end (m ∙ sym n))
own_spot ops own Begins a b spot ha hb e f =
    let (_, p, m, _) = begun a spot e in
    let (_, q, n, _) = begun b spot f in
    own.by_begin a b ha hb (p ∙ sym q) (m ∙ sym n)

pub same_row : (row : IndexKind) (ops : List Op) (before after : OrderedIndex) → ((spot : Spot) → id_at after spot ≡ id_at before spot) → IsShelfOf row ops before → IsShelfOf row ops after
same_row row ops before after same is = record {
  there = λ op spot h e. same spot ∙ is.there op spot h e;
  back = λ spot id e. is.back spot id (sym (same spot) ∙ e);
  in_time = λ spot id e. is.in_time spot id (sym (same spot) ∙ e);
}

-- what is at a spot once an id is taken out: nothing at that id's spot, and elsewhere what was there
abbrev IsTaken : Option Spot → Spot → Option OpId → Option OpId → Type 0
IsTaken gone spot before after = ((gone ≡ Some spot) × (after ≡ None)) ⊎ ((gone ≢ Some spot) × (after ≡ before))

taken_cases : (gone held : Option Spot) (spot : Spot) (found : Option (Option OpId)) → IsTaken gone spot (id_if_there found) (id_if_there (taken_at gone held spot found))
taken_cases gone held spot found = by_test (is_spot gone spot) (is_spot held spot) refl
  where
    by_test : (t s : Bool) → is_spot gone spot ≡ t → IsTaken gone spot (id_if_there found) (id_if_there (if t then (if s then Some None else None) else found))
    by_test true true e = inl (is_spot_one gone spot e, refl)
    by_test true false e = inl (is_spot_one gone spot e, refl)
    by_test false s e = inr (λ f. let g = is_spot_itself spot in let h : is_spot (Some spot) spot ≡ false = subst (λ (s : Option Spot). is_spot s spot ≡ false) f e in absurd (cc), refl)

-- what is at a spot once an operation has come: its id at its own spot, and elsewhere what was there
abbrev IsCome : IndexKind → Option Op → Spot → Option OpId → Option OpId → Type 0
IsCome row new spot before after = ((op : Op) × (new ≡ Some op) × (spot_on row op ≡ Some spot) × (after ≡ Some op.id)) ⊎ ((spot_in row new ≢ Some spot) × (after ≡ before))

come_cases : (row : IndexKind) (new : Option Op) (spot : Spot) (found : Option (Option OpId)) → IsCome row new spot (id_if_there found) (id_if_there (come_at row new spot found))
come_cases row None spot found = inr (λ e. absurd (cc), refl)
come_cases row (Some op) spot found = by_test (is_spot (spot_on row op) spot) refl
  where
    by_test : (t : Bool) → is_spot (spot_on row op) spot ≡ t → IsCome row (Some op) spot (id_if_there found) (id_if_there (if t then Some (Some op.id) else found))
    by_test true e = inl (op, refl, is_spot_one (spot_on row op) spot e, refl)
    by_test false e = inr (λ f. let g = is_spot_itself spot in let h : is_spot (Some spot) spot ≡ false = subst (λ (s : Option Spot). is_spot s spot ≡ false) f e in absurd (cc), refl)

module _ (row : IndexKind) where
  -- the operation whose spot that is
  owner : (op : Option Op) (spot : Spot) → spot_in row op ≡ Some spot → (one : Op) × (op ≡ Some one) × (spot_on row one ≡ Some spot)
  owner None spot e = absurd (cc)
  owner (Some op) spot e = (op, refl, e)

  module _ (before after : List Op) (old new : Option Op) (change : IsChange before old new after) (from to : OrderedIndex) (held : Option Spot) (index : IsShelfOf row before from) (fits : IsInTime (spot_in row new))
      (is : (spot : Spot) → place_at to spot ≡ come_at row new spot (taken_at (spot_in row old) held spot (place_at from spot))) where
    abbrev left_at : Spot → Option (Option OpId)
    left_at spot = taken_at (spot_in row old) held spot (place_at from spot)

    comes : (one : Op) → new ≡ Some one → Contains (judged after) one
    comes one e = subst (λ (o : Option Op). IfSome o (Contains (judged after))) e change.comes

    goes : (one : Op) → old ≡ Some one → Contains (judged before) one
    goes one e = subst (λ (o : Option Op). IfSome o (Contains (judged before))) e change.goes

    -- an id that stays is not taken out
    stays_there : (op : Op) (spot : Spot) → Contains (judged before) op → old ≢ Some op → spot_on row op ≡ Some spot → id_if_there (left_at spot) ≡ Some op.id
    stays_there op spot h other e = by_cases (taken_cases (spot_in row old) held spot (place_at from spot))
      where
        by_cases : IsTaken (spot_in row old) spot (id_at from spot) (id_if_there (left_at spot)) → id_if_there (left_at spot) ≡ Some op.id
        by_cases (inl (s, r)) = let (one, o, f) = owner old spot s in absurd (other (o ∙ ap Some (own_spot before change.apart_before row one op spot (goes one o) h f e)))
        by_cases (inr (s, r)) = r ∙ index.there op spot (kept_present is_judged before op h).0 e

    there_after : (op : Op) (spot : Spot) → Contains after op → spot_on row op ≡ Some spot → id_at to spot ≡ Some op.id
    there_after op spot h e = ap id_if_there (is spot) ∙ by_new (come_cases row new spot (left_at spot))
      where
        present : Contains (judged after) op
        present = kept is_judged after op h (judged_there row op spot e)

        by_stood : spot_in row new ≢ Some spot → (new ≡ Some op) ⊎ (Contains (judged before) op × (old ≢ Some op)) → id_if_there (left_at spot) ≡ Some op.id
        by_stood other (inl n) = absurd (other (ap (spot_in row) n ∙ e))
        by_stood other (inr (b, stays)) = stays_there op spot b stays e

        by_new : IsCome row new spot (id_if_there (left_at spot)) (id_if_there (come_at row new spot (left_at spot))) → id_if_there (come_at row new spot (left_at spot)) ≡ Some op.id
        by_new (inl (one, n, f, r)) = r ∙ ap (λ (o : Op). Some o.id) (own_spot after change.apart_after row one op spot (comes one n) present f e)
        by_new (inr (other, r)) = r ∙ by_stood other (change.stood op present)

    abbrev StandsAfter : Spot → OpId → Type 0
    StandsAfter spot id = (op : Op) × Contains after op × (op.id ≡ id) × (spot_on row op ≡ Some spot)

    back_after : (spot : Spot) (id : OpId) → id_at to spot ≡ Some id → StandsAfter spot id
    back_after spot id e = by_new (come_cases row new spot (left_at spot))
      where
        by_stay : (op : Op) → op.id ≡ id → spot_on row op ≡ Some spot → spot_in row old ≢ Some spot → (old ≡ Some op) ⊎ Contains (judged after) op → StandsAfter spot id
        by_stay op i f other (inl o) = absurd (other (ap (spot_in row) o ∙ f))
        by_stay op i f other (inr h) = (op, (kept_present is_judged after op h).0, i, f)

        by_old : id_if_there (left_at spot) ≡ Some id → IsTaken (spot_in row old) spot (id_at from spot) (id_if_there (left_at spot)) → StandsAfter spot id
        by_old l (inl (s, r)) = absurd (cc)
        by_old l (inr (other, r)) =
            let (op, h, i, f) = index.back spot id (sym r ∙ l) in
            by_stay op i f other (change.stay op (kept is_judged before op h (judged_there row op spot f)))

        by_new : IsCome row new spot (id_if_there (left_at spot)) (id_if_there (come_at row new spot (left_at spot))) → StandsAfter spot id
        by_new (inl (one, n, f, r)) = (one, (kept_present is_judged after one (comes one n)).0, (let g : Some one.id ≡ Some id = sym r ∙ (sym (ap id_if_there (is spot)) ∙ e) in cc), f)
        by_new (inr (other, r)) = by_old (sym r ∙ (sym (ap id_if_there (is spot)) ∙ e)) (taken_cases (spot_in row old) held spot (place_at from spot))

    in_time_after : (spot : Spot) (id : OpId) → id_at to spot ≡ Some id → IsInTime (Some spot)
    in_time_after spot id e = by_new (come_cases row new spot (left_at spot))
      where
        by_old : id_if_there (left_at spot) ≡ Some id → IsTaken (spot_in row old) spot (id_at from spot) (id_if_there (left_at spot)) → IsInTime (Some spot)
        by_old l (inl (s, r)) = absurd (cc)
        by_old l (inr (other, r)) = index.in_time spot id (sym r ∙ l)

        by_new : IsCome row new spot (id_if_there (left_at spot)) (id_if_there (come_at row new spot (left_at spot))) → IsInTime (Some spot)
        by_new (inl (one, n, f, r)) = subst IsInTime (ap (spot_in row) n ∙ f) fits
        by_new (inr (other, r)) = by_old (sym r ∙ (sym (ap id_if_there (is spot)) ∙ e)) (taken_cases (spot_in row old) held spot (place_at from spot))

    pub row_after : IsShelfOf row after to
    row_after = record { there = there_after; back = back_after; in_time = in_time_after }

-- the reserved place is there after a change
place_taken : (gone : Option Spot) (held : Spot) (found : Option (Option OpId)) → is_some found ≡ true → is_some (taken_at gone (Some held) held found) ≡ true
place_taken gone held found e = by_test (is_spot gone held) (is_spot (Some held) held) (is_spot_itself held)
  where
    by_test : (t s : Bool) → s ≡ true → is_some (if t then (if s then Some None else None) else found) ≡ true
    by_test true true f = refl
    by_test true false f = absurd (cc)
    by_test false s f = e

place_come : (row : IndexKind) (new : Option Op) (spot : Spot) (found : Option (Option OpId)) → is_some found ≡ true → is_some (come_at row new spot found) ≡ true
place_come row None spot found e = e
place_come row (Some op) spot found e = by_test (is_spot (spot_on row op) spot)
  where
    by_test : (t : Bool) → is_some (if t then Some (Some op.id) else found) ≡ true
    by_test true = refl
    by_test false = e

-- an index once the old operation is gone and the new one has come
abbrev pub IsChanged : IndexKind → Option Op → Option Op → Option Op → OrderedIndex → OrderedIndex → Type 0
IsChanged row old new prepared from to = (spot : Spot) → place_at to spot ≡ come_at row new spot (taken_at (spot_in row old) (spot_in row prepared) spot (place_at from spot))

place_stays : (row : IndexKind) (old new : Option Op) (prepared : Op) (from to : OrderedIndex) (spot : Spot) → spot_on row prepared ≡ Some spot → IsChanged row old new (Some prepared) from to → is_some (place_at from spot) ≡ true → is_some (place_at to spot) ≡ true
place_stays row old new prepared from to spot e is there =
    ap is_some (is spot)
    ∙ place_come row new spot (taken_at (spot_in row old) (spot_in row (Some prepared)) spot (place_at from spot))
    (subst (λ (s : Option Spot). is_some (taken_at (spot_in row old) s spot (place_at from spot)) ≡ true) (sym e) (place_taken (spot_in row old) spot (place_at from spot) there))

pub place_of : (row : IndexKind) (op : Option Op) (members : Members) → HasPlacesOf op members → HasPlaceAt (shelf_of members row) (spot_in row op)
place_of row None members h = tt
place_of row (Some op) members h = by_spot (spot_on row op) (h row)
  where
    by_spot : (s : Option Spot) → ((spot : Spot) → s ≡ Some spot → is_some (place_at (shelf_of members row) spot) ≡ true) → HasPlaceAt (shelf_of members row) s
    by_spot None each = tt
    by_spot (Some spot) each = each spot refl

module _ (old new : Option Op) (members : Members) (ends begins : OrderedIndex) where
  abbrev changed : Members
  changed = record { ends = ends; begins = begins }

  pub changed_rows : (prepared : Option Op) → IsChanged Ends old new prepared members.ends ends → IsChanged Begins old new prepared members.begins begins
      → ((row : IndexKind) → IsInTime (spot_in row new)) → (before after : List Op) → AreMembers before members → IsChange before old new after → AreMembers after changed
  changed_rows prepared e b fits before after is change Ends = row_after Ends before after old new change members.ends ends (spot_in Ends prepared) (is Ends) (fits Ends) e
  changed_rows prepared e b fits before after is change Begins = row_after Begins before after old new change members.begins begins (spot_in Begins prepared) (is Begins) (fits Begins) b

  pub changed_places : (prepared : Option Op) → IsChanged Ends old new prepared members.ends ends → IsChanged Begins old new prepared members.begins begins
      → HasPlacesOf prepared members → HasPlacesOf prepared changed
  changed_places None e b h = tt
  changed_places (Some op) e b h = by_row
    where
      by_row : HasPlaces op changed
      by_row Ends spot s = place_stays Ends old new op members.ends ends spot s e (h Ends spot s)
      by_row Begins spot s = place_stays Begins old new op members.begins begins spot s b (h Begins spot s)

-- indexes that have the same ids have the same members
pub same_rows : (ops : List Op) (before : Members) (ends begins : OrderedIndex)
    → ((spot : Spot) → id_at ends spot ≡ id_at before.ends spot)
    → ((spot : Spot) → id_at begins spot ≡ id_at before.begins spot)
    → AreMembers ops before → AreMembers ops (record { ends = ends; begins = begins })
same_rows ops before ends begins e b is Ends = same_row Ends ops before.ends ends e (is Ends)
same_rows ops before ends begins e b is Begins = same_row Begins ops before.begins begins b (is Begins)

-- what holds of each index holds of both
pub of_rows : (P : IndexKind → Type 0) → P Ends → P Begins → (row : IndexKind) → P row
of_rows P e b Ends = e
of_rows P e b Begins = b

-- a reserved place is there when an id was taken out
pub place_left : (from to : OrderedIndex) (out held : Option Spot) → HasPlaceAt from held
    → ((other : Spot) → place_at to other ≡ taken_at out held other (place_at from other)) → HasPlaceAt to held
place_left from to out None there is = there
place_left from to out (Some spot) there is = ap is_some (is spot) ∙ place_taken out spot (place_at from spot) there

-- the place of a new operation, which is the prepared one
pub place_of_new : (row : IndexKind) (new prepared : Option Op) (op : Op) (shelf : OrderedIndex) → IfSome new (λ o. prepared ≡ Some o) → new ≡ Some op → HasPlaceAt shelf (spot_in row prepared) → HasPlaceAt shelf (spot_on row op)
place_of_new row None prepared op shelf is e there = absurd (cc)
place_of_new row (Some one) prepared op shelf is e there = subst (λ (p : Option Op). HasPlaceAt shelf (spot_in row p)) (is ∙ e) there
