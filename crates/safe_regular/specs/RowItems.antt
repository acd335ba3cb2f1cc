-- The reads and covers in the tree, and what an edit does to them; no public clause uses these words.
use Rattle.std.specs.Prelude.{◌≡◌, ℕ, ◌+◌, ◌<◌, ◌⊎◌, min, Bool, true, false, ◌||◌, List, ◌∷◌, ◌++◌, length, ◌≤◌, Contains, Option, Some, None, IfSome, IsSome, option_map, if◌then◌else◌}
use Rattle.intervals.specs.declared.operation.Op.{Op}
use Rattle.intervals.specs.declared.operation.Moment.{Moment}
use Rattle.intervals.specs.declared.operation.Value.TheVariants.{Nil}
use Rattle.intervals.specs.declared.ordered_index.Spot.{Spot}
use Rattle.intervals.specs.declared.claim.Kind.{Kind}
use Rattle.intervals.specs.declared.claim.Kind.TheVariants.{Safe, Regular, Atomic}
use Rattle.intervals.specs.Judging.{is_allowed, end_number}
use Rattle.intervals.specs.Operation.{IsWrite, IsJudgedRead, is_write, is_judged_read, value_of}
use Rattle.intervals.specs.OrderedIndex.{same_spot, spot_of}
use Rattle.intervals.specs.Terms.{ClaimModel}
use Rattle.read_tree.specs.declared.item.RowItem.{RowItem}
use Rattle.read_tree.specs.Items.{AreItemsInOrder, ReadContents, spot_of_item, renewed, with_read_item, without_read_item}
use Rattle.safe_regular.specs.LookUp.{BeginsAfter, BeginsBefore, BeginsFrom, IsFirstWriteOf, IsLastWrite, NoneFits}
use Rattle.safe_regular.specs.Writes.{StandAlike}

-- number + 1, at most 2^64 - 1; the tree counts moments from 1, so that 0 is before all of them
abbrev pub counted_from_1 : ℕ → ℕ
counted_from_1 number = min (number + 1) 18446744073709551615

-- the moment of that number
abbrev pub numbered_moment : ℕ → Moment
numbered_moment number = record { 0 = number }

-- how far a cover reaches that is ended by an optional end: `counted_from_1` of the end, so over the reads that begin
-- by then; without an end 2^64 - 2, so over all reads but those of a value that is never allowed
abbrev pub reach_by : Option Moment → ℕ
reach_by None = 18446744073709551614
reach_by (Some end) = counted_from_1 end.0

-- the end of an optional operation, or none where there is no operation or it has no end
abbrev pub optional_end : Option Op → Option Moment
optional_end None = None
optional_end (Some op) = op.end

-- the reach of a read: its beginning counted from 1; but 2^64 - 1, past every cover, on a safe register that never
-- allows its value
abbrev pub read_reach : Kind → ClaimModel → Op → ℕ
read_reach Safe claim r = if is_allowed claim.domain claim.initial (value_of r.act) then counted_from_1 r.begin.0 else 18446744073709551615
read_reach Regular claim r = counted_from_1 r.begin.0
read_reach Atomic claim r = counted_from_1 r.begin.0

-- the reach of a write's cover: on a safe register up to its own end, else up to the end of the next write (`reach_by`)
abbrev pub cover_reach : Kind → Option Moment → Option Op → ℕ
cover_reach Safe end next = reach_by end
cover_reach Regular end next = reach_by (optional_end next)
cover_reach Atomic end next = reach_by (optional_end next)

-- the reach of the initial value's cover: 0 on a safe register, else up to the end of the first write (`reach_by`)
abbrev pub initial_reach : Kind → Option Op → ℕ
initial_reach Safe next = 0
initial_reach Regular next = reach_by (optional_end next)
initial_reach Atomic next = reach_by (optional_end next)

-- each value has a row of its own in the tree; on a safe register all values are in one row
abbrev pub has_rows : Kind → Bool
has_rows Safe = false
has_rows Regular = true
has_rows Atomic = true

-- the item of a read, at its end
abbrev pub read_item : ClaimModel → Op → RowItem
read_item claim r = record {
  value = value_of r.act;
  moment = numbered_moment (counted_from_1 (end_number r));
  reach = read_reach claim.kind claim r;
  id = r.id;
  covers = false;
  by_value = has_rows claim.kind;
}

-- the item of a write: a cover from its beginning on; `next` is the optional next write
abbrev pub cover_item : ClaimModel → Op → Option Op → RowItem
cover_item claim w next = record {
  value = value_of w.act;
  moment = numbered_moment (counted_from_1 w.begin.0);
  reach = cover_reach claim.kind w.end next;
  id = w.id;
  covers = true;
  by_value = has_rows claim.kind;
}

-- the item of the initial value: a cover before all moments; `next` is the optional first write
abbrev pub initial_item : ClaimModel → Option Op → RowItem
initial_item claim next = record {
  value = claim.initial;
  moment = numbered_moment 0;
  reach = initial_reach claim.kind next;
  id = record { feeder = 0; event = 0 };
  covers = true;
  by_value = has_rows claim.kind;
}

-- x is the item of a judged read of the list
pub record IsReadItem (claim : ClaimModel) (ops : List Op) (x : RowItem) : Type 0 where
  pub read : Op
  pub present : Contains ops read
  pub judged : IsJudgedRead read
  pub is : x ≡ read_item claim read

-- x is the item of a write of the list, made with the next write to begin, if there is one
pub record IsCoverItem (claim : ClaimModel) (ops : List Op) (x : RowItem) : Type 0 where
  pub write : Op
  pub present : Contains ops write
  pub writes : IsWrite write
  pub next : Option Op
  pub next_is : IsFirstWriteOf (BeginsAfter write.begin.0) ops next
  pub is : x ≡ cover_item claim write next

-- x is the item of the initial value, made with the first write to begin, if there is one
pub record IsInitialItem (claim : ClaimModel) (ops : List Op) (x : RowItem) : Type 0 where
  pub next : Option Op
  pub next_is : IsFirstWriteOf (BeginsFrom 0) ops next
  pub is : x ≡ initial_item claim next

-- x is the item of a judged read or of a write of the list, or that of the initial value
abbrev pub IsOperationItem : ClaimModel → List Op → RowItem → Type 0
IsOperationItem claim ops x = IsReadItem claim ops x ⊎ (IsCoverItem claim ops x ⊎ IsInitialItem claim ops x)

-- the items are in order, and they are those of the operations and of the initial value, all of them and no others
pub record AreItemsOf (claim : ClaimModel) (ops : List Op) (items : List RowItem) : Type 0 where
  pub order : AreItemsInOrder items
  pub each : (x : RowItem) → IsOperationItem claim ops x → Contains items x
  pub only : (x : RowItem) → Contains items x → IsOperationItem claim ops x

-- the operation has an item in the tree: it is a write or a judged read
abbrev pub IsLaid : Op → Type 0
IsLaid op = IsWrite op ⊎ IsJudgedRead op

-- the moment of an operation's item, not yet counted from 1: a write's beginning or a read's end
abbrev pub item_number : Op → ℕ
item_number op = if is_write op then op.begin.0 else end_number op

-- the spot of an operation's item in the tree
abbrev pub place_in : ClaimModel → Op → Spot
place_in claim op = spot_of (if has_rows claim.kind then value_of op.act else Nil) (numbered_moment (counted_from_1 (item_number op)))

-- the spot of the initial value's item in the tree
abbrev pub initial_place : ClaimModel → Spot
initial_place claim = spot_of (if has_rows claim.kind then claim.initial else Nil) (numbered_moment 0)

-- the spot of an optional operation's item, or none where it has no item
abbrev pub optional_item_spot : ClaimModel → Option Op → Option Spot
optional_item_spot claim None = None
optional_item_spot claim (Some op) = if is_write op || is_judged_read op then Some (place_in claim op) else None

-- the item is not at the optional spot
abbrev pub IsAway : Option Spot → RowItem → Type 0
IsAway None x = Unit {0}
IsAway (Some spot) x = same_spot (spot_of_item x) spot ≡ false

-- the items without the one at an optional spot
abbrev pub items_without : Option Spot → List RowItem → List RowItem
items_without None items = items
items_without (Some spot) items = without_read_item spot items

-- the items, and an optional one more
abbrev pub items_with : Option RowItem → List RowItem → List RowItem
items_with None items = items
items_with (Some item) items = with_read_item item items

-- the items, with an optional new one in place of the one at its spot
abbrev pub items_renewed : Option RowItem → List RowItem → List RowItem
items_renewed None items = items
items_renewed (Some item) items = renewed item items

-- an item is at the optional spot; this holds where there is no spot
abbrev pub HasItemAt : Option Spot → List RowItem → Type 0
HasItemAt spot items = IfSome spot (λ s. (y : RowItem) × Contains items y × (same_spot (spot_of_item y) s ≡ true))

-- no item, but the one at the optional spot, is where the optional new item belongs
abbrev pub IsFreeFor : Option Spot → Option RowItem → List RowItem → Type 0
IsFreeFor spot item items = IfSome item (λ x. (y : RowItem) → Contains items y → IsAway spot y → same_spot (spot_of_item y) (spot_of_item x) ≡ false)

-- the items before and after: the one at an optional spot is gone, an optional new one has come, the others stay
pub record IsExchanged (spot : Option Spot) (item : Option RowItem) (before after : List RowItem) : Type 0 where
  pub kept : (x : RowItem) → Contains before x → IsAway spot x → Contains after x
  pub put : (x : RowItem) → item ≡ Some x → Contains after x
  pub only : (x : RowItem) → Contains after x → (Contains before x × IsAway spot x) ⊎ (item ≡ Some x)

-- the spot of an optional item
abbrev pub place_of_some : Option RowItem → Option Spot
place_of_some item = option_map spot_of_item item

-- the items before and after: an optional new one is in place of the one at its spot, the others stay
pub record IsRenewed (item : Option RowItem) (before after : List RowItem) : Type 0 where
  pub kept : (x : RowItem) → Contains before x → IsAway (place_of_some item) x → Contains after x
  pub put : (x other : RowItem) → item ≡ Some x → Contains before other → same_spot (spot_of_item other) (spot_of_item x) ≡ true → Contains after x
  pub only : (x : RowItem) → Contains after x → (Contains before x × IsAway (place_of_some item) x) ⊎ (item ≡ Some x)

-- the item of an optional operation, or none where that has no item
pub record IsItemOf (claim : ClaimModel) (ops : List Op) (op : Option Op) (item : Option RowItem) : Type 0 where
  pub is : (x : RowItem) → item ≡ Some x → IsOperationItem claim ops x × ((o : Op) × (op ≡ Some o) × IsLaid o × (spot_of_item x ≡ place_in claim o))
  pub there : (o : Op) → op ≡ Some o → IsLaid o → (x : RowItem) × (item ≡ Some x)

-- x is at the spot of the last write to begin before the moment, or at that of the initial value where none does
abbrev pub IsInFront : ClaimModel → List Op → ℕ → RowItem → Type 0
IsInFront claim ops moment x =
    ((w : Op) × IsLastWrite (BeginsBefore moment) ops w × (spot_of_item x ≡ place_in claim w))
    ⊎ (NoneFits (BeginsBefore moment) ops × (spot_of_item x ≡ initial_place claim))

-- the optional operation is a write that begins at the moment
abbrev pub HasWriteAt : Option Op → ℕ → Type 0
HasWriteAt None moment = ⊥
HasWriteAt (Some op) moment = IsWrite op × (op.begin.0 ≡ moment)

-- the cover before the optional write `op`, where values have rows and so the next write says how far it reaches; it
-- may be left out where the optional `other` is a write with the beginning of `op`
pub record IsCoverBefore (claim : ClaimModel) (ops : List Op) (other op : Option Op) (item : Option RowItem) : Type 0 where
  pub is : (x : RowItem) → item ≡ Some x → IsOperationItem claim ops x
  pub there : (o : Op) → op ≡ Some o → IsWrite o → has_rows claim.kind ≡ true → ((x : RowItem) × (item ≡ Some x) × IsInFront claim ops o.begin.0 x) ⊎ HasWriteAt other o.begin.0

-- both are writes of one id, beginning and value
pub record AreOneCover (old new : Op) : Type 0 where
  pub alike : StandAlike old new
  pub value : value_of old.act ≡ value_of new.act

-- both optional operations are there, and they are writes of one id, beginning and value
abbrev pub AreOneCoverIn : Option Op → Option Op → Type 0
AreOneCoverIn old new = (o n : Op) × (old ≡ Some o) × (new ≡ Some n) × AreOneCover o n

-- old and new are writes of one id, beginning and value, and values have rows: so the cover stays as it is, since it
-- reaches up to the end of the next write and not of its own
pub record KeepsItsCover (kind : Kind) (old new : Option Op) : Type 0 where
  pub rows : has_rows kind ≡ true
  pub one : AreOneCoverIn old new

-- the item of the new operation is in the tree already, at the spot of the old operation's item
pub record IsLaidAlready (claim : ClaimModel) (ops : List Op) (old new : Option Op) (items : List RowItem) : Type 0 where
  pub item : RowItem
  pub is : IsItemOf claim ops new (Some item)
  pub present : Contains items item
  pub place : optional_item_spot claim old ≡ Some (spot_of_item item)

-- the tree is ready for the exchange of the old operation's item for the new one's: the old item is there, nothing else
-- is where the new one belongs, and there is room
pub record MayBeChanged (claim : ClaimModel) (ops : List Op) (old new : Option Op) (line : ReadContents) : Type 0 where
  pub order : AreItemsInOrder line.items
  pub taken : HasItemAt (optional_item_spot claim old) line.items
  pub apart : (item : Option RowItem) → IsItemOf claim ops new item → IsFreeFor (optional_item_spot claim old) item line.items
  pub room : IsSome new → 0 < line.free
  pub kept : KeepsItsCover claim.kind old new → IsLaidAlready claim ops old new line.items

-- the items before and after: the old operation's is gone, the new one's has come, the others stay
pub record IsChanged (claim : ClaimModel) (ops : List Op) (old new : Option Op) (before after : List RowItem) : Type 0 where
  pub item : Option RowItem
  pub is : IsItemOf claim ops new item
  pub exchanged : IsExchanged (optional_item_spot claim old) item before after

-- the edit adds an unfinished write in place of no operation, and no write begins later
pub record ComesLastUnfinished (ops : List Op) (old new : Option Op) : Type 0 where
  pub none : old ≡ None
  pub write : Op
  pub is : new ≡ Some write
  pub writes : IsWrite write
  pub unfinished : write.end ≡ None
  pub last : NoneFits (BeginsAfter write.begin.0) ops

-- the cover before the write that comes, or none where that cover stays as it is (`ComesLastUnfinished`)
abbrev pub IsCoverBeforeNew : ClaimModel → List Op → Option Op → Option Op → Option RowItem → Type 0
IsCoverBeforeNew claim ops old new item = IsCoverBefore claim ops old new item ⊎ ((item ≡ None) × ComesLastUnfinished ops old new)

-- the tree has the items of the initial value and of the operations in `front`, and no others; of the number of places
-- it began with at most length front + 1 are used
pub record AreLaid (claim : ClaimModel) (ops front : List Op) (places : ℕ) (line : ReadContents) : Type 0 where
  pub only : (x : RowItem) → Contains line.items x → IsOperationItem claim ops x × ((spot_of_item x ≡ initial_place claim) ⊎ ((o : Op) × Contains front o × IsLaid o × (spot_of_item x ≡ place_in claim o)))
  pub initial : (x : RowItem) × Contains line.items x × (spot_of_item x ≡ initial_place claim)
  pub each : (o : Op) → Contains front o → IsLaid o → (x : RowItem) × Contains line.items x × (spot_of_item x ≡ place_in claim o)
  pub room : places ≤ line.free + (length front + 1)

-- the operations before op in the list have their items in the tree (`AreLaid`), so op is the next to be put in
abbrev pub IsNextOf : ClaimModel → List Op → ℕ → Op → ReadContents → Type 0
IsNextOf claim ops places op line = (front : List Op) × (rest : List Op) × (ops ≡ front ++ op ∷ rest) × AreLaid claim ops front places line
