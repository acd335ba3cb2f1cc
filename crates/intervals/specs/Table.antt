-- The operations of a register in slots, and the one that there is room for.
use Rattle.std.specs.Prelude.{◌≡◌, ◌<◌, ℕ, true, List, [], ◌∷◌, Option, Some, None, Vec, slice_index_or, vec_capacity, vec_len}
use Rattle.std.specs.declared.alloc.Global.{Global}
use Rattle.std.specs.declared.cmp.Ordering.{Ordering}
use Rattle.intervals.specs.declared.operation.Op.{Op}
use Rattle.intervals.specs.declared.operation.OpId.{OpId}
use Rattle.intervals.specs.declared.operation.Moment.{Moment}
use Rattle.intervals.specs.declared.edit.Edit.{Edit}
use Rattle.intervals.specs.declared.rising.RisingMap.{RisingMap}
use Rattle.intervals.specs.contracts.operation.OpIdOrd.TheImpl as id_ord
use Rattle.intervals.specs.Operation.{same_id}
use Rattle.intervals.specs.Edit.{edited, new_op}
use Rattle.intervals.specs.Refusal.{is_moment_of}
use Rattle.intervals.specs.Rising.{HasRoom, IsInOrder, value_at}

-- what a table holds: the operations that stand, in the order of their appends, and an optional one that has room
pub record TableModel : Type 0 where
  pub ops : List Op
  pub prepared : Option Op

-- the operations in the slots, in their order; empty slots are left out
abbrev pub ops_in_slots : List (Option Op) → List Op
ops_in_slots [] = []
ops_in_slots (None ∷ slots) = ops_in_slots slots
ops_in_slots (Some op ∷ slots) = op ∷ ops_in_slots slots

-- the optional operation that room is kept for after an edit: none where the edit makes one, else as before
abbrev pub prepared_after : Option Op → Option Op → Option Op
prepared_after None prepared = prepared
prepared_after (Some op) prepared = None

-- the table after an accepted edit: its operations as `edited`, and the room used where the edit makes an operation
abbrev pub admitted : TableModel → Edit → TableModel
admitted table edit = record { ops = edited table.ops edit; prepared = prepared_after (new_op table.ops edit) table.prepared }

-- the operation in the slot of this index; none where the slot is empty or past the end
abbrev pub slot_at : List (Option Op) → ℕ → Option Op
slot_at slots i = slice_index_or slots i None

-- each operation in a slot is found by its id and by its moments, and nothing else is found
pub record IsIndexed (at : ℕ → Option Op) (place : OpId → Option ℕ) (holder : Moment → Option OpId) : Type 0 where
  pub placed : (i : ℕ) (op : Op) → at i ≡ Some op → place op.id ≡ Some i
  pub there : (id : OpId) (i : ℕ) → place id ≡ Some i → (op : Op) × (at i ≡ Some op) × (same_id op.id id ≡ true)
  pub held : (i : ℕ) (op : Op) (moment : Moment) → at i ≡ Some op → is_moment_of op moment ≡ true → holder moment ≡ Some op.id
  pub holds : (moment : Moment) (id : OpId) → holder moment ≡ Some id → (i : ℕ) × (op : Op) × (at i ≡ Some op) × (is_moment_of op moment ≡ true) × (op.id ≡ id)

-- the order of ids: by feeder, then by event
abbrev pub id_cmp : OpId → OpId → Ordering
id_cmp = (id_ord.ghosts).cmp

-- the map from ids to slots is in order (`IsInOrder`)
abbrev pub AreSlots : RisingMap OpId ℕ → Type 0
AreSlots places = IsInOrder same_id id_cmp places

-- the index of the slot of the id, or none
abbrev pub slot_of_id : RisingMap OpId ℕ → OpId → Option ℕ
slot_of_id places id = value_at same_id places id

-- there is room for one more operation: for a slot, for an id and for two moments
abbrev pub HasSlotRoom : Vec (Option Op) Global → RisingMap OpId ℕ → RisingMap Moment OpId → Type 0
HasSlotRoom slots places moments = (vec_len slots < vec_capacity slots) × HasRoom places 1 × HasRoom moments 2
