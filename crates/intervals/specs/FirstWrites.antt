-- The first write of each value. No public clause speaks of these words.
use Rattle.std.specs.Prelude.{◌≡◌, Bool, ◌&&◌, List, find, option_map}
use Rattle.intervals.specs.declared.operation.Op.{Op}
use Rattle.intervals.specs.declared.operation.Value.{Value}
use Rattle.intervals.specs.declared.ordered_index.OrderedIndex.{OrderedIndex}
use Rattle.intervals.specs.Operation.{is_write, same_value, value_of}
use Rattle.intervals.specs.OrderedIndex.{id_at, spot_of}

-- whether the operation is a write of the value
abbrev pub writes_value : Value → Op → Bool
writes_value value w = is_write w && same_value (value_of w.act) value

-- at the spot of each value and moment 0 the index has the id of the first write of the value in the list, or none
abbrev pub AreFirst : OrderedIndex → List Op → Type 0
AreFirst shelf ops = (value : Value) → id_at shelf (spot_of value (record { 0 = 0 })) ≡ option_map (λ w. w.id) (find (writes_value value) ops)
