-- The keys by which an order of operations is sorted. For private clauses alone.
use Rattle.std.specs.Prelude.{not, List}
use Rattle.intervals.specs.declared.operation.Op.{Op}
use Rattle.intervals.specs.declared.operation.Value.{Value}
use Rattle.intervals.specs.Operation.{is_write}
use Rattle.zones.specs.declared.order.TurnKey.{TurnKey}
use Rattle.zones.specs.declared.order.OpInTurn.{OpInTurn}
use Rattle.zones.specs.Turn.{left_of}

-- the key of an operation: the left edge of the zone of its value, a write before reads, its beginning
abbrev pub turn_of : Value → List Op → Op → TurnKey
turn_of initial ops op = record { left = left_of initial ops op; is_read = not (is_write op); begin = op.begin }

-- an operation with its key (`turn_of`)
abbrev pub placed_of : Value → List Op → Op → OpInTurn
placed_of initial ops op = record { turn = turn_of initial ops op; op = op }
