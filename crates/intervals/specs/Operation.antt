-- Operations on one clock: Lamport 1986, with one global time in place of his two relations.
use Rattle.std.specs.Prelude.{◌<◌, Bool, true, false, not, ◌&&◌, ◌||◌, ◌==◌, nat_lt, List, Option, Some, None, IsTrue, is_some, filter}
use Rattle.std.specs.Ordering.{int_eq}
use Rattle.intervals.specs.declared.operation.Op.{Op}
use Rattle.intervals.specs.declared.operation.OpId.{OpId}
use Rattle.intervals.specs.declared.operation.Moment.{Moment}
use Rattle.intervals.specs.declared.operation.Act.{Act}
use Rattle.intervals.specs.declared.operation.Act.TheVariants.{Read, Write}
use Rattle.intervals.specs.declared.operation.Value.{Value}
use Rattle.intervals.specs.declared.operation.Value.TheVariants.{Nil, Int}

-- the optional end is before the moment; where there is no end this is false
abbrev pub EndsBefore : Option Moment → Moment → Type 0
EndsBefore None moment = ⊥
EndsBefore (Some end) moment = end.0 < moment.0

-- the first operation ended before the second began
abbrev pub Precedes : Op → Op → Type 0
Precedes a b = EndsBefore a.end b.begin

-- neither of two operations ended before the other began
abbrev pub Overlaps : Op → Op → Type 0
Overlaps a b = ¬ Precedes a b × ¬ Precedes b a

-- the test for `EndsBefore`: the optional end is before the moment
abbrev pub ends_before : Option Moment → Moment → Bool
ends_before None moment = false
ends_before (Some end) moment = nat_lt end.0 moment.0

-- the test for `Precedes`: the first operation ended before the second began
abbrev pub precedes : Op → Op → Bool
precedes a b = ends_before a.end b.begin

-- the test for `Overlaps`: neither of two operations ended before the other began
abbrev pub overlaps : Op → Op → Bool
overlaps a b = not (precedes a b) && not (precedes b a)

-- whether the act is a write
abbrev pub is_write_act : Act → Bool
is_write_act (Read v) = false
is_write_act (Write v) = true

-- whether the operation is a write
abbrev pub is_write : Op → Bool
is_write a = is_write_act a.act

-- the operation is a write
abbrev pub IsWrite : Op → Type 0
IsWrite a = IsTrue (is_write a)

-- the value that the act reads or writes
abbrev pub value_of : Act → Value
value_of (Read v) = v
value_of (Write v) = v

-- whether two values are equal
abbrev pub same_value : Value → Value → Bool
same_value Nil Nil = true
same_value Nil (Int y) = false
same_value (Int x) Nil = false
same_value (Int x) (Int y) = int_eq x y

-- whether two ids are equal
abbrev pub same_id : OpId → OpId → Bool
same_id a b = (a.feeder == b.feeder) && (a.event == b.event)

-- whether the operation is a read that has an end
abbrev pub is_judged_read : Op → Bool
is_judged_read a = not (is_write a) && is_some a.end

-- the operation is a read that has an end
abbrev pub IsJudgedRead : Op → Type 0
IsJudgedRead a = IsTrue (is_judged_read a)

-- of the operations those that a verdict is about: all writes, and the reads that have an end
abbrev pub judged : List Op → List Op
judged ops = filter (λ a. is_write a || is_some a.end) ops

-- of the operations the writes
abbrev pub writes : List Op → List Op
writes ops = filter is_write ops
