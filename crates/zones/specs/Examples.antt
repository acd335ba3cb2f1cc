-- Worked histories of many writers, small enough to judge by eye.
use Rattle.std.specs.Prelude.{ℕ, true, false, List, [], ◌∷◌, None}
use Rattle.intervals.specs.declared.operation.Op.{Op}
use Rattle.intervals.specs.declared.operation.Act.TheVariants.{Read, Write}
use Rattle.intervals.specs.declared.operation.Value.{Value}
use Rattle.intervals.specs.declared.operation.Value.TheVariants.{Nil}
use Rattle.intervals.specs.declared.claim.Kind.TheVariants.{Atomic}
use Rattle.intervals.specs.Histories.{number, plain_claim, op, from_to}
use Rattle.intervals.specs.Terms.{ClaimModel}
use Rattle.zone_tree.specs.declared.edge.Edge.{Edge}
use Rattle.zone_tree.specs.declared.edge.Edge.TheVariants.{At}
use Rattle.zone_tree.specs.declared.zone.Zone.{Zone}

-- the edge at moment n
abbrev pub at : ℕ → Edge
at n = At (record { 0 = n })

-- a forward zone of the value, with these edges
abbrev pub forward : Edge → Edge → Value → Zone
forward left right value = record { left = left; right = right; forward = true; value = value }

-- a backward zone of the value, with these edges
abbrev pub backward : Edge → Edge → Value → Zone
backward left right value = record { left = left; right = right; forward = false; value = value }

-- a read of nil from 2 to 9 and one from 7 to 8; no operation writes nil
abbrev pub reads_of_nil : List Op
reads_of_nil = from_to 0 (Read Nil) 2 9 ∷ from_to 1 (Read Nil) 7 8 ∷ []

-- a write of 1 from 0 to 1
abbrev pub write_alone : List Op
write_alone = from_to 0 (Write (number 1)) 0 1 ∷ []

-- a write of 1 from 0 to 1, and then a read of 1 from 6 to 7
abbrev pub read_after : List Op
read_after = from_to 0 (Write (number 1)) 0 1 ∷ from_to 1 (Read (number 1)) 6 7 ∷ []

-- a write of 1 from 2 to 9, and a read of 1 within it, from 4 to 5
abbrev pub read_within : List Op
read_within = from_to 0 (Write (number 1)) 2 9 ∷ from_to 1 (Read (number 1)) 4 5 ∷ []

-- a write of 1 that begins at 0 and has no end
abbrev pub never_ended : List Op
never_ended = op 0 (Write (number 1)) 0 None ∷ []

-- a write of 1 that begins at 0 and has no end, and a read of 1 from 5 to 6
abbrev pub never_ended_and_read : List Op
never_ended_and_read = op 0 (Write (number 1)) 0 None ∷ from_to 1 (Read (number 1)) 5 6 ∷ []

-- a read of 2 from 2 to 3
abbrev pub unwritten_read : Op
unwritten_read = from_to 2 (Read (number 2)) 2 3

-- a write of 1, and then a read of 2, which nothing writes
abbrev pub read_of_nothing : List Op
read_of_nothing = from_to 0 (Write (number 1)) 0 1 ∷ unwritten_read ∷ []

-- a read of 1 from 0 to 1
abbrev pub early_read : Op
early_read = from_to 0 (Read (number 1)) 0 1

-- a write of 1 from 2 to 3
abbrev pub late_write : Op
late_write = from_to 2 (Write (number 1)) 2 3

-- a read of 1, and then the write of 1
abbrev pub read_before_write : List Op
read_before_write = early_read ∷ late_write ∷ []

-- a write of 1 from 0 to 1
abbrev pub first_write : Op
first_write = from_to 0 (Write (number 1)) 0 1

-- a read of 2 from 4 to 5
abbrev pub second_read : Op
second_read = from_to 3 (Read (number 2)) 4 5

-- a read of 1 from 6 to 7
abbrev pub first_read : Op
first_read = from_to 5 (Read (number 1)) 6 7

-- a read of nil from 2 to 3
abbrev pub nil_read : Op
nil_read = from_to 2 (Read Nil) 2 3

-- a write of 1, and then a read of nil
abbrev pub back_to_nil : List Op
back_to_nil = first_write ∷ nil_read ∷ []

-- the claim of an atomic register with any writers, whose initial value nobody knows
abbrev pub unknown : ClaimModel
unknown = record (plain_claim Atomic Nil None) { known = false }

-- a read of 7 from 0 to 1
abbrev pub read_of_seven : Op
read_of_seven = from_to 0 (Read (number 7)) 0 1

-- a write of 1 from 2 to 3
abbrev pub one_written : Op
one_written = from_to 2 (Write (number 1)) 2 3

-- a read of 1 from 4 to 5
abbrev pub one_read : Op
one_read = from_to 4 (Read (number 1)) 4 5

-- a read of 7, then a write of 1, then a read of 1
abbrev pub seven_and_one : List Op
seven_and_one = read_of_seven ∷ one_written ∷ one_read ∷ []

-- a read of 8 from 6 to 7
abbrev pub read_of_eight : Op
read_of_eight = from_to 6 (Read (number 8)) 6 7

-- a read of 7 from 6 to 7
abbrev pub late_seven : Op
late_seven = from_to 6 (Read (number 7)) 6 7

-- a write of 7 from 8 to 9
abbrev pub seven_written : Op
seven_written = from_to 8 (Write (number 7)) 8 9
