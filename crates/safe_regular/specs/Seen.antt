-- The writes that decide how a read is judged, and the edits that leave it alone; no public clause uses these words.
use Rattle.std.specs.Prelude.{◌≡◌, ◌≤◌, ◌⊎◌, List, Contains, Option, Some, None}
use Rattle.intervals.specs.declared.operation.Op.{Op}
use Rattle.intervals.specs.Operation.{Precedes, Overlaps, IsWrite, value_of}
use Rattle.intervals.specs.Judging.{end_number}

-- the other list has what the read sees of the write w: w itself where it precedes the read, and a write of w's value
-- that overlaps the read where w does
pub record IsSeenIn (r : Op) (others : List Op) (w : Op) : Type 0 where
  pub before : Precedes w r → Contains others w
  pub over : Overlaps w r → (v : Op) × Contains others v × IsWrite v × Overlaps v r × (value_of v.act ≡ value_of w.act)

-- the other list has what the read sees of each write of the first list (`IsSeenIn`)
abbrev pub AreSeenIn : Op → List Op → List Op → Type 0
AreSeenIn r ops others = (w : Op) → Contains ops w → IsWrite w → IsSeenIn r others w

-- the optional operation begins when the read ends or later, if it is a write
abbrev pub BeginsAfterRead : Op → Option Op → Type 0
BeginsAfterRead r None = Unit {0}
BeginsAfterRead r (Some w) = IsWrite w → end_number r ≤ w.begin.0

-- both optional operations are there, they are writes of one beginning and value, and neither precedes the read
pub record AreOneTo (r : Op) (old new : Option Op) : Type 0 where
  pub o : Op
  pub n : Op
  pub old_is : old ≡ Some o
  pub new_is : new ≡ Some n
  pub old_writes : IsWrite o
  pub new_writes : IsWrite n
  pub begin : o.begin.0 ≡ n.begin.0
  pub value : value_of o.act ≡ value_of n.act
  pub old_not : ¬ Precedes o r
  pub new_not : ¬ Precedes n r

-- an edit from `old` to `new` cannot change how the read is judged: no write of the two begins before the read ends, or
-- both are one write to it (`AreOneTo`)
abbrev pub LeavesAlone : Op → Option Op → Option Op → Type 0
LeavesAlone r old new = (BeginsAfterRead r old × BeginsAfterRead r new) ⊎ AreOneTo r old new
