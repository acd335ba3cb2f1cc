-- What a look-up among the writes finds; no public clause uses these words.
use Rattle.std.specs.Prelude.{◌≡◌, ℕ, ◌<◌, ◌≤◌, List, [], Contains, Option, Some, None, MatchBool}
use Rattle.std.specs.List.{cons_option}
use Rattle.intervals.specs.declared.operation.Op.{Op}
use Rattle.intervals.specs.Operation.{IsWrite, same_id}

-- the operation begins before the moment
abbrev pub BeginsBefore : ℕ → Op → Type 0
BeginsBefore moment w = w.begin.0 < moment

-- the operation begins at the moment or later
abbrev pub BeginsFrom : ℕ → Op → Type 0
BeginsFrom moment w = moment ≤ w.begin.0

-- the operation begins after the moment
abbrev pub BeginsAfter : ℕ → Op → Type 0
BeginsAfter moment w = moment < w.begin.0

-- a write of the list with property P, and no write of the list with P begins later
pub record IsLastWrite (P : Op → Type 0) (ops : List Op) (found : Op) : Type 0 where
  pub present : Contains ops found
  pub write : IsWrite found
  pub fits : P found
  pub last : (w : Op) → Contains ops w → IsWrite w → P w → w.begin.0 ≤ found.begin.0

-- a write of the list with property P, and no write of the list with P begins earlier
pub record IsFirstWrite (P : Op → Type 0) (ops : List Op) (found : Op) : Type 0 where
  pub present : Contains ops found
  pub write : IsWrite found
  pub fits : P found
  pub first : (w : Op) → Contains ops w → IsWrite w → P w → found.begin.0 ≤ w.begin.0

-- no write of the list has property P
abbrev pub NoneFits : (Op → Type 0) → List Op → Type 0
NoneFits P ops = (w : Op) → Contains ops w → IsWrite w → ¬ P w

-- the last write to begin of those with property P, or none where no write has P
abbrev pub IsLastOf : (Op → Type 0) → List Op → Option Op → Type 0
IsLastOf P ops None = NoneFits P ops
IsLastOf P ops (Some found) = IsLastWrite P ops found

-- the first write to begin of those with property P, or none where no write has P
abbrev pub IsFirstWriteOf : (Op → Type 0) → List Op → Option Op → Type 0
IsFirstWriteOf P ops None = NoneFits P ops
IsFirstWriteOf P ops (Some found) = IsFirstWrite P ops found

-- `beyond` is the first write to begin after `above`, or none; it is none where `above` is not there or has another id
-- than op
abbrev pub IsBeyondOf : List Op → Op → Option Op → Option Op → Type 0
IsBeyondOf ops op None beyond = beyond ≡ None
IsBeyondOf ops op (Some above) beyond = MatchBool (same_id above.id op.id) (IsFirstWriteOf (BeginsAfter above.begin.0) ops beyond) (beyond ≡ None)

-- the optional writes by which a write op is checked: the last to begin before op; the first to begin with op or later;
-- and, where that one has the id of op, the next one
pub record AreBeside (ops : List Op) (op : Op) (below above beyond : Option Op) : Type 0 where
  pub below_is : IsLastOf (BeginsBefore op.begin.0) ops below
  pub above_is : IsFirstWriteOf (BeginsFrom op.begin.0) ops above
  pub beyond_is : IsBeyondOf ops op above beyond

-- those of three optional operations that are there, as a list
abbrev pub beside_of : Option Op → Option Op → Option Op → List Op
beside_of below above beyond = cons_option below (cons_option above (cons_option beyond []))
