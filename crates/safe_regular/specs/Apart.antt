-- Order in one writer's register, among its writes and among the ends of its reads; no public clause uses these words.
use Rattle.std.specs.Prelude.{◌≡◌, ◌<◌, List, Contains, IfSome}
use Rattle.intervals.specs.declared.operation.Op.{Op}
use Rattle.intervals.specs.Operation.{Precedes, IsWrite, IsJudgedRead}
use Rattle.intervals.specs.Judging.{end_number}

-- the operation's end, if it has one, is after its beginning
abbrev pub EndsAfterBeginning : Op → Type 0
EndsAfterBeginning op = IfSome op.end (λ end. op.begin.0 < end.0)

-- the writes follow one another: each ends, if at all, after it begins; of two the one that begins first precedes the
-- other; no two begin at one moment
pub record AreSequential (ops : List Op) : Type 0 where
  pub proper : (w : Op) → Contains ops w → IsWrite w → EndsAfterBeginning w
  pub apart : (v w : Op) → Contains ops v → Contains ops w → IsWrite v → IsWrite w → v.begin.0 < w.begin.0 → Precedes v w
  pub one : (v w : Op) → Contains ops v → Contains ops w → IsWrite v → IsWrite w → v.begin.0 ≡ w.begin.0 → v ≡ w

-- no two judged reads (reads that have an end) end at one moment
abbrev pub HasDistinctEnds : List Op → Type 0
HasDistinctEnds ops = (a b : Op) → Contains ops a → Contains ops b → IsJudgedRead a → IsJudgedRead b → end_number a ≡ end_number b → a ≡ b
