-- Writes found by their beginnings; no public clause uses these words.
use Rattle.std.specs.Prelude.{◌≡◌, ◌<◌, List, Contains, Option, Some, None}
use Rattle.intervals.specs.declared.operation.Op.{Op}
use Rattle.intervals.specs.declared.operation.OpId.{OpId}
use Rattle.intervals.specs.declared.operation.Moment.{Moment}
use Rattle.intervals.specs.Operation.{IsWrite}

-- `at` maps the beginning of each write to the write's id, and each other moment to none
pub record IsIndex (ops : List Op) (at : Moment → Option OpId) : Type 0 where
  pub there : (w : Op) → Contains ops w → IsWrite w → at w.begin ≡ Some w.id
  pub back : (m : Moment) (id : OpId) → at m ≡ Some id → (w : Op) × Contains ops w × IsWrite w × (w.begin ≡ m) × (w.id ≡ id)

-- m is the last of the moments that have property Q and an id, and its id is the given one
pub record IsLastAt (Q : Moment → Type 0) (at : Moment → Option OpId) (m : Moment) (id : OpId) : Type 0 where
  pub here : Q m
  pub present : at m ≡ Some id
  pub last : (n : Moment) → Q n → m.0 < n.0 → at n ≡ None

-- m is the first of the moments that have property Q and an id, and its id is the given one
pub record IsFirstAt (Q : Moment → Type 0) (at : Moment → Option OpId) (m : Moment) (id : OpId) : Type 0 where
  pub here : Q m
  pub present : at m ≡ Some id
  pub first : (n : Moment) → Q n → n.0 < m.0 → at n ≡ None
