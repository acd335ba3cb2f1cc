-- Worked traces, of which each element is the moment that it carries, or none.
use Rattle.std.specs.Prelude.{ℕ, List, [], ◌∷◌, Option, Some, None}
use Rattle.intervals.specs.declared.operation.Moment.{Moment}

-- the moment of this number
abbrev pub at_moment : ℕ → Option Moment
at_moment number = Some (record { 0 = number })

-- three traces: each of the first two begins with an element that carries no moment, and has the moment 3; the moments of
-- the third fall
abbrev pub worked_traces : List (List (Option Moment))
worked_traces =
    (None ∷ at_moment 3 ∷ None ∷ at_moment 5 ∷ [])
    ∷ (None ∷ at_moment 3 ∷ None ∷ at_moment 4 ∷ [])
    ∷ (at_moment 9 ∷ at_moment 1 ∷ [])
    ∷ []

-- their one order, each element with the number of its trace
abbrev pub worked_order : List (ℕ × Option Moment)
worked_order =
    (0, None)
    ∷ (1, None)
    ∷ (0, at_moment 3)
    ∷ (0, None)
    ∷ (1, at_moment 3)
    ∷ (1, None)
    ∷ (1, at_moment 4)
    ∷ (0, at_moment 5)
    ∷ (2, at_moment 9)
    ∷ (2, at_moment 1)
    ∷ []
