-- Stretches in the order of their ends.
use Rattle.std.specs.Prelude.{ℕ, ◌≢◌, Bool, not, nat_lt, IsTrue, All, List, ◌∷◌, ◌++◌, Option, filter, find}
use Rattle.std.specs.List.{AllPairs}
use Rattle.intervals.specs.declared.operation.Moment.{Moment}
use Rattle.intervals.specs.Moments.{same_moment}
use Rattle.zone_tree.specs.declared.stretch.Stretch.{Stretch}

-- what a tree holds: its stretches by end, and how many more it has places for
pub record StretchContents : Type 0 where
  pub stretches : List Stretch
  pub free : ℕ

-- whether the first moment is before the second
abbrev pub moment_before : Moment → Moment → Bool
moment_before a b = nat_lt a.0 b.0

-- each stretch of the list ends before all later ones
abbrev pub AreByEnd : List Stretch → Type 0
AreByEnd stretches = AllPairs (λ a b. IsTrue (moment_before a.end b.end)) stretches

-- no stretch of the list ends at this moment
abbrev pub HasNoStretchAt : Moment → List Stretch → Type 0
HasNoStretchAt end stretches = All (λ s. s.end ≢ end) stretches

-- the stretches that end before this moment
abbrev pub stretches_below : Moment → List Stretch → List Stretch
stretches_below end stretches = filter (λ s. moment_before s.end end) stretches

-- the stretches that end after this moment
abbrev pub stretches_above : Moment → List Stretch → List Stretch
stretches_above end stretches = filter (λ s. moment_before end s.end) stretches

-- the stretches and one more, in its place by end
abbrev pub with_stretch : Stretch → List Stretch → List Stretch
with_stretch stretch stretches = stretches_below stretch.end stretches ++ stretch ∷ stretches_above stretch.end stretches

-- the first stretch of the list that ends at this moment, or none
abbrev pub stretch_at : Moment → List Stretch → Option Stretch
stretch_at end stretches = find (λ s. same_moment s.end end) stretches

-- the stretches that do not end at this moment
abbrev pub without_stretch_at : Moment → List Stretch → List Stretch
without_stretch_at end stretches = filter (λ s. not (same_moment s.end end)) stretches
