-- How far right the marks of a picture are.
use Rattle.std.specs.Prelude.{◌≡◌, ◌+◌, ◌++◌, ◌<◌, ℕ, All, List, drop, length}
use Rattle.std.specs.List.Sorted.{IsNonDecreasing}
use Rattle.timeline.specs.declared.place.Want.{Want}
use Rattle.timeline.specs.Place.{AreSpaced, IsDistanceKept}
use Rattle.timeline.specs.Row.{AreRowsUpTo}
use Rattle.show.specs.declared.measure.Measure.{Measure}
use Rattle.show.specs.declared.scene.Scene.{Scene}
use Rattle.show.specs.declared.layout.Layout.{Layout}
use Rattle.show.specs.Measure.{wanted_of}

-- the places of the scene's marks, in order, and last of the right edge: each at least its step right of the one
-- before it, and the marks of each bar at least as far apart as its label needs
pub record ArePlaced (measure : Measure) (scene : Scene) (places : List ℕ) : Type 0 where
  pub steps : List ℕ
  pub wants : List Want
  pub others : List Want
  pub many : length places ≡ length scene.marks.items + 1
  pub as_many : length places ≡ length steps
  pub apart : AreSpaced steps places
  pub rising : IsNonDecreasing places
  pub positive : 0 < measure.gap → 0 < measure.last → All (λ step. 0 < step) (drop 1 steps)
  pub of_labels : wants ≡ wanted_of measure (length scene.marks.items) scene.labels.items 0 scene.spans.items ++ others
  pub kept : All (IsDistanceKept places) wants

-- the layout of the scene in rows of this width, by this measure except for the room before the first mark
pub record IsLayout (measure : Measure) (width : ℕ) (scene : Scene) (layout : Layout) : Type 0 where
  pub scene_is : layout.scene.now ≡ scene
  pub first : ℕ
  pub places : ArePlaced (record measure { first = first }) scene layout.places.items
  pub rows : AreRowsUpTo layout.places.items width layout.starts.items (length scene.marks.items)
