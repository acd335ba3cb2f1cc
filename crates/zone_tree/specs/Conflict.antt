-- Conflicts in a list of zones that is sorted by their left edges.
use Rattle.std.specs.Prelude.{◌≡◌, All, Contains, List, ◌∷◌, ◌++◌}
use Rattle.std.specs.List.{AllPairs}
use Rattle.zone_tree.specs.declared.zone.Zone.{Zone}
use Rattle.zone_tree.specs.Edge.{ComesBefore}
use Rattle.zone_tree.specs.Zone.{IsForward, Conflicts}

-- no two zones of the list conflict
abbrev pub IsClean : List Zone → Type 0
IsClean zones = AllPairs (λ a b. ¬ Conflicts a b) zones

-- no zone of the list conflicts with a forward one before it
abbrev pub KeepsClearOfForward : List Zone → Type 0
KeepsClearOfForward zones = AllPairs (λ earlier later. IsForward earlier → ¬ Conflicts earlier later) zones

-- it is a forward zone of the list, and no forward zone there has a greater right edge
pub record IsFarthestForward (zones : List Zone) (zone : Zone) : Type 0 where
  pub present : Contains zones zone
  pub forward : IsForward zone
  pub farthest : All (λ other. IsForward other → ¬ ComesBefore zone.right other.right) zones

-- the second zone is the first of the list that conflicts with a forward one before it, and the first zone is of the
-- forward ones before it the one of greatest right edge
pub record IsFirstConflict (zones : List Zone) (first second : Zone) : Type 0 where
  pub earlier : List Zone
  pub later : List Zone
  pub parts : zones ≡ earlier ++ second ∷ later
  pub clear : KeepsClearOfForward earlier
  pub farthest : IsFarthestForward earlier first
  pub conflict : Conflicts first second
