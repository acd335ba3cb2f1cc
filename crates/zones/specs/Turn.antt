-- The order in which the operations of a faultless register are given.
use Rattle.std.specs.Prelude.{◌≡◌, ◌≤◌, List, [], ◌∷◌, map}
use Rattle.std.specs.List.{AllByRecursion}
use Rattle.intervals.specs.declared.operation.Op.{Op}
use Rattle.intervals.specs.declared.operation.OpId.{OpId}
use Rattle.intervals.specs.declared.operation.Value.{Value}
use Rattle.intervals.specs.Terms.{ClaimModel}
use Rattle.intervals.specs.Kind.{Arranges}
use Rattle.intervals.specs.Operation.{IsWrite, is_write, value_of}
use Rattle.zone_tree.specs.declared.edge.Edge.{Edge}
use Rattle.zone_tree.specs.Edge.{ComesBefore}
use Rattle.zones.specs.Cluster.{zone_of}

-- the left edge of the zone of the operation's value
abbrev pub left_of : Value → List Op → Op → Edge
left_of initial ops op = (zone_of initial ops (value_of op.act)).left

-- x may come before y in an order: its zone begins no later; of one value the write comes first, and the reads by their
-- beginnings
pub record StandInTurn (initial : Value) (ops : List Op) (x y : Op) : Type 0 where
  pub by_zone : ¬ ComesBefore (left_of initial ops y) (left_of initial ops x)
  pub write_first : value_of x.act ≡ value_of y.act → IsWrite y → IsWrite x
  pub by_beginning : value_of x.act ≡ value_of y.act → is_write x ≡ is_write y → x.begin.0 ≤ y.begin.0

-- the order has the clusters by the left edges of their zones, in each the write and then its reads by their beginnings
abbrev pub IsInTurn : Value → List Op → List Op → Type 0
IsInTurn initial ops [] = Unit {0}
IsInTurn initial ops (x ∷ later) = AllByRecursion (StandInTurn initial ops x) later × IsInTurn initial ops later

-- the ids of an arrangement of the operations that is in turn (`IsInTurn`)
pub record IsOrder (claim : ClaimModel) (ops : List Op) (ids : List OpId) : Type 0 where
  pub order : List Op
  pub named : ids ≡ map (λ op. op.id) order
  pub arranges : Arranges claim ops order
  pub in_turn : IsInTurn claim.initial ops order
