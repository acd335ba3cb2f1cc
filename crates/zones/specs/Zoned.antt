-- The zones of a register in a tree, and what an edit does to them. For private clauses alone.
use Rattle.std.specs.Prelude.{◌≡◌, ◌≢◌, ◌≤◌, ◌⊎◌, Bool, false, Contains, List, Option, Some, None, IsNone, IsSome, IfSome, option_map, ◌||◌, is_some, if◌then◌else◌}
use Rattle.intervals.specs.declared.operation.Op.{Op}
use Rattle.intervals.specs.declared.operation.Value.{Value}
use Rattle.intervals.specs.Operation.{is_write, value_of, same_value}
use Rattle.intervals.specs.declared.claim.Kind.TheVariants.{Atomic}
use Rattle.intervals.specs.Standing.{StandApart}
use Rattle.intervals.specs.Terms.{ClaimModel, state_of}
use Rattle.zone_tree.specs.declared.edge.Edge.{Edge}
use Rattle.zone_tree.specs.declared.zone.Zone.{Zone}
use Rattle.zone_tree.specs.Edge.{edge_before, same_edge}
use Rattle.zone_tree.specs.Order.{ZoneContents}
use Rattle.zone_tree.specs.Zone.{HasOrderedEdges}
use Rattle.zones.specs.Cluster.{written_zone}
use Rattle.zones.specs.Members.{HasWrite}
use Rattle.zones.specs.Moves.{AreChanges, AreNew, KeepsRoom, Shape}

-- the operations are those of an atomic register, with what the reply rule keeps of them (`StandApart`)
pub record AreManyWriters (claim : ClaimModel) (ops : List Op) : Type 0 where
  pub atomic : claim.kind ≡ Atomic
  pub kept : StandApart (state_of claim ops)

-- an optional operation where it is judged (a write, or a read that has an end), else none
abbrev pub judged_part : Option Op → Option Op
judged_part None = None
judged_part (Some op) = if is_write op || is_some op.end then Some op else None

-- the value of an optional operation, or none
abbrev pub value_in : Option Op → Option Value
value_in op = option_map (λ op. value_of op.act) op

-- the second of two optional values where it is not the first, else none
abbrev pub other_value : Option Value → Option Value → Option Value
other_value None second = second
other_value (Some first) None = None
other_value (Some first) (Some second) = if same_value first second then None else Some second

-- the test whether the optional value is this one
abbrev pub is_that : Option Value → Value → Bool
is_that None value = false
is_that (Some initial) value = same_value initial value

-- a register may begin with `start`: it is the optional initial value; where there is none, it is not `value`
abbrev pub MayStart : Option Value → Value → Value → Type 0
MayStart None start value = value ≢ start
MayStart (Some initial) start value = start ≡ initial

-- the optional zone is that of the value, and there is one exactly where some write has the value
pub record IsZoneAt (ops : List Op) (value : Value) (found : Option Zone) : Type 0 where
  pub zone : IfSome found (λ zone. zone ≡ written_zone ops value)
  pub none : IsNone found → ¬ HasWrite ops value
  pub some : IsSome found → HasWrite ops value

-- the optional zone is that of the optional value (`IsZoneAt`); none where there is no value
abbrev pub IsZoneAtSome : List Op → Option Value → Option Zone → Type 0
IsZoneAtSome ops None found = found ≡ None
IsZoneAtSome ops (Some value) found = IsZoneAt ops value found

-- the zones are those of the values that some write has, and no others
pub record AreZoned (ops : List Op) (zones : List Zone) : Type 0 where
  pub each : (value : Value) → HasWrite ops value → Contains zones (written_zone ops value)
  pub only : (zone : Zone) → Contains zones zone → HasWrite ops zone.value × (zone ≡ written_zone ops zone.value)

-- the two optional zones are those of two optional values (`IsZoneAt`)
pub record AreZonesAt (ops : List Op) (first second : Option Value) (found : Option Zone × Option Zone) : Type 0 where
  pub one : IsZoneAtSome ops first found.0
  pub other : IsZoneAtSome ops second found.1

-- zones as the items of a tree: the key is the left edge, and a zone may be there whose edges are in order
abbrev pub zone_shape : Shape Zone Edge
zone_shape = record { key = λ z. z.left; before = edge_before; same = same_edge; value = λ z. z.value; MayStand = HasOrderedEdges }

-- two optional zones can go and two come: those that come are new, and the tree has two free places or needs none
pub record CanMove (tree : ZoneContents) (gone come : Option Zone × Option Zone) : Type 0 where
  pub room : (2 ≤ tree.free) ⊎ KeepsRoom tree.zones gone come
  pub new : AreNew zone_shape tree.zones gone come

-- two optional zones can be exchanged for two others, whichever of them stay (`CanMove`)
abbrev pub CanExchange : ZoneContents → Option Zone × Option Zone → Option Zone × Option Zone → Type 0
CanExchange tree before after = (gone come : Option Zone × Option Zone) → AreChanges before after gone come → CanMove tree gone come

-- an exchange of two optional zones for two others needs no free place, whichever of them stay (`KeepsRoom`)
abbrev pub NeedsNoRoom : List Zone → Option Zone × Option Zone → Option Zone × Option Zone → Type 0
NeedsNoRoom zones before after = (gone come : Option Zone × Option Zone) → AreChanges before after gone come → KeepsRoom zones gone come
