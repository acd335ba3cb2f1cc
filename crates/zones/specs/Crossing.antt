-- Four operations that no arrangement can order, and the four that a conflict names.
use Rattle.std.specs.Prelude.{◌≡◌, ◌≢◌, List, Option, Some, None, Contains, IsPermutation}
use Rattle.intervals.specs.declared.operation.Op.{Op}
use Rattle.intervals.specs.declared.operation.Value.{Value}
use Rattle.intervals.specs.Operation.{Precedes, value_of, judged}
use Rattle.zone_tree.specs.declared.edge.Edge.TheVariants.{At}
use Rattle.zone_tree.specs.declared.zone.Zone.{Zone}
use Rattle.zone_tree.specs.Order.{IsByLeft}
use Rattle.zone_tree.specs.Conflict.{IsFirstConflict}
use Rattle.zones.specs.Cluster.{edge_of_end, cluster_of, least_end_of, greatest_begin_of, zones_from}

-- the value of an optional operation; none is the initial write, whose value is the initial one
abbrev pub value_at : Value → Option Op → Value
value_at initial None = initial
value_at initial (Some op) = value_of op.act

-- the optional operation is one of the judged ones; none is the initial write, which counts as one
abbrev pub StandsJudged : List Op → Option Op → Type 0
StandsJudged ops None = Unit {0}
StandsJudged ops (Some op) = Contains (judged ops) op

-- the first, optional operation ends before the second begins; none is the initial write, which ended before every
-- moment
abbrev pub HasEndedBefore : Option Op → Op → Type 0
HasEndedBefore None b = Unit {0}
HasEndedBefore (Some a) b = Precedes a b

-- a crossing: a and d have one value, b and c another, a ends before b begins, and c before d begins; a or c may be
-- none, the initial write
pub record IsCrossing (initial : Value) (ops : List Op) (a : Option Op) (b : Op) (c : Option Op) (d : Op) : Type 0 where
  pub a_present : StandsJudged ops a
  pub b_present : Contains (judged ops) b
  pub c_present : StandsJudged ops c
  pub d_present : Contains (judged ops) d
  pub one_value : value_at initial a ≡ value_of d.act
  pub other_value : value_at initial c ≡ value_of b.act
  pub apart : value_of b.act ≢ value_of d.act
  pub a_before_b : HasEndedBefore a b
  pub c_before_d : HasEndedBefore c d

-- the optional operation has the least end in the cluster of the value; none is the initial write, which has it in that
-- of the initial value
abbrev pub HasLeastEnd : Value → List Op → Value → Option Op → Type 0
HasLeastEnd initial ops value None = value ≡ initial
HasLeastEnd initial ops value (Some op) = Contains (cluster_of ops value) op × (edge_of_end op.end ≡ least_end_of initial ops value)

-- the operation has the greatest beginning in the cluster of the value
abbrev pub HasGreatestBegin : Value → List Op → Value → Op → Type 0
HasGreatestBegin initial ops value op = Contains (cluster_of ops value) op × (At op.begin ≡ greatest_begin_of initial ops value)

-- in the cluster of `one`, a has the least end and d the greatest beginning; in that of `other`, c has the least end
-- and b the greatest beginning
pub record AreExtremes (initial : Value) (ops : List Op) (one other : Value) (a : Option Op) (b : Op) (c : Option Op) (d : Op) : Type 0 where
  pub a_least : HasLeastEnd initial ops one a
  pub b_greatest : HasGreatestBegin initial ops other b
  pub c_least : HasLeastEnd initial ops other c
  pub d_greatest : HasGreatestBegin initial ops one d

-- the two zones are the first conflict (`IsFirstConflict`) of the register's zones by left edge; the initial value is
-- optional
pub record HasFirstConflictFrom (initial : Option Value) (ops : List Op) (first second : Zone) : Type 0 where
  pub zones : List Zone
  pub each_once : IsPermutation (zones_from initial ops) zones
  pub by_left : IsByLeft zones
  pub conflict : IsFirstConflict zones first second

-- the two zones are the first conflict (`IsFirstConflict`) of the register's zones by left edge, from this initial
-- value
abbrev pub HasFirstConflict : Value → List Op → Zone → Zone → Type 0
HasFirstConflict initial ops first second = HasFirstConflictFrom (Some initial) ops first second

-- a, b, c and d are the extremes of the clusters of the first conflict; the initial value is optional, and `start` is
-- the value that the register begins with
pub record IsFirstCrossingFrom (initial : Option Value) (start : Value) (ops : List Op) (a : Option Op) (b : Op) (c : Option Op) (d : Op) : Type 0 where
  pub first : Zone
  pub second : Zone
  pub conflict : HasFirstConflictFrom initial ops first second
  pub extremes : AreExtremes start ops first.value second.value a b c d

-- a, b, c and d are the extremes of the clusters of the first conflict, from this initial value
abbrev pub IsFirstCrossing : Value → List Op → Option Op → Op → Option Op → Op → Type 0
IsFirstCrossing initial ops a b c d = IsFirstCrossingFrom (Some initial) initial ops a b c d
