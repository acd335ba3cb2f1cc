-- The cluster of a value and its zone: Gibbons and Korach 1997.
use Rattle.std.specs.Prelude.{Bool, true, false, List, [], ◌∷◌, map, filter, Option, Some, None, if◌then◌else◌}
use Rattle.intervals.specs.declared.operation.Op.{Op}
use Rattle.intervals.specs.declared.operation.Moment.{Moment}
use Rattle.intervals.specs.declared.operation.Value.{Value}
use Rattle.intervals.specs.Operation.{value_of, same_value, judged, writes}
use Rattle.zone_tree.specs.declared.edge.Edge.{Edge}
use Rattle.zone_tree.specs.declared.edge.Edge.TheVariants.{Before, At, Never}
use Rattle.zone_tree.specs.declared.zone.Zone.{Zone}
use Rattle.zone_tree.specs.Edge.{earlier_edge, edge_before, later_edge}

-- a beginning and an end, as edges
pub record Interval : Type 0 where
  pub begin : Edge
  pub end : Edge

-- an optional end as an edge: `At` the end, or `Never` where there is none
abbrev pub edge_of_end : Option Moment → Edge
edge_of_end None = Never
edge_of_end (Some end) = At end

-- the beginning and the end of an operation, as edges
abbrev pub interval_of : Op → Interval
interval_of op = record { begin = At op.begin; end = edge_of_end op.end }

-- the interval of the initial write, which begins and ends before every moment
abbrev pub initial_span : Interval
initial_span = record { begin = Before; end = Before }

-- the operation reads or writes the value
abbrev pub has_value : Value → Op → Bool
has_value value op = same_value (value_of op.act) value

-- the cluster of a value: its write and its judged reads
abbrev pub cluster_of : List Op → Value → List Op
cluster_of ops value = filter (has_value value) (judged ops)

-- the intervals of the operations in the cluster of a value; for the initial value that of the initial write comes
-- first, which is no operation
abbrev pub spans_of : Value → List Op → Value → List Interval
spans_of initial ops value =
    if same_value initial value
    then initial_span ∷ map interval_of (cluster_of ops value)
    else map interval_of (cluster_of ops value)

-- the least end of some intervals; `Never` where there are none
abbrev pub least_end_in : List Interval → Edge
least_end_in [] = Never
least_end_in (span ∷ spans) = earlier_edge span.end (least_end_in spans)

-- the greatest beginning of some intervals; `Before` where there are none
abbrev pub greatest_begin_in : List Interval → Edge
greatest_begin_in [] = Before
greatest_begin_in (span ∷ spans) = later_edge span.begin (greatest_begin_in spans)

-- the least end in the cluster of a value; `Before` for the initial value, whose write ended before every moment
abbrev pub least_end_of : Value → List Op → Value → Edge
least_end_of initial ops value = least_end_in (spans_of initial ops value)

-- the greatest beginning in the cluster of a value; `Before` where it has no operation
abbrev pub greatest_begin_of : Value → List Op → Value → Edge
greatest_begin_of initial ops value = greatest_begin_in (spans_of initial ops value)

-- the zone of a value with this least end and greatest beginning: forward from the end to the beginning where the end
-- comes first, else backward from the beginning to the end
abbrev pub zone_between : Edge → Edge → Value → Zone
zone_between least greatest value =
    if edge_before least greatest
    then record { left = least; right = greatest; forward = true; value = value }
    else record { left = greatest; right = least; forward = false; value = value }

-- the zone of a value, from the operations in its cluster and, for the initial value, the initial write
abbrev pub zone_of : Value → List Op → Value → Zone
zone_of initial ops value = zone_between (least_end_of initial ops value) (greatest_begin_of initial ops value) value

-- the zone of a value that is not the initial one, from the operations in its cluster alone
abbrev pub written_zone : List Op → Value → Zone
written_zone ops value =
    let spans = map interval_of (cluster_of ops value) in
    zone_between (least_end_in spans) (greatest_begin_in spans) value

-- the values that have a write: the initial value first, then those of the writes
abbrev pub written_values : Value → List Op → List Value
written_values initial ops = initial ∷ map (λ w. value_of w.act) (writes ops)

-- the zones of a register: one for each value that has a write, the initial value first
abbrev pub zones_of : Value → List Op → List Zone
zones_of initial ops = map (zone_of initial ops) (written_values initial ops)

-- the values that have a write: the initial value first, where there is one, then those of the writes
abbrev pub values_from : Option Value → List Op → List Value
values_from None ops = map (λ w. value_of w.act) (writes ops)
values_from (Some initial) ops = written_values initial ops

-- the zones of the values that have a write: that of the initial value first, where there is one
abbrev pub zones_from : Option Value → List Op → List Zone
zones_from None ops = map (written_zone ops) (values_from None ops)
zones_from (Some initial) ops = zones_of initial ops
