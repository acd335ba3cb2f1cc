-- The records of the values, which hold the edges of each. For private clauses alone.
use Rattle.std.specs.Prelude.{◌≢◌, ℕ, ℤ, List, Option, Some, None, IsSome, unwrap_or, if◌then◌else◌}
use Rattle.std.specs.HashMap.{get, spare}
use Rattle.std.specs.Ordering.{int_eq}
use Rattle.intervals.specs.declared.operation.Op.{Op}
use Rattle.intervals.specs.declared.operation.Value.{Value}
use Rattle.intervals.specs.declared.operation.Value.TheVariants.{Nil, Int}
use Rattle.intervals.specs.Operation.{same_value}
use Rattle.zones.specs.declared.edges.Edges.{Edges}
use Rattle.zones.specs.declared.records.Records.{Records}
use Rattle.zones.specs.Edges.{AreEdges, edges_of_nothing, is_of_nothing}

-- the edges in the record of the value, or `edges_of_nothing` where it has no record
abbrev pub edges_at : Records → Value → Edges
edges_at records Nil = records.of_nil
edges_at records (Int number) = unwrap_or (get int_eq records.of_numbers number) (edges_of_nothing (Int number))

-- the value has a record; nil always has one
abbrev pub HasRecord : Records → Value → Type 0
HasRecord records Nil = Unit {0}
HasRecord records (Int number) = IsSome (get int_eq records.of_numbers number)

-- for how many more numbers there is room
abbrev pub room_in : Records → ℕ
room_in records = spare records.of_numbers

-- no number has `edges_of_nothing` as its record
abbrev pub HasNoEmptyRecord : Records → Type 0
HasNoEmptyRecord records = (number : ℤ) → get int_eq records.of_numbers number ≢ Some (edges_of_nothing (Int number))

-- the record of each value has the edges that the operations give it, and no record is empty
pub record AreRecords (ops : List Op) (records : Records) : Type 0 where
  pub edges : (value : Value) → AreEdges ops value (edges_at records value)
  pub filled : HasNoEmptyRecord records

-- the edges as a record; none where they are those of a value that no judged operation has
abbrev pub record_of : Edges → Option Edges
record_of edges = if is_of_nothing edges then None else Some edges

-- what the record of the value holds once optional edges are put: these where they are of that value, else what it held
abbrev pub put_at : Option Edges → Value → Edges → Edges
put_at None value found = found
put_at (Some edges) value found = if same_value edges.value value then edges else found
