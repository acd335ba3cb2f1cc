-- The edges of a value: those of its write, and those of its judged reads. For private clauses alone.
use Rattle.std.specs.Prelude.{◌≡◌, Bool, not, ◌&&◌, List, Option, Some, None, MatchOption, is_some, if◌then◌else◌}
use Rattle.intervals.specs.declared.operation.Op.{Op}
use Rattle.intervals.specs.declared.operation.OpId.{OpId}
use Rattle.intervals.specs.declared.operation.Value.{Value}
use Rattle.intervals.specs.Kind.{HasNoWrite}
use Rattle.intervals.specs.Operation.{IsJudgedRead, IsWrite, is_judged_read, is_write, same_value, value_of}
use Rattle.zone_tree.specs.declared.edge.Edge.{Edge}
use Rattle.zone_tree.specs.declared.edge.Edge.TheVariants.{Before, Never}
use Rattle.zone_tree.specs.Edge.{same_edge}
use Rattle.zones.specs.declared.edges.Edges.{Edges}
use Rattle.zones.specs.Members.{IsGreatestBegin, IsLeastEnd, IsTheWriteAt}

-- the value has at most one write, and these are its edges; `Before` and `Never` where there is none
pub record AreWriteEdges (ops : List Op) (value : Value) (begins ends : Edge) : Type 0 where
  pub begin : IsGreatestBegin IsWrite ops value begins
  pub end : IsLeastEnd IsWrite ops value ends
  pub one : (a b : Op) → IsTheWriteAt ops value a → IsTheWriteAt ops value b → a ≡ b

-- `begins` is where the last of the judged reads of the value begins, `ends` where the first of them ends; `Before` and
-- `Never` where there are none
pub record AreReadEdges (ops : List Op) (value : Value) (begins ends : Edge) : Type 0 where
  pub begin : IsGreatestBegin IsJudgedRead ops value begins
  pub end : IsLeastEnd IsJudgedRead ops value ends

-- the optional id is that of the write of the value, and none where no write has the value
abbrev pub NamesWrite : List Op → Value → Option OpId → Type 0
NamesWrite ops value name = MatchOption name (HasNoWrite ops value) (λ id. (w : Op) × IsTheWriteAt ops value w × (w.id ≡ id))

-- `edges` says of the value what the operations say: the id of its write, the edges of that, and the edges of its reads
pub record AreEdges (ops : List Op) (value : Value) (edges : Edges) : Type 0 where
  pub same : edges.value ≡ value
  pub named : NamesWrite ops value edges.write_id
  pub write : AreWriteEdges ops value edges.write_begin edges.write_end
  pub read : AreReadEdges ops value edges.read_begin edges.read_end

-- the optional edges are those of the optional value (`AreEdges`); none where there is no value
abbrev pub AreEdgesAtSome : List Op → Option Value → Option Edges → Type 0
AreEdgesAtSome ops None found = found ≡ None
AreEdgesAtSome ops (Some value) None = ⊥
AreEdgesAtSome ops (Some value) (Some edges) = AreEdges ops value edges

-- the two optional edges are those of two optional values (`AreEdges`)
pub record AreEdgesAt (ops : List Op) (first second : Option Value) (found : Option Edges × Option Edges) : Type 0 where
  pub one : AreEdgesAtSome ops first found.0
  pub other : AreEdgesAtSome ops second found.1

-- the edges of a value that no judged operation has: no id, beginnings at `Before`, ends at `Never`
abbrev pub edges_of_nothing : Value → Edges
edges_of_nothing value = record { value = value; write_id = None; write_begin = Before; write_end = Never; read_begin = Before; read_end = Never }

-- the test for edges of a value that no judged operation has (`edges_of_nothing`)
abbrev pub is_of_nothing : Edges → Bool
is_of_nothing edges = not (is_some edges.write_id) && same_edge edges.read_begin Before && same_edge edges.write_begin Before && same_edge edges.read_end Never && same_edge edges.write_end Never

-- an optional operation where it passes the test and has the value, else none
abbrev pub op_if_of_value : (Op → Bool) → Value → Option Op → Option Op
op_if_of_value test value None = None
op_if_of_value test value (Some op) = if test op && same_value (value_of op.act) value then Some op else None

-- an optional operation where it is a write of the value, else none
abbrev pub write_part : Value → Option Op → Option Op
write_part value op = op_if_of_value is_write value op

-- an optional operation where it is a judged read of the value, else none
abbrev pub read_part : Value → Option Op → Option Op
read_part value op = op_if_of_value is_judged_read value op
