-- The members of clusters: which ended first or began last, and what an edit does to them. For private clauses alone.
use Rattle.std.specs.Prelude.{◌≤◌, unwrap_or, ◌≡◌, ◌≢◌, ◌⊎◌, All, Contains, List, Option, Some, None, IfSome, nat_lt, if◌then◌else◌}
use Rattle.intervals.specs.declared.operation.Op.{Op}
use Rattle.intervals.specs.declared.operation.Value.{Value}
use Rattle.intervals.specs.Operation.{IsWrite, IsJudgedRead, value_of, judged}
use Rattle.intervals.specs.declared.operation.OpId.{OpId}
use Rattle.intervals.specs.declared.operation.Moment.{Moment}
use Rattle.intervals.specs.Judging.{end_number}
use Rattle.zone_tree.specs.declared.edge.Edge.{Edge}
use Rattle.zone_tree.specs.declared.edge.Edge.TheVariants.{Before, At, Never}
use Rattle.zone_tree.specs.Edge.{ComesBefore, edge_before}
use Rattle.zones.specs.Cluster.{edge_of_end, cluster_of}

-- it is of the cluster of the value, and no operation of the cluster began after it
pub record IsLastToBegin (ops : List Op) (value : Value) (op : Op) : Type 0 where
  pub member : Contains (cluster_of ops value) op
  pub last : All (λ other. ¬ ComesBefore (At op.begin) (At other.begin)) (cluster_of ops value)

-- it is the write of the value
pub record IsTheWriteAt (ops : List Op) (value : Value) (op : Op) : Type 0 where
  pub present : Contains ops op
  pub write : IsWrite op
  pub same : value_of op.act ≡ value

-- of the judged operations of one value no two end at one edge, begin at one moment, or are both writes
pub record HaveOwnPlaces (ops : List Op) : Type 0 where
  pub by_end : (a b : Op) → Contains (judged ops) a → Contains (judged ops) b → value_of a.act ≡ value_of b.act → edge_of_end a.end ≡ edge_of_end b.end → a ≡ b
  pub by_begin : (a b : Op) → Contains (judged ops) a → Contains (judged ops) b → value_of a.act ≡ value_of b.act → a.begin ≡ b.begin → a ≡ b
  pub by_value : (a b : Op) → Contains (judged ops) a → Contains (judged ops) b → value_of a.act ≡ value_of b.act → IsWrite a → IsWrite b → a ≡ b

-- what an edit does to the judged operations: `old`, if any, goes, `new`, if any, comes, and the others stay; before
-- and after it no two have one place (`HaveOwnPlaces`)
pub record IsChange (before : List Op) (old new : Option Op) (after : List Op) : Type 0 where
  pub goes : IfSome old (λ op. Contains (judged before) op)
  pub comes : IfSome new (λ op. Contains (judged after) op)
  pub stay : (op : Op) → Contains (judged before) op → (old ≡ Some op) ⊎ Contains (judged after) op
  pub stood : (op : Op) → Contains (judged after) op → (new ≡ Some op) ⊎ (Contains (judged before) op × (old ≢ Some op))
  pub apart_before : HaveOwnPlaces before
  pub apart_after : HaveOwnPlaces after

-- some write has the value
abbrev pub HasWrite : List Op → Value → Type 0
HasWrite ops value = (w : Op) × IsTheWriteAt ops value w

-- no judged read has the value
abbrev pub HasNoRead : List Op → Value → Type 0
HasNoRead ops value = All (λ r. IsJudgedRead r → value_of r.act ≢ value) ops

-- the judged read with this id ended first of those of the value, at this moment
pub record EndsFirstOf (ops : List Op) (value : Value) (end : Moment) (id : OpId) : Type 0 where
  pub read : Op
  pub present : Contains ops read
  pub judged : IsJudgedRead read
  pub same : value_of read.act ≡ value
  pub named : read.id ≡ id
  pub ended : read.end ≡ Some end
  pub first : All (λ r. IsJudgedRead r → value_of r.act ≡ value → end.0 ≤ end_number r) ops

-- the judged read with this id began last of those of the value, at this moment
pub record BeginsLastOf (ops : List Op) (value : Value) (begin : Moment) (id : OpId) : Type 0 where
  pub read : Op
  pub present : Contains ops read
  pub judged : IsJudgedRead read
  pub same : value_of read.act ≡ value
  pub named : read.id ≡ id
  pub began : read.begin ≡ begin
  pub last : All (λ r. IsJudgedRead r → value_of r.act ≡ value → r.begin.0 ≤ begin.0) ops

-- the end of an operation, or moment 0 where it has none
abbrev pub end_or_first : Op → Moment
end_or_first op = unwrap_or op.end (record { 0 = 0 })

-- the edge is the least end of the operations that have the property and the value, or `Never` where none of them has
-- an end
pub record IsLeastEnd (Property : Op → Type 0) (ops : List Op) (value : Value) (edge : Edge) : Type 0 where
  pub least : All (λ op. Property op → value_of op.act ≡ value → ¬ ComesBefore (edge_of_end op.end) edge) ops
  pub held : (edge ≡ Never) ⊎ ((op : Op) × Contains ops op × Property op × (value_of op.act ≡ value) × (edge_of_end op.end ≡ edge))

-- the edge is the greatest beginning of the operations that have the property and the value, or `Before` where there
-- are none
pub record IsGreatestBegin (Property : Op → Type 0) (ops : List Op) (value : Value) (edge : Edge) : Type 0 where
  pub greatest : All (λ op. Property op → value_of op.act ≡ value → ¬ ComesBefore edge (At op.begin)) ops
  pub held : (edge ≡ Before) ⊎ ((op : Op) × Contains ops op × Property op × (value_of op.act ≡ value) × (At op.begin ≡ edge))

-- of two optional operations the one that ended first; one that has no end ends last
abbrev pub ended_first : Option Op → Option Op → Option Op
ended_first None b = b
ended_first (Some a) None = Some a
ended_first (Some a) (Some b) = if edge_before (edge_of_end b.end) (edge_of_end a.end) then Some b else Some a

-- of two optional operations the one that began last
abbrev pub began_last : Option Op → Option Op → Option Op
began_last None b = b
began_last (Some a) None = Some a
began_last (Some a) (Some b) = if nat_lt a.begin.0 b.begin.0 then Some b else Some a
