-- The model of a judge, and how its parts agree with each other.
use Rattle.std.specs.Prelude.{◌≡◌, ◌≢◌, ◌≤◌, ◌+◌, List, [], length, Option, Some, None, IfSome}
use Rattle.intervals.specs.declared.operation.Op.{Op}
use Rattle.intervals.specs.declared.claim.Kind.TheVariants.{Atomic}
use Rattle.intervals.specs.Judging.{end_number}
use Rattle.intervals.specs.Standing.{HasDistinctIds, StandApart}
use Rattle.intervals.specs.Table.{TableModel}
use Rattle.intervals.specs.Terms.{ClaimModel, state_of}
use Rattle.read_tree.specs.Items.{ReadContents}
use Rattle.safe_regular.specs.declared.judged.JudgedReads.{JudgedReads}
use Rattle.safe_regular.specs.declared.reads.Reads.{Reads}
use Rattle.safe_regular.specs.declared.writes.Writes.{Writes}
use Rattle.safe_regular.specs.RowItems.{AreItemsOf}
use Rattle.safe_regular.specs.Rows.{AreJudged, HasRowRoom}
use Rattle.safe_regular.specs.Writes.{AreWrites, HasPlaceFor, ReservesOnlyForWrite}

-- a judge as its clauses see it: the claim, the operations that stand, and an optional one that room is kept for
pub record JudgeModel : Type 0 where
  pub claim : ClaimModel
  pub ops : List Op
  pub prepared : Option Op

-- the operation's beginning and end are at most 2^62 - 1, the greatest moment
pub record IsWithinMoments (op : Op) : Type 0 where
  pub begin : op.begin.0 ≤ 4611686018427387903
  pub end : end_number op ≤ 4611686018427387903

-- the claim is not atomic, and the operations have what the reply rule keeps under it (`StandApart`)
pub record AreOneWriters (claim : ClaimModel) (ops : List Op) : Type 0 where
  pub one_writer : claim.kind ≢ Atomic
  pub kept : StandApart (state_of claim ops)

-- the stored reads are those of the operations: the tree holds their items; or rows hold the verdicts, and the tree is
-- empty and has at least n + 1 free places, n the number of operations
abbrev pub AreReadsBy : Option JudgedReads → ReadContents → ClaimModel → List Op → Type 0
AreReadsBy None line claim ops = AreItemsOf claim ops line.items
AreReadsBy (Some rows) line claim ops = AreJudged claim ops rows × (line.items ≡ []) × (length ops + 1 ≤ line.free)

-- the reads that a judge stores, in rows or in its tree, are those of the operations (`AreReadsBy`)
abbrev pub AreReads : ClaimModel → List Op → Reads → Type 0
AreReads claim ops reads = AreReadsBy reads.judged reads.line claim ops

-- room for one operation more: without rows one free place in the tree; with rows room for one row more, and n + 2 free
-- places in the tree, n the number of operations
abbrev pub HasReadRoomBy : Option JudgedReads → ReadContents → List Op → Type 0
HasReadRoomBy None line ops = 1 ≤ line.free
HasReadRoomBy (Some rows) line ops = HasRowRoom rows × (length ops + 2 ≤ line.free)

-- the reads that a judge stores have room for one operation more (`HasReadRoomBy`)
abbrev pub HasReadRoom : List Op → Reads → Type 0
HasReadRoom ops reads = HasReadRoomBy reads.judged reads.line ops

-- there is room for the operation: a place in the index where it is a write, and room among the stored reads
pub record HasRoomForOperation (writes : Writes) (ops : List Op) (reads : Reads) (op : Op) : Type 0 where
  pub place : HasPlaceFor op writes
  pub free : HasReadRoom ops reads

-- the parts of a judge agree: index and stored reads are those of the table's operations, there is room for the
-- optional prepared one, and the index has no empty place but for that one
pub record AreOfOneJudge (claim : ClaimModel) (table : TableModel) (writes : Writes) (reads : Reads) : Type 0 where
  pub apart : AreOneWriters claim table.ops
  pub shelved : AreWrites table.ops writes
  pub laid : AreReads claim table.ops reads
  pub room : IfSome table.prepared (HasRoomForOperation writes table.ops reads)
  pub only : ReservesOnlyForWrite table.prepared writes

-- what judging by look-ups rests on: the index is that of the operations' writes, and no two operations have one id
pub record CanJudge (ops : List Op) (writes : Writes) : Type 0 where
  pub shelved : AreWrites ops writes
  pub ids : HasDistinctIds ops
