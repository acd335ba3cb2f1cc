-- Rows of reads in the order of their ends, each with its verdict; no public clause uses these words.
use Rattle.std.specs.Prelude.{◌≡◌, ◌≢◌, ℕ, ◌<◌, ◌≤◌, ◌⊎◌, ◌==◌, ◌&&◌, Bool, true, false, List, length, Contains, Option, Some, None, slice_index_or, vec_len, vec_capacity}
use Rattle.std.specs.Option.{option_map_or}
use Rattle.intervals.specs.declared.operation.Op.{Op}
use Rattle.intervals.specs.declared.operation.OpId.{OpId}
use Rattle.intervals.specs.Edit.{op_of}
use Rattle.intervals.specs.Judging.{end_number, is_wrong_read}
use Rattle.intervals.specs.Operation.{IsJudgedRead}
use Rattle.intervals.specs.Terms.{ClaimModel}
use Rattle.safe_regular.specs.declared.judged.JudgedRead.{JudgedRead}
use Rattle.safe_regular.specs.declared.judged.JudgedReads.{JudgedReads}

-- each row ends later than the rows before it
abbrev pub AreRising : List JudgedRead → Type 0
AreRising rows = (i j : ℕ) (d : JudgedRead) → i < j → j < length rows → (slice_index_or rows i d).end.0 < (slice_index_or rows j d).end.0

-- none of the first rows, as many as the number says, is wrong
abbrev pub IsNoneWrong : ℕ → List JudgedRead → Type 0
IsNoneWrong first rows = (i : ℕ) (d : JudgedRead) → i < first → i < length rows → (slice_index_or rows i d).wrong ≡ false

-- the row at the place is wrong, if there is one
abbrev pub IsWrongAt : ℕ → List JudgedRead → Type 0
IsWrongAt place rows = (d : JudgedRead) → place < length rows → (slice_index_or rows place d).wrong ≡ true

-- the rows from the place on end at the moment of that number or later
abbrev pub EndFrom : ℕ → List JudgedRead → ℕ → Type 0
EndFrom number rows place = (k : ℕ) (d : JudgedRead) → place ≤ k → k < length rows → number ≤ (slice_index_or rows k d).end.0

-- the place of a moment among the rows: the rows before it end earlier, those from it on end at the moment or later
pub record IsPlaceOf (number : ℕ) (rows : List JudgedRead) (place : ℕ) : Type 0 where
  pub within : place ≤ length rows
  pub before : (k : ℕ) (d : JudgedRead) → k < place → (slice_index_or rows k d).end.0 < number
  pub following : EndFrom number rows place

-- the test that the read of the row's id and end is wrong; false where no such read stands
abbrev pub is_wrong_row : ClaimModel → List Op → JudgedRead → Bool
is_wrong_row claim ops row = option_map_or (λ op. (end_number op == row.end.0) && is_wrong_read claim ops op) (op_of ops row.id) false

-- the verdict in the row is that by these operations (`is_wrong_row`)
abbrev pub IsJudgedBy : ClaimModel → List Op → JudgedRead → Type 0
IsJudgedBy claim ops row = row.wrong ≡ is_wrong_row claim ops row

-- one of the rows has that end and id
abbrev pub HasRow : List JudgedRead → ℕ → OpId → Type 0
HasRow rows number id = (row : JudgedRead) × Contains rows row × (row.end.0 ≡ number) × (row.id ≡ id)

-- the rows before and after: a new row has come, in place of one of its end if there was one, and the others stay
pub record IsPut (row : JudgedRead) (before after : List JudgedRead) : Type 0 where
  pub put : Contains after row
  pub kept : (x : JudgedRead) → Contains before x → x.end.0 ≢ row.end.0 → Contains after x
  pub only : (x : JudgedRead) → Contains after x → (x ≡ row) ⊎ Contains before x

-- the optional operation is a judged read that ends at the moment of that number
abbrev pub IsEndOf : Option Op → ℕ → Type 0
IsEndOf None number = ⊥
IsEndOf (Some op) number = IsJudgedRead op × (end_number op ≡ number)

-- the rows before and after: where the optional operation is a judged read its row has come (`IsPut`); in any other
-- case nothing has changed
abbrev pub IsPutFor : Option Op → List JudgedRead → List JudgedRead → Type 0
IsPutFor op before after =
    ((row : JudgedRead) × (o : Op) × (op ≡ Some o) × IsJudgedRead o × (row.end.0 ≡ end_number o) × (row.id ≡ o.id) × IsPut row before after)
    ⊎ ((before ≡ after) × ((number : ℕ) → ¬ IsEndOf op number))

-- the rows before and after: none is lost, and those of an end with property P have the verdict by these operations;
-- others may have it
pub record AreJudgedAgain (claim : ClaimModel) (ops : List Op) (P : ℕ → Type 0) (before after : List JudgedRead) : Type 0 where
  pub kept : (x : JudgedRead) → Contains before x → (y : JudgedRead) × Contains after y × (y.end.0 ≡ x.end.0) × (y.id ≡ x.id)
  pub each : (y : JudgedRead) → Contains after y → IsJudgedBy claim ops y ⊎ (Contains before y × (¬ P y.end.0))

-- there is room for one row more
abbrev pub HasRowRoom : JudgedReads → Type 0
HasRowRoom reads = vec_len reads.rows < vec_capacity reads.rows

-- what judging again keeps of the rows: their number, their ends, the room, the latest beginning, and that no row
-- before the `first` is wrong
pub record AreKept (before after : JudgedReads) : Type 0 where
  pub len : length after.rows.items ≡ length before.rows.items
  pub ends : (k : ℕ) (d : JudgedRead) → (slice_index_or after.rows.items k d).end.0 ≡ (slice_index_or before.rows.items k d).end.0
  pub front : IsNoneWrong before.first before.rows.items → IsNoneWrong after.first after.rows.items
  pub latest : after.latest ≡ before.latest
  pub room : HasRowRoom before → HasRowRoom after

-- the rows are those of the operations: they are in order, each judged read has one, each has its verdict; `first`
-- counts the rows before the first wrong one, and no judged read begins after `latest`
pub record AreJudged (claim : ClaimModel) (ops : List Op) (reads : JudgedReads) : Type 0 where
  pub rising : AreRising reads.rows.items
  pub there : (r : Op) → Contains ops r → IsJudgedRead r → HasRow reads.rows.items (end_number r) r.id
  pub right : (row : JudgedRead) → Contains reads.rows.items row → IsJudgedBy claim ops row
  pub latest : (r : Op) → Contains ops r → IsJudgedRead r → r.begin.0 ≤ reads.latest.0
  pub front : IsNoneWrong reads.first reads.rows.items
  pub first : IsWrongAt reads.first reads.rows.items
