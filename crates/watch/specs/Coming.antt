-- Edits that come in the order of time, as those of a trace that nobody edits afterwards.
use Rattle.std.specs.Prelude.{◌≡◌, ◌≢◌, ◌≤◌, List, [], ◌∷◌, Some, None, All, IfSome}
use Rattle.intervals.specs.declared.operation.Op.{Op}
use Rattle.intervals.specs.declared.operation.OpId.{OpId}
use Rattle.intervals.specs.declared.operation.Moment.{Moment}
use Rattle.intervals.specs.declared.edit.Change.{Change}
use Rattle.intervals.specs.declared.edit.Edit.{Edit}
use Rattle.intervals.specs.declared.edit.Edit.TheVariants.{Append, Amend, Withdraw, Claim}
use Rattle.intervals.specs.Operation.{IsWrite, IsJudgedRead, value_of}
use Rattle.intervals.specs.Terms.{RegisterState}
use Rattle.intervals.specs.Refusal.{reply_to, after_edit}

-- no operation of the list begins or ends after the moment
abbrev pub IsLatest : List Op → Moment → Type 0
IsLatest ops moment = All (λ op. (op.begin.0 ≤ moment.0) × IfSome op.end (λ end. end.0 ≤ moment.0)) ops

-- no operation of the list that has the id has an end
abbrev pub HasNoEnd : List Op → OpId → Type 0
HasNoEnd ops id = All (λ op. op.id ≡ id → op.end ≡ None) ops

-- the change gives the operation of the id, which has no end, an end at a latest moment (`IsLatest`), and keeps its
-- beginning and, where it is a write, its value
pub record EndsLast (ops : List Op) (id : OpId) (change : Change) : Type 0 where
  pub unfinished : HasNoEnd ops id
  pub begin : change.begin ≡ None
  pub end : (end : Moment) × (change.end ≡ Some (Some end)) × IsLatest ops end
  pub value : All (λ op. op.id ≡ id → IsWrite op → change.value ≡ None) ops

-- the edit comes last in time: it appends an operation that begins at a latest moment and has no end, gives such an
-- operation its end (`EndsLast`), or withdraws one
abbrev pub ComesLast : List Op → Edit → Type 0
ComesLast ops (Append op) = (op.end ≡ None) × IsLatest ops op.begin
ComesLast ops (Amend id change) = EndsLast ops id change
ComesLast ops (Withdraw id) = HasNoEnd ops id
ComesLast ops (Claim kind) = ⊥

-- each of the edits, one by one, is refused or comes last of those before it (`ComesLast`)
abbrev pub ComeInOrder : RegisterState → List Edit → Type 0
ComeInOrder held [] = Unit {0}
ComeInOrder held (edit ∷ edits) = (reply_to held edit ≡ None → ComesLast held.ops edit) × ComeInOrder (after_edit held edit) edits

-- the edit withdraws no write whose value a finished read returned
abbrev pub LeavesReadValues : List Op → Edit → Type 0
LeavesReadValues ops (Append op) = Unit {0}
LeavesReadValues ops (Amend id change) = Unit {0}
LeavesReadValues ops (Withdraw id) = All (λ w. w.id ≡ id → IsWrite w → All (λ r. IsJudgedRead r → value_of r.act ≢ value_of w.act) ops) ops
LeavesReadValues ops (Claim kind) = Unit {0}

-- each of the edits, one by one, is refused or withdraws no write whose value a finished read returned
abbrev pub LeaveReadValues : RegisterState → List Edit → Type 0
LeaveReadValues held [] = Unit {0}
LeaveReadValues held (edit ∷ edits) = (reply_to held edit ≡ None → LeavesReadValues held.ops edit) × LeaveReadValues (after_edit held edit) edits
