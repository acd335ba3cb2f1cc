-- The reply to an edit of a register.
use Rattle.std.specs.Prelude.{◌≡◌, ◌≢◌, ◌↔◌, ◌⊎◌, Some, None, IsSome, IsTrue}
use Rattle.intervals.specs.declared.claim.Kind.{Kind}
use Rattle.intervals.specs.declared.edit.Edit.{Edit}
use Rattle.intervals.specs.declared.edit.Edit.TheVariants.{Append, Amend, Withdraw, Claim}
use Rattle.intervals.specs.Edit.{new_op}
use Rattle.intervals.specs.Terms.{RegisterState}
use Rattle.intervals.specs.Refusal.{reply_to, after_edit}
use Rattle.intervals.specs.Kind.{Holds}
use Rattle.register_book.specs.declared.reply.Reply.{Reply}
use Rattle.register_book.specs.declared.reply.Reply.TheVariants.{Accepted, Refused}

-- the reply to the edit: the first refusal whose condition holds, or, where there is none, that the edit is accepted,
-- and whether the register keeps its claim after it
abbrev pub IsReply : RegisterState → Edit → Reply → Type 0
IsReply held edit (Refused refusal) = reply_to held edit ≡ Some refusal
IsReply held edit (Accepted holds) =
    (reply_to held edit ≡ None) × (IsTrue holds ↔ Holds (after_edit held edit))

-- the edit claims another kind than this one
abbrev pub IsTurn : Kind → Edit → Type 0
IsTurn kind (Append op) = ⊥
IsTurn kind (Amend id change) = ⊥
IsTurn kind (Withdraw id) = ⊥
IsTurn kind (Claim other) = other ≢ kind

-- the edit may need memory: it appends or amends an operation, or it claims another kind
abbrev pub TakesMemory : RegisterState → Edit → Type 0
TakesMemory held edit = IsSome (new_op held.ops edit) ⊎ IsTurn held.claim.kind edit
