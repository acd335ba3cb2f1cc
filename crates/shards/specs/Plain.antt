-- Entries as they read: field by field, texts by their bytes, wherever they lie in memory.
use Rattle.std.specs.Prelude.{ℕ, ℤ, List, Option, option_map}
use Rattle.intervals.specs.declared.claim.Kind.{Kind}
use Rattle.intervals.specs.declared.operation.Op.{Op}
use Rattle.intervals.specs.declared.operation.OpId.{OpId}
use Rattle.intervals.specs.declared.operation.RegId.{RegId}
use Rattle.intervals.specs.declared.operation.Act.{Act}
use Rattle.intervals.specs.declared.operation.Moment.{Moment}
use Rattle.intervals.specs.declared.operation.Value.{Value}
use Rattle.intervals.specs.declared.operation.OpParts.{OpParts}
use Rattle.intervals.specs.declared.edit.Change.{Change}
use Rattle.intervals.specs.declared.edit.Lent.{Lent}
use Rattle.intervals.specs.declared.edit.Lent.TheVariants as lents
use Rattle.intervals.specs.declared.edit.Edit.{Edit}
use Rattle.intervals.specs.declared.edit.Edit.TheVariants as edits
use Rattle.register_book.specs.declared.reply.Reply.{Reply}
use Rattle.shards.specs.declared.entry.Entry.{Entry}
use Rattle.shards.specs.declared.entry.NumberedEntry.{NumberedEntry}

-- the bytes of an operation's texts: of its invocation, an optional answer and an optional amendment
pub record PlainParts : Type 0 where
  pub invocation : List ℕ
  pub answer : Option (List ℕ)
  pub amendment : Option (List ℕ)

-- an operation whose texts are their bytes
pub record PlainOp : Type 0 where
  pub id : OpId
  pub process : ℤ
  pub act : Act
  pub begin : Moment
  pub end : Option Moment
  pub parts : PlainParts

-- the bytes of the text that a change carries: of an answer or of an amendment
pub data PlainLent : Type 0 where
  answer : List ℕ → PlainLent
  amendment : List ℕ → PlainLent

-- the new value, begin and end of an operation, each optional, and the bytes of the change's text; a new end may be
-- none
pub record PlainChange : Type 0 where
  pub value : Option Value
  pub begin : Option Moment
  pub end : Option (Option Moment)
  pub lent : PlainLent

-- an edit whose texts are their bytes: an append, an amendment, a withdrawal, or the claim of a kind
pub data PlainEdit : Type 0 where
  append : PlainOp → PlainEdit
  amend : OpId → PlainChange → PlainEdit
  withdraw : OpId → PlainEdit
  claim_to : Kind → PlainEdit

-- an entry of a journal whose texts are their bytes
pub record PlainEntry : Type 0 where
  pub feeder : ℕ
  pub register : RegId
  pub edit : PlainEdit
  pub reply : Reply

-- the texts of an operation by their bytes
abbrev pub plain_parts : OpParts → PlainParts
plain_parts parts = record {
  invocation = parts.invocation.now;
  answer = option_map (λ text. text.now) parts.answer;
  amendment = option_map (λ text. text.now) parts.amendment;
}

-- an operation as it reads, its texts by their bytes
abbrev pub plain_op : Op → PlainOp
plain_op op = record { id = op.id; process = op.process; act = op.act; begin = op.begin; end = op.end; parts = plain_parts op.parts }

-- the text that a change carries by its bytes
abbrev pub plain_lent : Lent → PlainLent
plain_lent (lents.Answer text) = answer text.now
plain_lent (lents.Amendment text) = amendment text.now

-- a change of an operation as it reads, its text by its bytes
abbrev pub plain_change : Change → PlainChange
plain_change change = record { value = change.value; begin = change.begin; end = change.end; lent = plain_lent change.lent }

-- an edit as it reads, its texts by their bytes
abbrev pub plain_edit : Edit → PlainEdit
plain_edit (edits.Append op) = append (plain_op op)
plain_edit (edits.Amend id change) = amend id (plain_change change)
plain_edit (edits.Withdraw id) = withdraw id
plain_edit (edits.Claim kind) = claim_to kind

-- an entry of a journal as it reads, its texts by their bytes
abbrev pub plain_entry : Entry → PlainEntry
plain_entry entry = record { feeder = entry.feeder; register = entry.register; edit = plain_edit entry.edit; reply = entry.reply }

-- the number of an entry, and the entry as it reads
abbrev pub plain_numbered : NumberedEntry → ℕ × PlainEntry
plain_numbered known = (known.number, plain_entry known.entry)
