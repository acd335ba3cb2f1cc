-- The small rows in which a pass keeps its own entries; for private clauses alone.
use Rattle.std.specs.Prelude.{◌≤◌, ◌+◌, ℕ, ℤ, List, Option, None, Some, All, map, true, slice_index_or}
use Rattle.std.specs.Borrow.{Bor}
use Rattle.intervals.specs.declared.operation.Op.{Op}
use Rattle.intervals.specs.declared.operation.OpId.{OpId}
use Rattle.intervals.specs.declared.operation.Act.{Act}
use Rattle.intervals.specs.declared.operation.Moment.{Moment}
use Rattle.intervals.specs.declared.operation.Value.{Value}
use Rattle.intervals.specs.declared.edit.Change.{Change}
use Rattle.intervals.specs.declared.edit.Edit.TheVariants.{Append, Amend, Withdraw}
use Rattle.intervals.specs.declared.edit.Lent.TheVariants.{Answer}
use Rattle.register_book.specs.declared.reply.Reply.TheVariants.{Accepted}
use Rattle.shards.specs.declared.entry.NumberedEntry.{NumberedEntry}
use Rattle.shards.specs.declared.compact.CompactEntry.{CompactEntry}
use Rattle.shards.specs.declared.compact.CompactEntry.TheVariants.{Invoked, Answered, Whole}
use Rattle.shards.specs.Steps.{entry_of, numbered_entry}

-- the entry of a row whose place is past the entries that are kept whole
abbrev pub no_entry : NumberedEntry
no_entry = numbered_entry 0 (entry_of 0 (record { 0 = 0 }) (Withdraw (record { feeder = 0; event = 0 })) (Accepted true))

-- an operation that was invoked and has no end, no answer and no amendment
abbrev pub invoked_op : OpId → ℤ → Act → Moment → Bor (List ℕ) → Op
invoked_op id process act begin text = record {
  id = id;
  process = process;
  act = act;
  begin = begin;
  end = None;
  parts = record { invocation = text; answer = None; amendment = None };
}

-- what an answer changes of its operation
abbrev pub answer_change : Option Value → Moment → Bor (List ℕ) → Change
answer_change value end text = record { value = value; begin = None; end = Some (Some end); lent = Answer text }

-- the numbered entry that a row of this feeder is, given the entries that are kept whole
abbrev pub entry_by : ℕ → List NumberedEntry → CompactEntry → NumberedEntry
entry_by feeder whole (Invoked holds register number event process act begin text) =
    numbered_entry number (entry_of feeder register (Append (invoked_op (record { feeder = feeder; event = event }) process act begin text)) (Accepted holds))
entry_by feeder whole (Answered holds register number event value end text) =
    numbered_entry number (entry_of feeder register (Amend (record { feeder = feeder; event = event }) (answer_change value end text)) (Accepted holds))
entry_by feeder whole (Whole place) = slice_index_or whole place no_entry

-- the numbered entries that the rows of this feeder are, in order, given the entries that are kept whole
abbrev pub entries_by : ℕ → List NumberedEntry → List CompactEntry → List NumberedEntry
entries_by feeder whole rows = map (entry_by feeder whole) rows

-- how many entries have to be kept whole for a row: its place + 1 where it is the place of one, else 0
abbrev pub entries_wanted : CompactEntry → ℕ
entries_wanted (Invoked holds register number event process act begin text) = 0
entries_wanted (Answered holds register number event value end text) = 0
entries_wanted (Whole place) = place + 1

-- no row needs more entries that are kept whole than this many
abbrev pub AreWithin : ℕ → List CompactEntry → Type 0
AreWithin many rows = All (λ row. entries_wanted row ≤ many) rows
