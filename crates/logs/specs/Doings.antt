-- What a feeder does with the steps of its trace, and what it notes of them.
use Rattle.std.specs.Prelude.{◌≡◌, ◌==◌, ◌%◌, ◌+◌, ℕ, List, [], ◌∷◌, ◌++◌, map, filter_map, length, Option, Some, None, IfSome, Ok, Err, if◌then◌else◌}
use Rattle.intervals.specs.declared.edit.Edit.{Edit}
use Rattle.intervals.specs.declared.operation.RegId.{RegId}
use Rattle.register_book.specs.declared.reply.Reply.{Reply}
use Rattle.register_book.specs.declared.reply.Reply.TheVariants.{Accepted, Refused as NotAccepted}
use Rattle.pairing.specs.declared.step.Step.TheVariants as steps
use Rattle.pairing.specs.About.{about_edit}
use Rattle.shards.specs.declared.entry.Answer.{Answer}
use Rattle.shards.specs.declared.entry.Entry.{Entry}
use Rattle.shards.specs.declared.entry.NumberedEntry.{NumberedEntry}
use Rattle.shards.specs.Plan.{Plan}
use Rattle.shards.specs.Pass.{HasEntry, last_in}
use Rattle.shards.specs.Journal.{EachAfter, IsJournalOf, count_by}
use Rattle.shards.specs.Steps.{IsStanding, entry_of, numbered_entry}
use Rattle.logs.specs.declared.log.Code.TheVariants.{Register}
use Rattle.logs.specs.declared.log.LeftOut.{LeftOut}
use Rattle.logs.specs.declared.log.Line.{Line}
use Rattle.logs.specs.declared.log.What.{What}
use Rattle.logs.specs.declared.log.What.TheVariants.{Refused, Answered}
use Rattle.logs.specs.Start.{Start}
use Rattle.logs.specs.Steps.{StepResult}

-- what became of an element: it was refused by its form or the pairing; it had no step; its edit was entered in its
-- shard's journal, at a number and with a reply; or its question was answered
pub data Doing : Type 0 where
  refused : (left_out : LeftOut) → Doing
  nothing : Doing
  entered : (register : RegId) (edit : Edit) (number : ℕ) (reply : Reply) → Doing
  answered : (register : RegId) (answer : Answer) → Doing

-- what the element of a doing came to: the step that was done, no step, or its refusal
abbrev pub taken_of : Doing → StepResult
taken_of (refused left_out) = Err left_out
taken_of nothing = Ok None
taken_of (entered register edit number reply) = Ok (Some (steps.Edit register edit))
taken_of (answered register answer) = Ok (Some (steps.Ask register))

-- the entry that a doing made in shard `at`, with its number: that of an edit of a register there, or none
abbrev pub entry_in : ℕ → ℕ → ℕ → Doing → Option NumberedEntry
entry_in shards feeder at (refused left_out) = None
entry_in shards feeder at nothing = None
entry_in shards feeder at (entered register edit number reply) =
    if register.0 % shards == at then Some (numbered_entry number (entry_of feeder register edit reply)) else None
entry_in shards feeder at (answered register answer) = None

-- the entries that a feeder's doings made in one shard, with their numbers, in order
abbrev pub entered_in : ℕ → ℕ → ℕ → List Doing → List NumberedEntry
entered_in shards feeder at doings = filter_map (entry_in shards feeder at) doings

-- what is noted of the reply to an edit of a register: that it was left out, or nothing where it was accepted
abbrev pub what_of_reply : RegId → Edit → Reply → Option What
what_of_reply register edit (Accepted holds) = None
what_of_reply register edit (NotAccepted refusal) = Some (Refused (record { code = Register refusal; about = about_edit register edit }))

-- what is noted of a doing: that its element was left out, whoever refused it, or the answer to a question; else nothing
abbrev pub what_of : Doing → Option What
what_of (refused left_out) = Some (Refused left_out)
what_of nothing = None
what_of (entered register edit number reply) = what_of_reply register edit reply
what_of (answered register answer) = Some (Answered register answer)

-- the log line for what is noted of the element at this place; no line where nothing is
abbrev pub lines_at : ℕ → Option What → List Line
lines_at place None = []
lines_at place (Some what) = record { event = place; what = what } ∷ []

-- the log lines of these doings, the first of which is for the element at this place
abbrev pub lines_from : ℕ → List Doing → List Line
lines_from place [] = []
lines_from place (doing ∷ doings) = lines_at place (what_of doing) ++ lines_from (place + 1) doings

-- the feeder's own entries in a shard after these doings: those that it began with, and then those that it entered
abbrev pub own_after : ℕ → Start → ℕ → List Doing → List NumberedEntry
own_after shards start at doings = start.had at ++ entered_in shards start.feeder at doings

-- the answer is the register's standing after a legal journal of its shard, by feeders of the plan alone, with as many
-- of this feeder's entries as its pass had there before, the last of them at its number
pub record IsAnswerAfter (plan : Plan) (start : Start) (before : List Doing) (register : RegId) (answer : Answer) : Type 0 where
  pub journal : List Entry
  pub of_shard : IsJournalOf plan (register.0 % plan.shards) journal
  pub standing : IsStanding plan register.0 journal answer
  pub own : count_by start.feeder journal ≡ length (own_after plan.shards start (register.0 % plan.shards) before)
  pub last : IfSome (last_in (own_after plan.shards start (register.0 % plan.shards) before)) (HasEntry journal)

-- the answer to a question is one after what was done before it (`IsAnswerAfter`); nothing is said of other doings
abbrev pub IsAnsweredAfter : Plan → Start → List Doing → Doing → Type 0
IsAnsweredAfter plan start before (refused left_out) = Unit {0}
IsAnsweredAfter plan start before nothing = Unit {0}
IsAnsweredAfter plan start before (entered register edit number reply) = Unit {0}
IsAnsweredAfter plan start before (answered register answer) = IsAnswerAfter plan start before register answer

-- the doings are for these steps, one for each; the log lines are what is noted of them; and each question was answered
-- after what was done before it
pub record AreDone (plan : Plan) (start : Start) (steps : List StepResult) (lines : List Line) (doings : List Doing) : Type 0 where
  pub for_steps : map taken_of doings ≡ steps
  pub noted : lines ≡ lines_from 0 doings
  pub answers : EachAfter (IsAnsweredAfter plan start) [] doings
