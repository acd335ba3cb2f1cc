-- What a refused element is about: its register, what it would have written, and the operation that it answers or edits.
use Rattle.std.specs.Prelude.{ℕ, ℤ, true, false, List, Option, Some, None, option_map, option_and_then}
use Rattle.std.specs.Option.{option_or}
use Rattle.intervals.specs.declared.edit.Change.{Change}
use Rattle.intervals.specs.declared.edit.Edit.{Edit}
use Rattle.intervals.specs.declared.edit.Edit.TheVariants as edits
use Rattle.intervals.specs.declared.edit.Lent.{Lent}
use Rattle.intervals.specs.declared.edit.Lent.TheVariants.{Answer, Amendment}
use Rattle.intervals.specs.declared.operation.Act.{Act}
use Rattle.intervals.specs.declared.operation.Act.TheVariants as acts
use Rattle.intervals.specs.declared.operation.RegId.{RegId}
use Rattle.intervals.specs.declared.operation.Value.{Value}
use Rattle.jepsen_form.specs.declared.gist.Gist.{Gist}
use Rattle.jepsen_form.specs.declared.gist.Written.{Written}
use Rattle.jepsen_form.specs.declared.gist.Written.TheVariants.{Nothing, Known}
use Rattle.jepsen_form.specs.declared.item.Action.{Action}
use Rattle.jepsen_form.specs.declared.item.Action.TheVariants.{Read, Write}
use Rattle.jepsen_form.specs.declared.item.Item.{Item}
use Rattle.jepsen_form.specs.declared.item.Item.TheVariants as items
use Rattle.jepsen_form.specs.declared.item.Stage.{Stage}
use Rattle.jepsen_form.specs.declared.item.Stage.TheVariants.{Invoke, Ok, Fail, Info}
use Rattle.jepsen_form.specs.Item.{no_gist}
use Rattle.pairing.specs.declared.about.About.{About}
use Rattle.pairing.specs.declared.invocation.Invocation.{Invocation}
use Rattle.pairing.specs.Accepted.{Placed, unanswered_of, register_of}
use Rattle.pairing.specs.Step.{id_of}

-- ---- a refused edit

-- what an act writes: the value of a write, and nothing where it is a read
abbrev pub written_of_act : Act → Written
written_of_act (acts.Read value) = Nothing
written_of_act (acts.Write value) = Known value

-- what an amendment writes by the value that it gives, if any; an answer, which gives a read its value, writes nothing
abbrev pub written_by_lent : Lent → Option Value → Written
written_by_lent (Answer text) value = Nothing
written_by_lent (Amendment text) None = Nothing
written_by_lent (Amendment text) (Some value) = Known value

-- what a change writes
abbrev pub written_of_change : Change → Written
written_of_change change = written_by_lent change.lent change.value

-- what an edit of this register is about
abbrev pub about_edit : RegId → Edit → About
about_edit register (edits.Append op) = record { register = Some register; written = written_of_act op.act; operation = None; claims = false }
about_edit register (edits.Amend id change) = record { register = Some register; written = written_of_change change; operation = Some id; claims = false }
about_edit register (edits.Withdraw id) = record { register = Some register; written = Nothing; operation = Some id; claims = false }
about_edit register (edits.Claim kind) = record { register = Some register; written = Nothing; operation = None; claims = true }

-- ---- a refused item

-- the process of an event of this stage, where it is an answer
abbrev pub process_if_answer : Stage → ℤ → Option ℤ
process_if_answer Invoke process = None
process_if_answer Ok process = Some process
process_if_answer Fail process = Some process
process_if_answer Info process = Some process

-- what an event writes: the value of a write that is invoked or answered by `:ok`, else nothing
abbrev pub written_of : Stage → Action → Value → Written
written_of stage Read value = Nothing
written_of Invoke Write value = Known value
written_of Ok Write value = Known value
written_of Fail Write value = Nothing
written_of Info Write value = Nothing

-- what an item says, as the gist of an element; a question says nothing here
abbrev pub gist_of_item : Item → Gist
gist_of_item (items.Event event) = record {
  answers = process_if_answer event.answer event.process;
  of = None;
  register = event.register;
  written = written_of event.answer event.action event.value;
  claims = false;
}
gist_of_item (items.Amend of change) = record { answers = None; of = Some of; register = None; written = written_of_change change; claims = false }
gist_of_item (items.Withdraw of) = record { answers = None; of = Some of; register = None; written = Nothing; claims = false }
gist_of_item (items.Claim register kind) = record { answers = None; of = None; register = Some register; written = Nothing; claims = true }
gist_of_item (items.Ask register) = no_gist
gist_of_item items.Skipped = no_gist

-- ---- an element, by what can be read of it

-- the place and the register of an operation, by its unanswered invocation where there is one, else by the place that is
-- named, where the register of the invocation there is given
abbrev pub target_beside : Option Invocation → Option ℕ → Option RegId → Option (ℕ × RegId)
target_beside (Some invocation) of register = Some (invocation.place, invocation.register)
target_beside None None register = None
target_beside None (Some of) None = None
target_beside None (Some of) (Some register) = Some (of, register)

-- the place and the register of the operation that an element answers or edits after these accepted items, or none
abbrev pub target_of : List Placed → Gist → Option (ℕ × RegId)
target_of accepted gist = target_beside (option_and_then (unanswered_of accepted) gist.answers) gist.of (option_and_then (register_of accepted) gist.of)

-- what an element is about, by what can be read of it and by the place and the register of the operation that it answers
-- or edits, or none: its own register counts before that of the operation
abbrev pub about_by : ℕ → Gist → Option (ℕ × RegId) → About
about_by feeder gist target = record {
  register = option_or gist.register (option_map (λ of. of.1) target);
  written = gist.written;
  operation = option_map (λ of. id_of feeder of.0) target;
  claims = gist.claims;
}

-- what an element of a feeder's trace is about after these accepted items, by what can be read of it
abbrev pub about_gist : ℕ → List Placed → Gist → About
about_gist feeder accepted gist = about_by feeder gist (target_of accepted gist)
