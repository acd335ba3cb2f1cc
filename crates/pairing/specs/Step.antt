-- The step that an accepted item gives.
use Rattle.std.specs.Prelude.{ℕ, List, Option, Some, None, Result, Ok, Err, option_map}
use Rattle.intervals.specs.declared.operation.Act.{Act}
use Rattle.intervals.specs.declared.operation.Act.TheVariants as acts
use Rattle.intervals.specs.declared.operation.Moment.{Moment}
use Rattle.intervals.specs.declared.operation.OpId.{OpId}
use Rattle.intervals.specs.declared.operation.RegId.{RegId}
use Rattle.intervals.specs.declared.operation.Value.{Value}
use Rattle.intervals.specs.declared.edit.Edit.{Edit}
use Rattle.intervals.specs.declared.edit.Edit.TheVariants as edits
use Rattle.intervals.specs.declared.edit.Lent.TheVariants.{Answer}
use Rattle.jepsen_form.specs.declared.item.Action.{Action}
use Rattle.jepsen_form.specs.declared.item.Action.TheVariants.{Read, Write}
use Rattle.jepsen_form.specs.declared.item.Event.{Event as AnEvent}
use Rattle.jepsen_form.specs.declared.item.Item.{Item}
use Rattle.jepsen_form.specs.declared.item.Item.TheVariants as items
use Rattle.jepsen_form.specs.declared.item.Stage.{Stage}
use Rattle.jepsen_form.specs.declared.item.Stage.TheVariants as stages
use Rattle.pairing.specs.declared.fault.PairFault.{PairFault}
use Rattle.pairing.specs.declared.invocation.Invocation.{Invocation}
use Rattle.pairing.specs.declared.step.Step.{Step}
use Rattle.pairing.specs.declared.step.Step.TheVariants as steps
use Rattle.pairing.specs.Accepted.{Placed, unanswered_of, register_of, fault_of}

-- the id of the operation that a feeder's trace invokes at this place
abbrev pub id_of : ℕ → ℕ → OpId
id_of feeder place = record { feeder = feeder; event = place }

-- the act of an operation: an action with its value
abbrev pub act_of : Action → Value → Act
act_of Read value = acts.Read value
act_of Write value = acts.Write value

-- the edit of an invocation: it appends an unfinished operation that begins at this moment
abbrev pub append_of : ℕ → ℕ → AnEvent → Moment → Edit
append_of feeder place event moment = edits.Append (record {
  id = id_of feeder place;
  process = event.process;
  act = act_of event.action event.value;
  begin = moment;
  end = None;
  parts = record { invocation = event.text; answer = None; amendment = None };
})

-- the value that an answer of this action gives its operation, or none: a read's value, and none of a write
abbrev pub value_read : Action → Value → Option Value
value_read Read value = Some value
value_read Write value = None

-- the edit of an `:ok`: it gives the operation of its invocation this moment as the end, and a read its value
abbrev pub amendment_of : ℕ → Invocation → AnEvent → Moment → Edit
amendment_of feeder invocation event moment = edits.Amend (id_of feeder invocation.place) (record {
  value = value_read event.action event.value;
  begin = None;
  end = Some (Some moment);
  lent = Answer event.text;
})

-- the step of an invocation, or none where it lacks a register or a moment
abbrev pub invoke_step : ℕ → ℕ → AnEvent → Option RegId → Option Moment → Option Step
invoke_step feeder place event (Some register) (Some moment) = Some (steps.Edit register (append_of feeder place event moment))
invoke_step feeder place event (Some register) None = None
invoke_step feeder place event None moment = None

-- the step of an `:ok` that answers this invocation, or none where it lacks a moment
abbrev pub ok_step : ℕ → Invocation → AnEvent → Option Moment → Option Step
ok_step feeder invocation event (Some moment) = Some (steps.Edit invocation.register (amendment_of feeder invocation event moment))
ok_step feeder invocation event None = None

-- the step of an accepted event of this stage, or none, by the unanswered invocation of its process: `:invoke`
-- appends, `:ok` amends, `:fail` withdraws, and `:info` gives none
abbrev pub event_step : ℕ → Option Invocation → ℕ → AnEvent → Stage → Option Step
event_step feeder unanswered place event stages.Invoke = invoke_step feeder place event event.register event.moment
event_step feeder None place event stages.Ok = None
event_step feeder (Some unanswered) place event stages.Ok = ok_step feeder unanswered event event.moment
event_step feeder None place event stages.Fail = None
event_step feeder (Some unanswered) place event stages.Fail = Some (steps.Edit unanswered.register (edits.Withdraw (id_of feeder unanswered.place)))
event_step feeder unanswered place event stages.Info = None

-- the step of an edit on the register of its operation's invocation, or none without a register
abbrev pub edit_step : Option RegId → Edit → Option Step
edit_step register edit = option_map (λ register. steps.Edit register edit) register

-- the step that an accepted item gives after these accepted ones, or none
abbrev pub given_by : ℕ → List Placed → ℕ → Item → Option Step
given_by feeder accepted place (items.Event event) = event_step feeder (unanswered_of accepted event.process) place event event.answer
given_by feeder accepted place (items.Amend of change) = edit_step (register_of accepted of) (edits.Amend (id_of feeder of) change)
given_by feeder accepted place (items.Withdraw of) = edit_step (register_of accepted of) (edits.Withdraw (id_of feeder of))
given_by feeder accepted place (items.Claim register kind) = Some (steps.Edit register (edits.Claim kind))
given_by feeder accepted place (items.Ask register) = Some (steps.Ask register)
given_by feeder accepted place items.Skipped = None

-- the fault, where there is one, else an optional step
abbrev pub unless : Option PairFault → Option Step → Result (Option Step) PairFault
unless None step = Ok step
unless (Some fault) step = Err fault

-- the optional step of an item after these accepted ones, or why it is refused
abbrev pub step_of : ℕ → List Placed → ℕ → Item → Result (Option Step) PairFault
step_of feeder accepted place item = unless (fault_of accepted item) (given_by feeder accepted place item)
