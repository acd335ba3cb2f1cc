-- The steps of a trace as they read: texts by their bytes, wherever they lie in memory.
use Rattle.std.specs.Prelude.{ℕ, List, map, Option, Result, Ok, Err, option_map}
use Rattle.intervals.specs.declared.operation.RegId.{RegId}
use Rattle.jepsen_form.specs.declared.gist.RefusedForm.{RefusedForm}
use Rattle.jepsen_form.specs.declared.item.Item.{Item}
use Rattle.pairing.specs.declared.step.Step.{Step}
use Rattle.pairing.specs.declared.step.Step.TheVariants as steps
use Rattle.shards.specs.Plain.{PlainEdit, plain_edit}
use Rattle.logs.specs.declared.log.LeftOut.{LeftOut}
use Rattle.logs.specs.Steps.{StepResult, steps_of}

-- a step as it reads, with its texts by their bytes: an edit of a register, or a question about one
pub data PlainStep : Type 0 where
  edit : RegId → PlainEdit → PlainStep
  ask : RegId → PlainStep

-- a step as it reads: its texts by their bytes
abbrev pub plain_step : Step → PlainStep
plain_step (steps.Edit register change) = edit register (plain_edit change)
plain_step (steps.Ask register) = ask register

-- what an element comes to, as it reads: a step with its texts by their bytes, no step, or why it is left out
abbrev pub PlainTaken : Type 0
PlainTaken = Result (Option PlainStep) LeftOut

-- what an element comes to, as it reads: its step's texts by their bytes; a refusal has none and stays as it is
abbrev pub plain_taken : StepResult → PlainTaken
plain_taken (Ok step) = Ok (option_map plain_step step)
plain_taken (Err left_out) = Err left_out

-- the steps of a feeder's trace as they read, one for each of its elements, in order
abbrev pub plain_steps : ℕ → List (Result Item RefusedForm) → List PlainTaken
plain_steps feeder items = map plain_taken (steps_of feeder items)
