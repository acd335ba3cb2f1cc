-- Which elements lend their text to a step. Only private clauses speak of it.
use Rattle.std.specs.Prelude.{Bool, false, Some, None, is_some, Result, Ok, Err}
use Rattle.intervals.specs.declared.edit.Edit.TheVariants as edits
use Rattle.jepsen_form.specs.declared.gist.RefusedForm.{RefusedForm}
use Rattle.jepsen_form.specs.declared.item.Item.{Item}
use Rattle.pairing.specs.declared.step.Step.TheVariants as steps
use Rattle.logs.specs.Steps.{StepResult}
use Rattle.feeders.specs.Texts.{brought}

-- whether an item's step may lend its text: that of an invocation, of an answer that is `:ok`, or of an amendment
abbrev pub is_lent : Result Item RefusedForm → Bool
is_lent (Err fault) = false
is_lent (Ok item) = is_some (brought item)

-- a step that lends no text (a withdrawal, a claim, a question), no step, or a refusal
abbrev pub LendsNone : StepResult → Type 0
LendsNone (Err code) = Unit {0}
LendsNone (Ok None) = Unit {0}
LendsNone (Ok (Some (steps.Edit register (edits.Append op)))) = ⊥
LendsNone (Ok (Some (steps.Edit register (edits.Amend id change)))) = ⊥
LendsNone (Ok (Some (steps.Edit register (edits.Withdraw id)))) = Unit {0}
LendsNone (Ok (Some (steps.Edit register (edits.Claim kind)))) = Unit {0}
LendsNone (Ok (Some (steps.Ask register))) = Unit {0}
