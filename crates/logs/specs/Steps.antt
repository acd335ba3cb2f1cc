-- The steps of a trace: what each of its elements comes to, given those before it.
use Rattle.std.specs.Prelude.{ℕ, ◌+◌, ◌==◌, List, [], ◌∷◌, ◌++◌, length, filter_map, Option, Some, None, Result, Ok, Err, if◌then◌else◌}
use Rattle.std.specs.List.{AllZip}
use Rattle.edn_reader.specs.Grammar.{ElementModel}
use Rattle.intervals.specs.declared.edit.Edit.{Edit}
use Rattle.tower_file.specs.Contents.{TowerModel}
use Rattle.jepsen_form.specs.declared.gist.RefusedForm.{RefusedForm}
use Rattle.jepsen_form.specs.declared.gist.Gist.{Gist}
use Rattle.jepsen_form.specs.declared.item.Item.{Item}
use Rattle.jepsen_form.specs.declared.item.MomentField.{MomentField}
use Rattle.jepsen_form.specs.Item.{IsItem}
use Rattle.pairing.specs.declared.about.About.{About}
use Rattle.pairing.specs.declared.fault.PairFault.{PairFault}
use Rattle.pairing.specs.declared.step.Step.{Step}
use Rattle.pairing.specs.declared.step.Step.TheVariants as steps
use Rattle.pairing.specs.About.{about_gist, gist_of_item}
use Rattle.pairing.specs.Accepted.{Placed, accepted}
use Rattle.pairing.specs.Step.{step_of}
use Rattle.logs.specs.declared.log.Broken.{Broken}
use Rattle.logs.specs.declared.log.Code.TheVariants.{Form, Pair}
use Rattle.logs.specs.declared.log.LeftOut.{LeftOut}
use Rattle.logs.specs.Broken.{AreElements}

-- the items of a trace's elements, in order, each with the fault of its form instead where it has one; of a trace that
-- broke those of the elements before that
pub record AreItemsOfTrace (tower : TowerModel) (chosen : MomentField) (trace : List ℕ) (broken : Option Broken) (items : List (Result Item RefusedForm)) : Type 0 where
  pub pieces : List ElementModel
  pub elements : AreElements trace broken pieces
  pub read : AllZip (IsItem tower chosen) pieces items

-- the items of these elements with their places, of which the first is given; elements that are refused by their form
-- are left out
abbrev pub placed_from : ℕ → List (Result Item RefusedForm) → List Placed
placed_from place [] = []
placed_from place (Err refused ∷ items) = placed_from (place + 1) items
placed_from place (Ok item ∷ items) = record { place = place; item = item } ∷ placed_from (place + 1) items

-- the items of a trace's elements with their places, from 0; elements that are refused by their form are left out
abbrev pub placed : List (Result Item RefusedForm) → List Placed
placed items = placed_from 0 items

-- what an element comes to: a step on a register, no step, or why it is left out
abbrev pub StepResult : Type 0
StepResult = Result (Option Step) LeftOut

-- what an element is about after the elements `before`, by what can be read of it
abbrev pub about_after : ℕ → List (Result Item RefusedForm) → Gist → About
about_after feeder before gist = about_gist feeder (accepted (placed before)) gist

-- what is left out since its form refuses it, after the elements `before`
abbrev pub left_by_form : ℕ → List (Result Item RefusedForm) → RefusedForm → LeftOut
left_by_form feeder before refused = record { code = Form refused.fault; about = about_after feeder before refused.gist }

-- what the pairing answered to an item, which is about this: an item that it refuses is left out
abbrev pub by_pairing : About → Result (Option Step) PairFault → StepResult
by_pairing about (Ok step) = Ok step
by_pairing about (Err fault) = Err (record { code = Pair fault; about = about })

-- what an element after the elements `before` comes to: it is refused by its form, or the pairing answers, which looks
-- back over the items before it
abbrev pub step_after : ℕ → List (Result Item RefusedForm) → Result Item RefusedForm → StepResult
step_after feeder before (Err refused) = Err (left_by_form feeder before refused)
step_after feeder before (Ok item) = by_pairing (about_after feeder before (gist_of_item item)) (step_of feeder (accepted (placed before)) (length before) item)

-- what each of these elements comes to, in order, after the elements `before`
abbrev pub steps_after : ℕ → List (Result Item RefusedForm) → List (Result Item RefusedForm) → List StepResult
steps_after feeder before [] = []
steps_after feeder before (item ∷ items) = step_after feeder before item ∷ steps_after feeder (before ++ item ∷ []) items

-- the steps of a feeder's trace, one for each of its elements, in order; the place of a step is that of its element
abbrev pub steps_of : ℕ → List (Result Item RefusedForm) → List StepResult
steps_of feeder items = steps_after feeder [] items

-- the edit of what an element comes to, where that is a step on the register of this number; else none
abbrev pub edit_on : ℕ → StepResult → Option Edit
edit_on number (Err left_out) = None
edit_on number (Ok None) = None
edit_on number (Ok (Some (steps.Edit register edit))) = if register.0 == number then Some edit else None
edit_on number (Ok (Some (steps.Ask register))) = None

-- the edits of the register of this number among these steps, in order
abbrev pub edits_among : ℕ → List StepResult → List Edit
edits_among number steps = filter_map (edit_on number) steps
