-- The register of a step is one of the plan's.
use Rattle.std.proofs.Common.{◌≡◌, ℕ, ◌+◌, ◌<◌, List, [], ◌∷◌, length, Option, Some, None, Result, Ok, Err, IfOk, All, refl, sym, ap, subst, ◌∙◌}
use Rattle.std.specs.List.{AllByRecursion, AllZip}
use Rattle.std.proofs.lemmas.List.{length-map}
use Rattle.std.proofs.lemmas.List.Elements.{All-from_recursion}
use Rattle.edn_reader.specs.Grammar.{ElementModel}
use Rattle.tower_file.specs.Contents.{TowerModel}
use Rattle.jepsen_form.specs.declared.gist.RefusedForm.{RefusedForm}
use Rattle.jepsen_form.specs.declared.item.Item.{Item}
use Rattle.jepsen_form.specs.declared.item.MomentField.{MomentField}
use Rattle.jepsen_form.specs.Item.{IsItem}
use Rattle.jepsen_form.specs.Whole.{NamesBelow}
use Rattle.pairing.specs.declared.about.About.{About}
use Rattle.pairing.specs.declared.fault.PairFault.{PairFault}
use Rattle.pairing.specs.declared.step.Step.{Step}
use Rattle.pairing.specs.declared.step.Step.TheVariants as steps
use Rattle.pairing.specs.About.{gist_of_item}
use Rattle.pairing.specs.Accepted.{Placed, accepted}
use Rattle.pairing.specs.Answering.{step_register}
use Rattle.pairing.specs.Step.{step_of}
use Rattle.shards.specs.Plan.{Plan, claims_of}
use Rattle.feeders.specs.Progress.{IsKnownStep}
use Rattle.logs.specs.Steps.{about_after, StepResult, by_pairing, placed, placed_from, step_after}

-- the laws of the crates below
abbrev pub ItemsName : Type 0
ItemsName = (tower : TowerModel) (chosen : MomentField) (piece : ElementModel) (answer : Result Item RefusedForm) → IsItem tower chosen piece answer → IfOk answer (NamesBelow (length tower.registers))

abbrev pub StepsAreOn : Type 0
StepsAreOn = (count feeder place : ℕ) (items : List Placed) (item : Item) (step : Step) → All (λ one. NamesBelow count one.item) items → NamesBelow count item
    → step_of feeder (accepted items) place item ≡ Ok (Some step) → (step_register step).0 < count

named_from : (tower : TowerModel) (chosen : MomentField) → ItemsName → (place : ℕ) (pieces : List ElementModel) (items : List (Result Item RefusedForm)) → AllZip (IsItem tower chosen) pieces items
    → AllByRecursion (λ (one : Placed). NamesBelow (length tower.registers) one.item) (placed_from place items)
named_from tower chosen name place [] [] read = tt
named_from tower chosen name place [] (item ∷ items) read = absurd read
named_from tower chosen name place (piece ∷ pieces) [] read = absurd read
named_from tower chosen name place (piece ∷ pieces) (Err fault ∷ items) read = named_from tower chosen name (place + 1) pieces items read.1
named_from tower chosen name place (piece ∷ pieces) (Ok item ∷ items) read = (name tower chosen piece (Ok item) read.0, named_from tower chosen name (place + 1) pieces items read.1)

known_by : (plan : Plan) (about : About) (step : Result (Option Step) PairFault) → ((one : Step) → step ≡ Ok (Some one) → (step_register one).0 < length plan.claims) → IsKnownStep plan (by_pairing about step)
known_by plan about (Err fault) on = tt
known_by plan about (Ok None) on = tt
known_by plan about (Ok (Some (steps.Edit register edit))) on = on (steps.Edit register edit) refl
known_by plan about (Ok (Some (steps.Ask register))) on = on (steps.Ask register) refl

pub known_step : (plan : Plan) (tower : TowerModel) (chosen : MomentField) → ItemsName → StepsAreOn → (feeder : ℕ) (pieces : List ElementModel) (items : List (Result Item RefusedForm)) (last : ElementModel)
    (item : Result Item RefusedForm) (step : StepResult) → plan.claims ≡ claims_of tower → AllZip (IsItem tower chosen) pieces items → IsItem tower chosen last item → step ≡ step_after feeder items item
    → IsKnownStep plan step
known_step plan tower chosen name on feeder pieces items last (Err fault) step claims read is step_is = subst (IsKnownStep plan) (sym step_is) tt
known_step plan tower chosen name on feeder pieces items last (Ok item) step claims read is step_is =
    let many : length tower.registers ≡ length plan.claims = sym (ap length claims ∙ length-map tower.registers (λ register. register.claim)) in
    subst (IsKnownStep plan) (sym step_is)
    (known_by plan (about_after feeder items (gist_of_item item)) (step_of feeder (accepted (placed items)) (length items) item)
    (λ one one_is. subst (λ (n : ℕ). (step_register one).0 < n) many
    (on (length tower.registers) feeder (length items) (placed items) item one
    (All-from_recursion (λ (one : Placed). NamesBelow (length tower.registers) one.item) (placed items) (named_from tower chosen name 0 pieces items read)) (name tower chosen last (Ok item) is) one_is)))
