-- What the command `safe` prints of a trace, and its status.
use Rattle.std.specs.Prelude.{◌≡◌, ◌↔◌, ℕ, Bool, false, not, List, ◌∷◌, ◌++◌, length, Option, Some, None, Result, Ok, Err, IsSome, IsTrue, is_some, codes}
use Rattle.std.specs.Io.KnownBytes.{Appends}
use Rattle.intervals.specs.declared.claim.Kind.{Kind}
use Rattle.intervals.specs.Terms.{RegisterState, unedited}
use Rattle.intervals.specs.Kind.{Holds}
use Rattle.intervals.specs.Refusal.{reply_to, standing}
use Rattle.jepsen_form.specs.declared.gist.RefusedForm.{RefusedForm}
use Rattle.jepsen_form.specs.declared.item.Item.{Item}
use Rattle.jepsen_form.specs.declared.item.MomentField.TheVariants.{Index}
use Rattle.pairing.specs.declared.step.Step.TheVariants as steps
use Rattle.tower_file.specs.Alone.{alone_claim, alone_tower}
use Rattle.logs.specs.declared.log.Broken.{Broken}
use Rattle.feeders.specs.Readers.{IsReadOf}
use Rattle.logs.specs.Steps.{AreItemsOfTrace, StepResult, edits_among, steps_of}
use Rattle.phrases.specs.Register.{register_line}
use Rattle.command_parts.specs.Status.{status_of}

-- the one register as steps leave it: its claim, and the operations that stand
abbrev pub standing_after : List StepResult → RegisterState
standing_after taken = standing (unedited alone_claim) (edits_among 0 taken)

-- a step after these is refused: for its element's form, by the pairing, or by the register as it is then
abbrev pub IsRefused : List StepResult → StepResult → Type 0
IsRefused before (Err left_out) = Unit {0}
IsRefused before (Ok None) = ⊥
IsRefused before (Ok (Some (steps.Edit register edit))) = IsSome (reply_to (standing_after before) edit)
IsRefused before (Ok (Some (steps.Ask register))) = ⊥

-- one of the steps is refused
pub record HasRefused (taken : List StepResult) : Type 0 where
  pub before : List StepResult
  pub step : StepResult
  pub rest : List StepResult
  pub parts : taken ≡ before ++ step ∷ rest
  pub refused : IsRefused before step

-- what is said of the one register after these elements: its kind, its verdict, how many operations stand, and whether
-- an element was refused
pub record IsVerdict (items : List (Result Item RefusedForm)) (kind : Kind) (holds refused : Bool) (operations : ℕ) : Type 0 where
  pub kind_is : kind ≡ (standing_after (steps_of 0 items)).claim.kind
  pub verdict : IsTrue holds ↔ Holds (standing_after (steps_of 0 items))
  pub count : operations ≡ length (standing_after (steps_of 0 items)).ops
  pub refusals : IsTrue refused ↔ HasRefused (steps_of 0 items)

-- the line of the one register, which is named r
abbrev pub verdict_line : Kind → Bool → ℕ → List ℕ
verdict_line kind holds operations = register_line (codes "r") kind holds operations

-- what `safe` did: an input was judged up to its end or its first fault, as far as it was read (all, or a prefix
-- where the reading broke off); the line of the register was written, and the status is that of the verdict
pub record IsAudited (input : List ℕ) (status : ℕ) (old new : Option (List ℕ)) : Type 0 where
  pub broken : Option Broken
  pub read : List ℕ
  pub is_read : IsReadOf (Some input) broken read
  pub items : List (Result Item RefusedForm)
  pub are : AreItemsOfTrace alone_tower Index read broken items
  pub kind : Kind
  pub holds : Bool
  pub refused : Bool
  pub operations : ℕ
  pub verdict : IsVerdict items kind holds refused operations
  pub written : Appends old new (verdict_line kind holds operations)
  pub status_is : status ≡ status_of (is_some broken) (not holds) refused false
