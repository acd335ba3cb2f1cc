-- Which event answers which invocation, said of the accepted items as a whole.
use Rattle.std.specs.Prelude.{◌≡◌, ℤ, Bool, true, false, List, ◌∷◌, ◌++◌, Option, None, IsTrue}
use Rattle.std.specs.List.{list_any}
use Rattle.intervals.specs.declared.operation.OpId.{OpId}
use Rattle.intervals.specs.declared.operation.RegId.{RegId}
use Rattle.intervals.specs.Edit.{edit_id}
use Rattle.jepsen_form.specs.declared.item.Item.{Item}
use Rattle.jepsen_form.specs.declared.item.Item.TheVariants.{Event, Amend, Withdraw, Claim, Ask, Skipped}
use Rattle.jepsen_form.specs.declared.item.Stage.{Stage}
use Rattle.jepsen_form.specs.declared.item.Stage.TheVariants.{Invoke, Ok, Fail, Info}
use Rattle.pairing.specs.declared.step.Step.{Step}
use Rattle.pairing.specs.declared.step.Step.TheVariants as steps
use Rattle.pairing.specs.Accepted.{Placed, is_event_of}

-- the test that a stage is that of an invocation; the other stages are answers
abbrev pub invokes : Stage → Bool
invokes Invoke = true
invokes Ok = false
invokes Fail = false
invokes Info = false

-- the test that an item is an event whose stage is that of an invocation
abbrev pub is_invocation : Item → Bool
is_invocation (Event event) = invokes event.answer
is_invocation (Amend of change) = false
is_invocation (Withdraw of) = false
is_invocation (Claim register kind) = false
is_invocation (Ask register) = false
is_invocation Skipped = false

-- none of these items is an event of the process
abbrev pub IsSilent : ℤ → List Placed → Type 0
IsSilent process items = list_any (λ one. is_event_of process one.item) items ≡ false

-- the item is the first event of the process among these items
pub record IsFirstEvent (items : List Placed) (process : ℤ) (one : Placed) : Type 0 where
  pub before : List Placed
  pub after : List Placed
  pub parts : items ≡ before ++ one ∷ after
  pub is_event : IsTrue (is_event_of process one.item)
  pub silent : IsSilent process before

-- the later item is the first event of the process after the earlier one, which is an event of the process too
pub record IsNext (items : List Placed) (process : ℤ) (earlier later : Placed) : Type 0 where
  pub before : List Placed
  pub between : List Placed
  pub after : List Placed
  pub parts : items ≡ before ++ earlier ∷ (between ++ later ∷ after)
  pub earlier_is : IsTrue (is_event_of process earlier.item)
  pub later_is : IsTrue (is_event_of process later.item)
  pub silent : IsSilent process between

-- the id of the operation that a step edits, or none: a question and a claim edit none
abbrev pub step_id : Step → Option OpId
step_id (steps.Edit register edit) = edit_id edit
step_id (steps.Ask register) = None

-- the register that a step is on
abbrev pub step_register : Step → RegId
step_register (steps.Edit register edit) = register
step_register (steps.Ask register) = register
