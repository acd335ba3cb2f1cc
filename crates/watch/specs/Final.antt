-- A failure after which nothing comes, and traces that edit nothing as they are read.
use Rattle.std.specs.Prelude.{◌≡◌, ℕ, Bool, true, List, [], ◌∷◌, All, Option, Result}
use Rattle.tower_file.specs.Contents.{TowerModel}
use Rattle.jepsen_form.specs.declared.gist.RefusedForm.{RefusedForm}
use Rattle.jepsen_form.specs.declared.item.Item.{Item}
use Rattle.jepsen_form.specs.declared.item.MomentField.{MomentField}
use Rattle.logs.specs.declared.log.Broken.{Broken}
use Rattle.logs.specs.Steps.{AreItemsOfTrace}
use Rattle.watch.specs.Trace.{IsNoFail, IsPlainTrace}

-- nothing in the list stands after one that fails
abbrev pub FailsLast : {A : Type 0} → (A → Bool) → List A → Type 0
FailsLast fails [] = Unit {0}
FailsLast fails (one ∷ more) = (fails one ≡ true → more ≡ []) × FailsLast fails more

-- the trace, up to where it broke if it did, edits nothing, and its moments do not fall
abbrev pub IsPlainText : TowerModel → MomentField → Option Broken → List ℕ → Type 0
IsPlainText tower chosen broken trace = (items : List (Result Item RefusedForm)) → AreItemsOfTrace tower chosen trace broken items → IsPlainTrace items

-- no element of the trace, up to where it broke if it did, is a `:fail`
abbrev pub HasNoFail : TowerModel → MomentField → Option Broken → List ℕ → Type 0
HasNoFail tower chosen broken trace = (items : List (Result Item RefusedForm)) → AreItemsOfTrace tower chosen trace broken items → All IsNoFail items
