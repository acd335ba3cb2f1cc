-- A trace that edits nothing, in the order of its moments.
use Rattle.std.specs.Prelude.{◌≢◌, ◌≤◌, List, Option, None, Result, Ok, Err, All, IfSome}
use Rattle.std.specs.List.{AllPairs}
use Rattle.intervals.specs.declared.operation.Moment.{Moment}
use Rattle.jepsen_form.specs.declared.gist.RefusedForm.{RefusedForm}
use Rattle.jepsen_form.specs.declared.item.Item.{Item}
use Rattle.jepsen_form.specs.declared.item.Item.TheVariants.{Event, Amend, Withdraw, Claim, Ask, Skipped}
use Rattle.jepsen_form.specs.declared.item.Stage.TheVariants.{Fail}

-- the item amends, withdraws and claims nothing: it is an event, a question, or skipped
abbrev pub IsNoEdit : Item → Type 0
IsNoEdit (Event event) = Unit {0}
IsNoEdit (Amend of change) = ⊥
IsNoEdit (Withdraw of) = ⊥
IsNoEdit (Claim register kind) = ⊥
IsNoEdit (Ask register) = Unit {0}
IsNoEdit Skipped = Unit {0}

-- the moment of an item, or none
abbrev pub item_moment : Item → Option Moment
item_moment (Event event) = event.moment
item_moment (Amend of change) = None
item_moment (Withdraw of) = None
item_moment (Claim register kind) = None
item_moment (Ask register) = None
item_moment Skipped = None

-- the element is refused by its form, or its item edits nothing (`IsNoEdit`)
abbrev pub EditsNothing : Result Item RefusedForm → Type 0
EditsNothing (Err fault) = Unit {0}
EditsNothing (Ok item) = IsNoEdit item

-- the moment of an element's item, or none
abbrev pub element_moment : Result Item RefusedForm → Option Moment
element_moment (Err fault) = None
element_moment (Ok item) = item_moment item

-- the optional second moment, where it is there, is not before the first
abbrev pub IsNotAfter : Moment → Option Moment → Type 0
IsNotAfter moment other = IfSome other (λ m. moment.0 ≤ m.0)

-- the second element's moment is not before the first one's, where both have one
abbrev pub IsInOrderWith : Result Item RefusedForm → Result Item RefusedForm → Type 0
IsInOrderWith a b = IfSome (element_moment a) (λ m. IsNotAfter m (element_moment b))

-- a trace whose elements edit nothing and whose moments do not fall
pub record IsPlainTrace (items : List (Result Item RefusedForm)) : Type 0 where
  pub unedited : All EditsNothing items
  pub order : AllPairs IsInOrderWith items

-- the item is no `:fail`
abbrev pub IsNoFailItem : Item → Type 0
IsNoFailItem (Event event) = event.answer ≢ Fail
IsNoFailItem (Amend of change) = Unit {0}
IsNoFailItem (Withdraw of) = Unit {0}
IsNoFailItem (Claim register kind) = Unit {0}
IsNoFailItem (Ask register) = Unit {0}
IsNoFailItem Skipped = Unit {0}

-- the element is refused by its form, or its item is no `:fail`
abbrev pub IsNoFail : Result Item RefusedForm → Type 0
IsNoFail (Err fault) = Unit {0}
IsNoFail (Ok item) = IsNoFailItem item
