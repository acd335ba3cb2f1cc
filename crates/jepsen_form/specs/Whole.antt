-- What each item that was read has: the register and the moment that it needs, and a register of the tower.
use Rattle.std.specs.Prelude.{⊤, ◌<◌, ℕ, Option, Some, None, IsSome, IfSome}
use Rattle.intervals.specs.declared.operation.RegId.{RegId}
use Rattle.intervals.specs.declared.operation.Moment.{Moment}
use Rattle.jepsen_form.specs.declared.item.Event.{Event as AnEvent}
use Rattle.jepsen_form.specs.declared.item.Item.{Item}
use Rattle.jepsen_form.specs.declared.item.Item.TheVariants.{Event, Amend, Withdraw, Claim, Ask, Skipped}
use Rattle.jepsen_form.specs.declared.item.Stage.{Stage}
use Rattle.jepsen_form.specs.declared.item.Stage.TheVariants.{Invoke, Ok, Fail, Info}

-- the register and the moment are there where the stage needs them: at an invocation and at an answer that is `:ok`
abbrev pub HasWhatItNeeds : Stage → Option RegId → Option Moment → Type 0
HasWhatItNeeds Invoke register moment = IsSome register × IsSome moment
HasWhatItNeeds Ok register moment = IsSome register × IsSome moment
HasWhatItNeeds Fail register moment = ⊤
HasWhatItNeeds Info register moment = ⊤

-- the event has the register and the moment that its stage needs
abbrev pub IsWholeEvent : AnEvent → Type 0
IsWholeEvent event = HasWhatItNeeds event.answer event.register event.moment

-- the item, where it is an event, has the register and the moment that its stage needs
abbrev pub IsWhole : Item → Type 0
IsWhole (Event event) = IsWholeEvent event
IsWhole (Amend of change) = ⊤
IsWhole (Withdraw of) = ⊤
IsWhole (Claim register kind) = ⊤
IsWhole (Ask register) = ⊤
IsWhole Skipped = ⊤

-- the register that an item names, or none
abbrev pub named_by : Item → Option RegId
named_by (Event event) = event.register
named_by (Amend of change) = None
named_by (Withdraw of) = None
named_by (Claim register kind) = Some register
named_by (Ask register) = Some register
named_by Skipped = None

-- the register that an item names, where it names one, has a number below this one
abbrev pub NamesBelow : ℕ → Item → Type 0
NamesBelow count item = IfSome (named_by item) (λ register. register.0 < count)
