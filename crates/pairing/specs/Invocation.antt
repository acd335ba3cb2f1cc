-- Invocations of operations, and the answers that agree with them.
use Rattle.std.specs.Prelude.{ℕ, Bool, true, false, ◌&&◌, ◌==◌, Option, Some, None}
use Rattle.intervals.specs.declared.operation.RegId.{RegId}
use Rattle.intervals.specs.declared.operation.Value.{Value}
use Rattle.intervals.specs.Operation.{same_value}
use Rattle.jepsen_form.specs.declared.item.Action.{Action}
use Rattle.jepsen_form.specs.declared.item.Action.TheVariants.{Read, Write}
use Rattle.jepsen_form.specs.declared.item.Event.{Event as AnEvent}
use Rattle.jepsen_form.specs.declared.item.Item.{Item}
use Rattle.jepsen_form.specs.declared.item.Item.TheVariants.{Event, Amend, Withdraw, Claim, Ask, Skipped}
use Rattle.jepsen_form.specs.declared.item.Stage.{Stage}
use Rattle.jepsen_form.specs.declared.item.Stage.TheVariants.{Invoke, Ok, Fail, Info}
use Rattle.pairing.specs.declared.invocation.Invocation.{Invocation}

-- the invocation that an event is by its stage and its optional register, or none: `:invoke` with a register is one
abbrev pub invocation_by : ℕ → AnEvent → Stage → Option RegId → Option Invocation
invocation_by place event Invoke (Some register) =
    Some (record { place = place; register = register; action = event.action; value = event.value })
invocation_by place event Invoke None = None
invocation_by place event Ok register = None
invocation_by place event Fail register = None
invocation_by place event Info register = None

-- the invocation that the item at this place is, or none
abbrev pub invocation_of : ℕ → Item → Option Invocation
invocation_of place (Event event) = invocation_by place event event.answer event.register
invocation_of place (Amend of change) = None
invocation_of place (Withdraw of) = None
invocation_of place (Claim register kind) = None
invocation_of place (Ask register) = None
invocation_of place Skipped = None

-- the test that an optional register is there and is this one
abbrev pub is_on : Option RegId → RegId → Bool
is_on None register = false
is_on (Some said) register = said.0 == register.0

-- the test that two actions are the same and, of two writes, the values too
abbrev pub same_act : Action → Action → Value → Value → Bool
same_act Read Read invoked answered = true
same_act Read Write invoked answered = false
same_act Write Read invoked answered = false
same_act Write Write invoked answered = same_value invoked answered

-- the test that an event agrees with an invocation: it has the same register and action, and for a write the same
-- value
abbrev pub answers : Invocation → AnEvent → Bool
answers invocation event =
    is_on event.register invocation.register && same_act invocation.action event.action invocation.value event.value
