-- Which items of a trace are accepted, by looking back over those that were accepted before.
use Rattle.std.specs.Prelude.{ℕ, ℤ, Bool, false, ◌==◌, List, [], ◌∷◌, ◌++◌, reverse, find, filter_map, fold, Option, Some, None, is_some, option_map, option_and_then, if◌then◌else◌}
use Rattle.std.specs.Ordering.{int_eq}
use Rattle.intervals.specs.declared.operation.RegId.{RegId}
use Rattle.jepsen_form.specs.declared.item.Event.{Event as AnEvent}
use Rattle.jepsen_form.specs.declared.item.Item.{Item}
use Rattle.jepsen_form.specs.declared.item.Item.TheVariants.{Event, Amend, Withdraw, Claim, Ask, Skipped}
use Rattle.jepsen_form.specs.declared.item.Stage.{Stage}
use Rattle.jepsen_form.specs.declared.item.Stage.TheVariants.{Invoke, Ok, Fail, Info}
use Rattle.pairing.specs.declared.invocation.Invocation.{Invocation}
use Rattle.pairing.specs.declared.fault.PairFault.{PairFault}
use Rattle.pairing.specs.declared.fault.PairFault.TheVariants.{ProcessBusy, NoInvocation, AnswerMismatch}
use Rattle.pairing.specs.Invocation.{invocation_of, answers}

-- an item, with its place in the trace
pub record Placed : Type 0 where
  pub place : ℕ
  pub item : Item

-- the test that an item is an event of this process
abbrev pub is_event_of : ℤ → Item → Bool
is_event_of process (Event event) = int_eq process event.process
is_event_of process (Amend of change) = false
is_event_of process (Withdraw of) = false
is_event_of process (Claim register kind) = false
is_event_of process (Ask register) = false
is_event_of process Skipped = false

-- the invocation that an item with its place is, or none
abbrev pub invocation : Placed → Option Invocation
invocation one = invocation_of one.place one.item

-- the last event of this process among accepted items, or none
abbrev pub last_of : List Placed → ℤ → Option Placed
last_of accepted process = find (λ one. is_event_of process one.item) (reverse accepted)

-- the unanswered invocation of a process, or none: its last accepted event, where that is an invocation
abbrev pub unanswered_of : List Placed → ℤ → Option Invocation
unanswered_of accepted process = option_and_then invocation (last_of accepted process)

-- the register of the accepted invocation at this place, or none
abbrev pub register_of : List Placed → ℕ → Option RegId
register_of accepted place =
    option_map (λ one. one.register) (find (λ one. one.place == place) (filter_map invocation accepted))

-- why an event of this stage is refused, or none, by the unanswered invocation of its process: P1, an invocation
-- where there is one; P2, an answer where there is none; P3, an `:ok` that does not agree with it
abbrev pub event_fault : Option Invocation → AnEvent → Stage → Option PairFault
event_fault None event Invoke = None
event_fault (Some unanswered) event Invoke = Some ProcessBusy
event_fault None event Ok = Some NoInvocation
event_fault (Some unanswered) event Ok = if answers unanswered event then None else Some AnswerMismatch
event_fault None event Fail = Some NoInvocation
event_fault (Some unanswered) event Fail = None
event_fault None event Info = Some NoInvocation
event_fault (Some unanswered) event Info = None

-- why an edit is refused, or none, by the register of the accepted invocation that it names: P2 where there is none
abbrev pub edit_fault : Option RegId → Option PairFault
edit_fault None = Some NoInvocation
edit_fault (Some register) = None

-- why an item is refused after these accepted ones, or none
abbrev pub fault_of : List Placed → Item → Option PairFault
fault_of accepted (Event event) = event_fault (unanswered_of accepted event.process) event event.answer
fault_of accepted (Amend of change) = edit_fault (register_of accepted of)
fault_of accepted (Withdraw of) = edit_fault (register_of accepted of)
fault_of accepted (Claim register kind) = None
fault_of accepted (Ask register) = None
fault_of accepted Skipped = None

-- the accepted items after one more item, which is left out where it is refused
abbrev pub with_accepted : List Placed → Placed → List Placed
with_accepted accepted one = if is_some (fault_of accepted one.item) then accepted else accepted ++ one ∷ []

-- the accepted ones of these items, in order, each judged after the accepted ones before it
abbrev pub accepted : List Placed → List Placed
accepted items = fold with_accepted [] items
