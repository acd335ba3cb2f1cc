-- A pairing that knows the items so far knows one more item after it has taken it.
use Rattle.std.proofs.Common.{◌≡◌, ℕ, ℤ, ◌<◌, ◌≤◌, ◌==◌, true, false, List, [], ◌∷◌, ◌++◌, find, Option, Some, None, Err, is_some, is_err, if◌then◌else◌, All, refl, sym, ◌∙◌, ap, arith}
use Rattle.std.specs.List.{filter_map, cons_option}
use Rattle.std.specs.Option.{option_map, option_or, option_and_then, ForSome}
use Rattle.std.proofs.lemmas.List.{reverse-append}
use Rattle.std.proofs.lemmas.List.Elements.{All-weaker, All-push, filter_map-append}
use Rattle.std.proofs.lemmas.List.Sums.{fold_push}
use Rattle.intervals.specs.declared.operation.RegId.{RegId}
use Rattle.pairing.specs.declared.invocation.Invocation.{Invocation}
use Rattle.jepsen_form.specs.declared.item.Event.{Event as AnEvent}
use Rattle.jepsen_form.specs.declared.item.Item.{Item}
use Rattle.jepsen_form.specs.declared.item.Item.TheVariants.{Event, Amend, Withdraw, Claim, Ask, Skipped}
use Rattle.jepsen_form.specs.declared.item.Stage.{Stage}
use Rattle.jepsen_form.specs.declared.item.Stage.TheVariants.{Invoke, Ok, Fail, Info}
use Rattle.pairing.specs.declared.fault.PairFault.{PairFault}
use Rattle.pairing.specs.declared.step.Step.{Step}
use Rattle.pairing.specs.Invocation.{invocation_by, invocation_of}
use Rattle.pairing.specs.Step.{unless, given_by, step_of}
use Rattle.pairing.proofs.Rows.{rises_push}
use Rattle.pairing.specs.Accepted.{Placed, is_event_of, invocation, last_of, unanswered_of, register_of, fault_of, with_accepted, accepted}
use Rattle.pairing.specs.Known.{PairingModel, IsUpTo, KnowsItems, register_at}
use Rattle.pairing.specs.Waiting.{Waiting, waits_at}
use Rattle.pairing.specs.Registers.{with_row, IsRising, answer_beside}

-- the register of an optional invocation, where it is at this place
abbrev pub said_at : Option Invocation → ℕ → Option RegId
said_at None place = None
said_at (Some said) place = if said.place == place then Some said.register else None

-- the register of the first of the invocations at this place
abbrev pub found : List Invocation → ℕ → Option RegId
found said place = option_map (λ one. one.register) (find (λ one. one.place == place) said)

found_more : (said : List Invocation) (more : Option Invocation) (place : ℕ) → found (said ++ cons_option more []) place ≡ option_or (found said place) (said_at more place)
found_more [] None place = refl
found_more [] (Some more) place = elim (more.place == place) as (λ t. option_map (λ one. one.register) (if t then Some more else None) ≡ (if t then Some more.register else None)) [ true ↦ refl | false ↦ refl ]
found_more (one ∷ said) more place = elim (one.place == place) as (λ t. option_map (λ one. one.register) (if t then Some one else find (λ one. one.place == place) (said ++ cons_option more [])) ≡ option_or (option_map (λ one. one.register) (if t then Some one else find (λ one. one.place == place) said)) (said_at more place)) [ true ↦ refl | false ↦ found_more said more place ]

-- the register at a place, after one more accepted item
register_push : (taken : List Placed) (one : Placed) (place : ℕ) → register_of (taken ++ one ∷ []) place ≡ option_or (register_of taken place) (said_at (invocation one) place)
register_push taken one place = ap (λ said. found said place) (filter_map-append invocation taken (one ∷ [])) ∙ found_more (filter_map invocation taken) (invocation one) place

row_push : (rows : List (ℕ × RegId)) (said : Invocation) (place : ℕ) → register_at (rows ++ (said.place, said.register) ∷ []) place ≡ option_or (register_at rows place) (said_at (Some said) place)
row_push [] said place = refl
row_push (row ∷ rows) said place = elim (row.0 == place) as (λ t. (if t then Some row.1 else register_at (rows ++ (said.place, said.register) ∷ []) place) ≡ option_or (if t then Some row.1 else register_at rows place) (said_at (Some said) place)) [ true ↦ refl | false ↦ row_push rows said place ]

-- the register at a place of the rows, after the row of one more invocation
rows_push : (rows : List (ℕ × RegId)) (said : Option Invocation) (place : ℕ) → register_at (with_row rows said) place ≡ option_or (register_at rows place) (said_at said place)
rows_push rows None place = elim (register_at rows place) as (λ r. r ≡ option_or r None) [ None ↦ refl | Some r ↦ refl ]
rows_push rows (Some said) place = row_push rows said place

-- the unanswered invocation of a process, after one more accepted item
unanswered_push : (taken : List Placed) (one : Placed) (process : ℤ) → unanswered_of (taken ++ one ∷ []) process ≡ (if is_event_of process one.item then invocation one else unanswered_of taken process)
unanswered_push taken one process = ap (λ back. option_and_then invocation (find (λ one. is_event_of process one.item) back)) (reverse-append taken (one ∷ [])) ∙ elim (is_event_of process one.item) as (λ t. option_and_then invocation (if t then Some one else last_of taken process) ≡ (if t then invocation one else unanswered_of taken process)) [ true ↦ refl | false ↦ refl ]

-- the accepted items, with one more item
accepted_push : (items : List Placed) (one : Placed) → accepted (items ++ one ∷ []) ≡ with_accepted (accepted items) one
accepted_push items one = fold_push with_accepted [] items one

refused_push : (items : List Placed) (one : Placed) → is_some (fault_of (accepted items) one.item) ≡ true → accepted (items ++ one ∷ []) ≡ accepted items
refused_push items one is = rw (accepted_push items one, is) refl

taken_push : (items : List Placed) (one : Placed) → is_some (fault_of (accepted items) one.item) ≡ false → accepted (items ++ one ∷ []) ≡ accepted items ++ one ∷ []
taken_push items one is = rw (accepted_push items one, is) refl

up_later : (last : Option ℕ) (place at : ℕ) → ForSome last (λ last. last < place) → IsUpTo last at → at < place
up_later None place at rises up = absurd up
up_later (Some last) place at rises up = omega (arith, rises last refl, up)

-- no item has a place after that of one more item
places_later : (last : Option ℕ) (items : List Placed) (one : Placed) → ForSome last (λ last. last < one.place) → All (λ one. IsUpTo last one.place) items → All (λ other. other.place ≤ one.place) (items ++ one ∷ [])
places_later last items one rises all =
    let lower = All-weaker (λ (other : Placed). IsUpTo last other.place) (λ (other : Placed). other.place ≤ one.place) (λ other up. omega (arith, up_later last one.place other.place rises up)) items all in
    All-push (λ other. other.place ≤ one.place) items one lower (omega arith)

-- what is known gives the step that a look back over the accepted items gives
pub same_answer : (known : PairingModel) (items : List Placed) (place : ℕ) (item : Item) → KnowsItems known items → answer_beside known place item ≡ step_of known.feeder (accepted items) place item
same_answer known items place (Event event) after = rw (after.unanswered event.process) refl
same_answer known items place (Amend of change) after = rw (after.registers of) refl
same_answer known items place (Withdraw of) after = rw (after.registers of) refl
same_answer known items place (Claim register kind) after = refl
same_answer known items place (Ask register) after = refl
same_answer known items place Skipped after = refl

err_is_fault : (fault : Option PairFault) (step : Option Step) → is_err (unless fault step) ≡ is_some fault
err_is_fault None step = refl
err_is_fault (Some fault) step = refl

-- what is known gives a fault where a look back gives one
faulty : (known : PairingModel) (items : List Placed) (place : ℕ) (item : Item) → KnowsItems known items → is_err (answer_beside known place item) ≡ is_some (fault_of (accepted items) item)
faulty known items place item after = ap is_err (same_answer known items place item after) ∙ err_is_fault (fault_of (accepted items) item) (given_by known.feeder (accepted items) place item)

-- after a refused item a pairing knows the items, with only its last place changed
pub after_refused : (known : PairingModel) (items : List Placed) (place : ℕ) (item : Item) → ForSome known.last (λ last. last < place) → is_err (answer_beside known place item) ≡ true → KnowsItems known items → KnowsItems (record known { last = Some place }) (items ++ record { place = place; item = item } ∷ [])
after_refused known items place item rises err after =
    let one : Placed = record { place = place; item = item } in
    let same = refused_push items one (sym (faulty known items place item after) ∙ err) in
    record {
      places = places_later known.last items one rises after.places;
      unanswered = λ process. rw same (after.unanswered process);
      registers = λ place. rw same (after.registers place);
    }

-- after an accepted item a pairing knows the items, where it has kept the item's invocation
pub after_taken : (known : PairingModel) (items : List Placed) (place : ℕ) (item : Item) → ForSome known.last (λ last. last < place) → is_err (answer_beside known place item) ≡ false → (unanswered : Waiting) (registers : List (ℕ × RegId)) → ((process : ℤ) → waits_at unanswered process ≡ (if is_event_of process item then invocation_of place item else waits_at known.unanswered process)) → registers ≡ with_row known.registers (invocation_of place item) → KnowsItems known items → KnowsItems (record { feeder = known.feeder; last = Some place; unanswered = unanswered; registers = registers }) (items ++ record { place = place; item = item } ∷ [])
after_taken known items place item rises ok unanswered registers waits rows after =
    let one : Placed = record { place = place; item = item } in
    let more = taken_push items one (sym (faulty known items place item after) ∙ ok) in
    record {
      places = places_later known.last items one rises after.places;
      unanswered = λ process. waits process ∙ ap (λ old. if is_event_of process item then invocation_of place item else old) (after.unanswered process) ∙ sym (ap (λ taken. unanswered_of taken process) more ∙ unanswered_push (accepted items) one process);
      registers = λ at. ap (λ rows. register_at rows at) rows ∙ rows_push known.registers (invocation_of place item) at ∙ ap (λ old. option_or old (said_at (invocation_of place item) at)) (after.registers at) ∙ sym (ap (λ taken. register_of taken at) more ∙ register_push (accepted items) one at);
    }

invocation_by_place : (place : ℕ) (event : AnEvent) (stage : Stage) (register : Option RegId) → ForSome (invocation_by place event stage register) (λ said. said.place ≡ place)
invocation_by_place place event Invoke (Some register) said is = cc
invocation_by_place place event Invoke None said is = cc
invocation_by_place place event Ok register said is = cc
invocation_by_place place event Fail register said is = cc
invocation_by_place place event Info register said is = cc

-- an invocation is kept with its own place
pub invocation_place : (place : ℕ) (item : Item) → ForSome (invocation_of place item) (λ said. said.place ≡ place)
invocation_place place (Event event) said is = invocation_by_place place event event.answer event.register said is
invocation_place place (Amend of change) said is = cc
invocation_place place (Withdraw of) said is = cc
invocation_place place (Claim register kind) said is = cc
invocation_place place (Ask register) said is = cc
invocation_place place Skipped said is = cc

rows_later : (last : Option ℕ) (place : ℕ) (rows : List (ℕ × RegId)) → ForSome last (λ last. last < place) → All (λ row. IsUpTo last row.0) rows → All (λ row. row.0 < place) rows
rows_later last place rows rises all = All-weaker (λ (row : ℕ × RegId). IsUpTo last row.0) (λ (row : ℕ × RegId). row.0 < place) (λ row up. up_later last place row.0 rises up) rows all

with_row_rises : (rows : List (ℕ × RegId)) (said : Option Invocation) (place : ℕ) → ForSome said (λ said. said.place ≡ place) → All (λ row. row.0 < place) rows → IsRising rows → IsRising (with_row rows said) × All (λ row. row.0 ≤ place) (with_row rows said)
with_row_rises rows None place at lower rising =
    (rising, All-weaker (λ (row : ℕ × RegId). row.0 < place) (λ (row : ℕ × RegId). row.0 ≤ place) (λ row lt. omega (arith, lt)) rows lower)
with_row_rises rows (Some said) place at lower rising =
    let is : said.place ≡ place = at said refl in
    let low = All-weaker (λ (row : ℕ × RegId). row.0 < place) (λ (row : ℕ × RegId). row.0 ≤ place) (λ row lt. omega (arith, lt)) rows lower in
    (rises_push rows (said.place, said.register) rising (rw is lower), All-push (λ row. row.0 ≤ place) rows (said.place, said.register) low (omega arith))

-- the rows go on rising, up to the place of the item
pub rows_rise : (last : Option ℕ) (rows : List (ℕ × RegId)) (place : ℕ) (item : Item) → ForSome last (λ last. last < place) → IsRising rows × All (λ row. IsUpTo last row.0) rows → IsRising (with_row rows (invocation_of place item)) × All (λ row. IsUpTo (Some place) row.0) (with_row rows (invocation_of place item))
rows_rise last rows place item rises so_far = with_row_rises rows (invocation_of place item) place (invocation_place place item) (rows_later last place rows rises so_far.1) so_far.0

-- a fault is there where an item is refused
is_refused : (said : Option PairFault) (given : Option Step) (fault : PairFault) → unless said given ≡ Err fault → is_some said ≡ true
is_refused None given fault is = cc
is_refused (Some said) given fault is = refl

-- an item that is refused changes nothing of which items are accepted
pub not_accepted : (feeder place : ℕ) (items : List Placed) (item : Item) (fault : PairFault) → step_of feeder (accepted items) place item ≡ Err fault
    → accepted (items ++ record { place = place; item = item } ∷ []) ≡ accepted items
not_accepted feeder place items item fault is =
    refused_push items (record { place = place; item = item }) (is_refused (fault_of (accepted items) item) (given_by feeder (accepted items) place item) fault is)
