-- The text that an item carries is its element's.
use Rattle.std.proofs.Common.{◌≡◌, ℕ, ℤ, Bool, true, false, List, Option, Some, None, Result, Ok, Err, IfOk, refl, subst}
use Rattle.std.specs.Prelude.{⊤, if◌then◌else◌, codes}
use Rattle.std.specs.Borrow.{Bor}
use Rattle.edn_reader.specs.Grammar.{ElementModel}
use Rattle.edn_reader.specs.Pairs.{is_word}
use Rattle.edn_reader.specs.Integer.{int_of}
use Rattle.intervals.specs.declared.claim.Kind.{Kind}
use Rattle.intervals.specs.declared.edit.Change.{Change}
use Rattle.intervals.specs.declared.edit.Lent.TheVariants.{Amendment}
use Rattle.intervals.specs.declared.operation.Moment.{Moment}
use Rattle.intervals.specs.declared.operation.RegId.{RegId}
use Rattle.intervals.specs.declared.operation.Value.{Value}
use Rattle.tower_file.specs.Contents.{TowerModel}
use Rattle.tower_file.specs.Steps.{◌>>=◌}
use Rattle.jepsen_form.specs.declared.item.Action.{Action}
use Rattle.jepsen_form.specs.declared.item.Stage.{Stage}
use Rattle.jepsen_form.specs.declared.item.Item.{Item}
use Rattle.jepsen_form.specs.declared.item.Item.TheVariants.{Event, Amend, Withdraw, Claim, Ask, Skipped}
use Rattle.jepsen_form.specs.declared.item.MomentField.{MomentField}
use Rattle.jepsen_form.specs.declared.fault.FormFault.{FormFault}
use Rattle.jepsen_form.specs.declared.fault.FormFault.TheVariants.{BadType}
use Rattle.jepsen_form.specs.declared.fault.FormField.TheVariants as fields
use Rattle.jepsen_form.specs.declared.gist.Gist.{Gist}
use Rattle.jepsen_form.specs.declared.gist.RefusedForm.{RefusedForm}
use Rattle.jepsen_form.specs.Fields.{Fields, UnderValue, fields_of}
use Rattle.jepsen_form.specs.Item.{IsItem, no_map, of_map, the_one, at_most_one, is_there, value_stated, moment_of, end_of, the_stage, the_action, the_register, the_moment, if_told, value_told, by_process, change_of, edited_place, kind_stated, claim_of, edit_by, question_of, register_named, item_of, gist_of, with_gist}

-- the item's text, where it has one, is these bytes; an amendment lends it as that
abbrev pub Carries : List ℕ → Item → Type 0
Carries bytes (Event event) = event.text.now ≡ bytes
Carries bytes (Amend of change) = (text : Bor (List ℕ)) × (change.lent ≡ Amendment text) × (text.now ≡ bytes)
Carries bytes (Withdraw of) = ⊤
Carries bytes (Claim register kind) = ⊤
Carries bytes (Ask register) = ⊤
Carries bytes Skipped = ⊤

-- an item that was read carries these bytes; nothing is said of a fault of the form
abbrev AnswerCarries : List ℕ → Result Item FormFault → Type 0
AnswerCarries bytes answer = IfOk answer (Carries bytes)

through : {A : Type 0} (bytes : List ℕ) (answer : Result A FormFault) (f : A → Result Item FormFault) → ((x : A) → AnswerCarries bytes (f x)) → AnswerCarries bytes (answer >>= f)
through bytes (Ok x) f each = each x
through bytes (Err fault) f each = tt

one_of : (bytes : List ℕ) (test : Bool) (first second : Result Item FormFault) → AnswerCarries bytes first → AnswerCarries bytes second → AnswerCarries bytes (if test then first else second)
one_of bytes true first second h k = h
one_of bytes false first second h k = k

-- the item of an event, read on from what was read of it so far
abbrev with_moment : ℤ → Bor (List ℕ) → Stage → Action → Option RegId → Value → Option Moment → Result Item FormFault
with_moment process text stage action register value moment =
    Ok (Event (record { process = process; answer = stage; action = action; register = register; value = value; moment = moment; text = text }))

abbrev with_value : Fields → ℤ → Bor (List ℕ) → Stage → Action → Option RegId → Value → Result Item FormFault
with_value found process text stage action register value = if_told stage (the_moment found.moment) >>= with_moment process text stage action register value

abbrev with_register : Fields → UnderValue → ℤ → Bor (List ℕ) → Stage → Action → Option RegId → Result Item FormFault
with_register found said process text stage action register = value_told stage action said >>= with_value found process text stage action register

abbrev with_action : TowerModel → Fields → UnderValue → ℤ → Bor (List ℕ) → Stage → Action → Result Item FormFault
with_action tower found said process text stage action = if_told stage (the_register tower said) >>= with_register found said process text stage action

abbrev with_stage : TowerModel → Fields → UnderValue → ℤ → Bor (List ℕ) → Stage → Result Item FormFault
with_stage tower found said process text stage = the_action found.action >>= with_action tower found said process text stage

of_process : (tower : TowerModel) (found : Fields) (said : UnderValue) (text : Bor (List ℕ)) (process : Option ℤ) → AnswerCarries text.now (by_process tower found said text process)
of_process tower found said text None = tt
of_process tower found said text (Some process) =
    through text.now (the_stage found.stage) (with_stage tower found said process text) (λ stage.
    through text.now (the_action found.action) (with_action tower found said process text stage) (λ action.
    through text.now (if_told stage (the_register tower said)) (with_register found said process text stage action) (λ register.
    through text.now (value_told stage action said) (with_value found process text stage action register) (λ value.
    through text.now (if_told stage (the_moment found.moment)) (with_moment process text stage action register value) (λ moment. refl)))))

-- a change that was read lends this text as an amendment
abbrev Lends : Bor (List ℕ) → Result Change FormFault → Type 0
Lends text answer = IfOk answer (λ change. change.lent ≡ Amendment text)

through_change : {A : Type 0} (text : Bor (List ℕ)) (answer : Result A FormFault) (f : A → Result Change FormFault) → ((x : A) → Lends text (f x)) → Lends text (answer >>= f)
through_change text (Ok x) f each = each x
through_change text (Err fault) f each = tt

abbrev with_end : Bor (List ℕ) → Option Value → Option Moment → Option (Option Moment) → Result Change FormFault
with_end text value begin end = Ok (record { value = value; begin = begin; end = end; lent = Amendment text })

abbrev with_begin : Fields → Bor (List ℕ) → Option Value → Option Moment → Result Change FormFault
with_begin found text value begin = at_most_one fields.End end_of found.end >>= with_end text value begin

abbrev with_new : Fields → Bor (List ℕ) → Option Value → Result Change FormFault
with_new found text value = at_most_one fields.Begin moment_of found.begin >>= with_begin found text value

of_change : (found : Fields) (text : Bor (List ℕ)) → Lends text (change_of found text)
of_change found text =
    through_change text (at_most_one fields.Value value_stated found.value) (with_new found text) (λ value.
    through_change text (at_most_one fields.Begin moment_of found.begin) (with_begin found text value) (λ begin.
    through_change text (at_most_one fields.End end_of found.end) (with_end text value begin) (λ end. refl)))

abbrev as_amend : ℕ → Change → Result Item FormFault
as_amend of change = Ok (Amend of change)

of_amend : (of : ℕ) (text : Bor (List ℕ)) (answer : Result Change FormFault) → Lends text answer → AnswerCarries text.now (answer >>= as_amend of)
of_amend of text (Ok change) lends = (text, lends, refl)
of_amend of text (Err fault) lends = tt

abbrev as_withdraw : ℕ → Result Item FormFault
as_withdraw of = Ok (Withdraw of)

abbrev amendment : Fields → Bor (List ℕ) → Result Item FormFault
amendment found text = edited_place found >>= (λ of. change_of found text >>= as_amend of)

abbrev with_kind : RegId → Kind → Result Item FormFault
with_kind register kind = Ok (Claim register kind)

abbrev with_claimed : Fields → RegId → Result Item FormFault
with_claimed found register = the_one fields.Claimed found.claimed >>= kind_stated >>= with_kind register

-- a claim has no text
of_claim : (tower : TowerModel) (found : Fields) (bytes : List ℕ) → AnswerCarries bytes (claim_of tower found)
of_claim tower found bytes =
    through bytes (the_one fields.Register found.register >>= register_named tower) (with_claimed found) (λ register.
    through bytes (the_one fields.Claimed found.claimed >>= kind_stated) (with_kind register) (λ kind. tt))

abbrev no_withdrawal : TowerModel → Fields → ElementModel → Result Item FormFault
no_withdrawal tower found keyword = if is_word (codes ":claim") keyword then claim_of tower found else Err BadType

abbrev no_amendment : TowerModel → Fields → ElementModel → Result Item FormFault
no_amendment tower found keyword = if is_word (codes ":withdraw") keyword then edited_place found >>= as_withdraw else no_withdrawal tower found keyword

of_edit : (tower : TowerModel) (found : Fields) (text : Bor (List ℕ)) (keyword : ElementModel) → AnswerCarries text.now (edit_by tower found text keyword)
of_edit tower found text keyword =
    one_of text.now (is_word (codes ":amend") keyword) (amendment found text) (no_amendment tower found keyword)
    (through text.now (edited_place found) (λ of. change_of found text >>= as_amend of) (λ of. of_amend of text (change_of found text) (of_change found text)))
    (one_of text.now (is_word (codes ":withdraw") keyword) (edited_place found >>= as_withdraw) (no_withdrawal tower found keyword) (through text.now (edited_place found) as_withdraw (λ of. tt))
    (one_of text.now (is_word (codes ":claim") keyword) (claim_of tower found) (Err BadType) (of_claim tower found text.now) tt))

-- a question has no text
of_question : (tower : TowerModel) (bytes : List ℕ) (id : Result RegId FormFault) → AnswerCarries bytes (id >>= (λ id. Ok (Ask id)))
of_question tower bytes (Ok id) = tt
of_question tower bytes (Err fault) = tt

abbrev event_part : TowerModel → Fields → UnderValue → Bor (List ℕ) → Result Item FormFault
event_part tower found said text = the_one fields.Process found.process >>= (λ piece. by_process tower found said text (int_of piece))

abbrev no_edit : TowerModel → Fields → UnderValue → Bor (List ℕ) → Result Item FormFault
no_edit tower found said text = if is_there found.ask then the_one fields.Ask found.ask >>= question_of tower else event_part tower found said text

of_item : (tower : TowerModel) (found : Fields) (said : UnderValue) (text : Bor (List ℕ)) → AnswerCarries text.now (item_of tower found said text)
of_item tower found said text =
    one_of text.now (is_there found.edit) (the_one fields.Edit found.edit >>= edit_by tower found text) (no_edit tower found said text)
    (through text.now (the_one fields.Edit found.edit) (edit_by tower found text) (λ keyword. of_edit tower found text keyword))
    (one_of text.now (is_there found.ask) (the_one fields.Ask found.ask >>= question_of tower) (event_part tower found said text)
    (through text.now (the_one fields.Ask found.ask) (question_of tower) (λ name. of_question tower text.now (register_named tower name)))
    (through text.now (the_one fields.Process found.process) (λ piece. by_process tower found said text (int_of piece)) (λ piece. of_process tower found said text (int_of piece))))

-- what can be read of a refused element has no text
beside : (bytes : List ℕ) (gist : Gist) (answer : Result Item FormFault) → AnswerCarries bytes answer → IfOk (with_gist gist answer) (Carries bytes)
beside bytes gist (Ok item) carries = carries
beside bytes gist (Err fault) carries = tt

carries : {tower : TowerModel} {chosen : MomentField} {piece : ElementModel} {answer : Result Item RefusedForm} → IsItem tower chosen piece answer → IfOk answer (Carries piece.text)
carries (no_map none) = tt
carries {tower = tower} {chosen = chosen} {piece = piece} (of_map pairs said inner text has under within same) =
    beside piece.text (gist_of tower (fields_of chosen pairs) said inner) (item_of tower (fields_of chosen pairs) said text)
    (subst (λ (bytes : List ℕ). AnswerCarries bytes (item_of tower (fields_of chosen pairs) said text)) same (of_item tower (fields_of chosen pairs) said text))

pub item_carries : (tower : TowerModel) (chosen : MomentField) (piece : ElementModel) (item : Item) → IsItem tower chosen piece (Ok item) → Carries piece.text item
item_carries tower chosen piece item is = carries is
