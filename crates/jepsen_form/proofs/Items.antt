-- An element has one item or fault, wherever its text is in memory.
use Rattle.std.proofs.Common.{◌≡◌, ℕ, ℤ, Bool, true, false, List, [], ◌∷◌, Option, Some, None, Result, Ok, Err, refl, sym, ap, subst, ◌∙◌}
use Rattle.std.specs.Prelude.{if◌then◌else◌, codes}
use Rattle.std.specs.List.{AllByRecursion}
use Rattle.std.specs.Borrow.{Bor}
use Rattle.edn_reader.specs.declared.element.ElementKind.{ElementKind}
use Rattle.edn_reader.specs.declared.element.ElementKind.TheVariants as kinds
use Rattle.edn_reader.specs.Grammar.{ElementModel, IsElement}
use Rattle.edn_reader.specs.Pairs.{is_word, values_of, HasMembers, HasPairs}
use Rattle.intervals.specs.declared.edit.Change.{Change}
use Rattle.intervals.specs.declared.edit.Lent.TheVariants.{Amendment}
use Rattle.intervals.specs.declared.claim.Kind.{Kind}
use Rattle.intervals.specs.declared.operation.Moment.{Moment}
use Rattle.intervals.specs.declared.operation.RegId.{RegId}
use Rattle.intervals.specs.declared.operation.Value.{Value}
use Rattle.tower_file.specs.Contents.{TowerModel}
use Rattle.tower_file.specs.Steps.{◌>>=◌}
use Rattle.edn_reader.specs.Given.{Given, One, given}
use Rattle.edn_reader.specs.Integer.{int_of}
use Rattle.jepsen_form.specs.declared.item.Stage.{Stage}
use Rattle.jepsen_form.specs.declared.item.Action.{Action}
use Rattle.jepsen_form.specs.declared.item.Item.{Item}
use Rattle.jepsen_form.specs.declared.item.Item.TheVariants as items
use Rattle.jepsen_form.specs.declared.item.MomentField.{MomentField}
use Rattle.jepsen_form.specs.declared.fault.FormField.TheVariants as fields
use Rattle.jepsen_form.specs.declared.fault.FormFault.{FormFault}
use Rattle.jepsen_form.specs.declared.fault.FormFault.TheVariants.{BadType, NotAMap}
use Rattle.jepsen_form.specs.declared.gist.Gist.{Gist}
use Rattle.jepsen_form.specs.declared.gist.RefusedForm.{RefusedForm}
use Rattle.jepsen_form.specs.Fields.{UnderValue, NoValue, AValue, NamedValue, ManyValues, IsUnderValue, missing, plain, vector, repeated, Fields, fields_of, two_of, by_two}
use Rattle.jepsen_form.specs.Item.{the_one, at_most_one, is_there, value_stated, moment_of, end_of, the_stage, the_action, the_register, the_moment, if_told, value_told, by_process, change_of, edited_place, kind_stated, claim_of, edit_by, question_of, register_named, item_of, no_gist, inner_field, gist_of, with_gist, IsItem, no_map, of_map, text_at, lying_at, answer_with}

-- what is known of vectors and maps: there is a list of their members or pairs, and only one
abbrev pub SomeMembers : Type 0
SomeMembers = (piece : ElementModel) → IsElement piece → piece.core.kind ≡ kinds.Vector → (members : List ElementModel) × HasMembers piece members

abbrev pub OneMembers : Type 0
OneMembers = (piece : ElementModel) (firsts seconds : List ElementModel) → HasMembers piece firsts → HasMembers piece seconds → firsts ≡ seconds

abbrev pub SomePairs : Type 0
SomePairs = (piece : ElementModel) → IsElement piece → piece.core.kind ≡ kinds.Map → (pairs : List (ElementModel × ElementModel)) × HasPairs piece pairs

abbrev pub OnePairs : Type 0
OnePairs = (piece : ElementModel) (firsts seconds : List (ElementModel × ElementModel)) → HasPairs piece firsts → HasPairs piece seconds → firsts ≡ seconds

abbrev ArePairsOfElements : List (ElementModel × ElementModel) → Type 0
ArePairsOfElements = AllByRecursion (λ pair. IsElement pair.0 × IsElement pair.1)

abbrev pub ElementPairs : Type 0
ElementPairs = (piece : ElementModel) (pairs : List (ElementModel × ElementModel)) → HasPairs piece pairs → ArePairsOfElements pairs

abbrev pub ElementValues : Type 0
ElementValues = (key : List ℕ) (pairs : List (ElementModel × ElementModel)) → ArePairsOfElements pairs → AllByRecursion IsElement (values_of key pairs)

-- ---- one item at most

one_under_value : OneMembers → (found : Given ElementModel) (first second : UnderValue) → IsUnderValue found first → IsUnderValue found second → first ≡ second
one_under_value one found first second missing missing = refl
one_under_value one found first second (plain none) (plain other) = refl
one_under_value one found first second (plain none) (vector members has is) = absurd (none has.kind)
one_under_value one found first second (vector members has is) (plain none) = absurd (none has.kind)
one_under_value one found first second (vector {piece = piece} members has is) (vector others other_has other_is) =
    sym is ∙ ap (λ (list : List ElementModel). by_two piece (two_of list)) (one piece members others has other_has) ∙ other_is
one_under_value one found first second repeated repeated = refl

-- the event of these parts and this text
abbrev event_with : ℤ → Stage → Action → Option RegId → Value → Option Moment → Bor (List ℕ) → Result Item FormFault
event_with process stage action register value moment text =
    Ok (items.Event (record { process = process; answer = stage; action = action; register = register; value = value; moment = moment; text = text }))

-- the amendment of these parts and this text
abbrev amend_with : ℕ → Option Value → Option Moment → Option (Option Moment) → Bor (List ℕ) → Result Item FormFault
amend_with of value begin end text = Ok (items.Amend of (record { value = value; begin = begin; end = end; lent = Amendment text }))

-- a function that puts one text in the place of another, and changes nothing else of an answer
record Retells (told : Result Item FormFault → Result Item FormFault) (old new : Bor (List ℕ)) : Type 0 where
  pub fault : (fault : FormFault) → told (Err fault) ≡ Err fault
  pub event : (process : ℤ) (stage : Stage) (action : Action) (register : Option RegId) (value : Value) (moment : Option Moment)
      → told (event_with process stage action register value moment old) ≡ event_with process stage action register value moment new
  pub amend : (of : ℕ) (value : Option Value) (begin : Option Moment) (end : Option (Option Moment)) → told (amend_with of value begin end old) ≡ amend_with of value begin end new
  pub withdraw : (of : ℕ) → told (Ok (items.Withdraw of)) ≡ Ok (items.Withdraw of)
  pub claim : (id : RegId) (kind : Kind) → told (Ok (items.Claim id kind)) ≡ Ok (items.Claim id kind)
  pub ask : (id : RegId) → told (Ok (items.Ask id)) ≡ Ok (items.Ask id)
  pub skipped : told (Ok items.Skipped) ≡ Ok items.Skipped

through : {A : Type 0} {told : Result Item FormFault → Result Item FormFault} {old new : Bor (List ℕ)} → Retells told old new → (answer : Result A FormFault) (f g : A → Result Item FormFault)
    → ((x : A) → told (f x) ≡ g x) → told (answer >>= f) ≡ (answer >>= g)
through retells (Ok x) f g each = each x
through retells (Err fault) f g each = retells.fault fault

through_inner : {A B : Type 0} {told : Result Item FormFault → Result Item FormFault} {old new : Bor (List ℕ)} → Retells told old new → (answer : Result A FormFault) (f g : A → Result B FormFault) (k : B → Result Item FormFault)
    → ((x : A) → told (f x >>= k) ≡ (g x >>= k)) → told ((answer >>= f) >>= k) ≡ ((answer >>= g) >>= k)
through_inner retells (Ok x) f g k each = each x
through_inner retells (Err fault) f g k each = retells.fault fault

-- a function of answers goes into a choice between two of them
one_of : (told : Result Item FormFault → Result Item FormFault) (test : Bool) (first second third fourth : Result Item FormFault) → told first ≡ second → told third ≡ fourth → told (if test then first else third) ≡ (if test then second else fourth)
one_of told true first second third fourth same other = same
one_of told false first second third fourth same other = other

-- what is left to read of an event after its moment, its value, its register, its action, its stage
abbrev with_moment : ℤ → Bor (List ℕ) → Stage → Action → Option RegId → Value → Option Moment → Result Item FormFault
with_moment process text stage action register value moment = event_with process stage action register value moment text

abbrev with_value : Fields → ℤ → Bor (List ℕ) → Stage → Action → Option RegId → Value → Result Item FormFault
with_value found process text stage action register value = if_told stage (the_moment found.moment) >>= with_moment process text stage action register value

abbrev with_register : Fields → UnderValue → ℤ → Bor (List ℕ) → Stage → Action → Option RegId → Result Item FormFault
with_register found said process text stage action register = value_told stage action said >>= with_value found process text stage action register

abbrev with_action : TowerModel → Fields → UnderValue → ℤ → Bor (List ℕ) → Stage → Action → Result Item FormFault
with_action tower found said process text stage action = if_told stage (the_register tower said) >>= with_register found said process text stage action

abbrev with_stage : TowerModel → Fields → UnderValue → ℤ → Bor (List ℕ) → Stage → Result Item FormFault
with_stage tower found said process text stage = the_action found.action >>= with_action tower found said process text stage

retold_process : (told : Result Item FormFault → Result Item FormFault) (old new : Bor (List ℕ)) → Retells told old new → (tower : TowerModel) (found : Fields) (said : UnderValue) (process : Option ℤ)
    → told (by_process tower found said old process) ≡ by_process tower found said new process
retold_process told old new retells tower found said None = retells.skipped
retold_process told old new retells tower found said (Some process) =
    through retells (the_stage found.stage) (with_stage tower found said process old) (with_stage tower found said process new) (λ stage.
    through retells (the_action found.action) (with_action tower found said process old stage) (with_action tower found said process new stage) (λ action.
    through retells (if_told stage (the_register tower said)) (with_register found said process old stage action) (with_register found said process new stage action) (λ register.
    through retells (value_told stage action said) (with_value found process old stage action register) (with_value found process new stage action register) (λ value.
    through retells (if_told stage (the_moment found.moment)) (with_moment process old stage action register value) (with_moment process new stage action register value) (λ moment.
    retells.event process stage action register value moment)))))

abbrev as_amend : ℕ → Change → Result Item FormFault
as_amend of change = Ok (items.Amend of change)

abbrev with_end : Bor (List ℕ) → Option Value → Option Moment → Option (Option Moment) → Result Change FormFault
with_end text value begin end = Ok (record { value = value; begin = begin; end = end; lent = Amendment text })

abbrev with_begin : Fields → Bor (List ℕ) → Option Value → Option Moment → Result Change FormFault
with_begin found text value begin = at_most_one fields.End end_of found.end >>= with_end text value begin

abbrev with_new : Fields → Bor (List ℕ) → Option Value → Result Change FormFault
with_new found text value = at_most_one fields.Begin moment_of found.begin >>= with_begin found text value

retold_change : (told : Result Item FormFault → Result Item FormFault) (old new : Bor (List ℕ)) → Retells told old new → (found : Fields) (of : ℕ)
    → told (change_of found old >>= as_amend of) ≡ (change_of found new >>= as_amend of)
retold_change told old new retells found of =
    through_inner retells (at_most_one fields.Value value_stated found.value) (with_new found old) (with_new found new) (as_amend of) (λ value.
    through_inner retells (at_most_one fields.Begin moment_of found.begin) (with_begin found old value) (with_begin found new value) (as_amend of) (λ begin.
    through_inner retells (at_most_one fields.End end_of found.end) (with_end old value begin) (with_end new value begin) (as_amend of) (λ end.
    retells.amend of value begin end)))

abbrev amendment : Fields → Bor (List ℕ) → Result Item FormFault
amendment found text = edited_place found >>= (λ of. change_of found text >>= as_amend of)

abbrev withdrawal : Fields → Result Item FormFault
withdrawal found = edited_place found >>= (λ of. Ok (items.Withdraw of))

abbrev no_withdrawal : TowerModel → Fields → ElementModel → Result Item FormFault
no_withdrawal tower found keyword = if is_word (codes ":claim") keyword then claim_of tower found else Err BadType

abbrev no_amendment : TowerModel → Fields → ElementModel → Result Item FormFault
no_amendment tower found keyword = if is_word (codes ":withdraw") keyword then withdrawal found else no_withdrawal tower found keyword

-- the claim of a register, once its kind is read
abbrev with_claimed : Fields → RegId → Result Item FormFault
with_claimed found register = the_one fields.Claimed found.claimed >>= kind_stated >>= (λ kind. Ok (items.Claim register kind))

-- a function of answers leaves two steps in a row where it leaves what follows them
retold_twice : {A B : Type 0} {told : Result Item FormFault → Result Item FormFault} {old new : Bor (List ℕ)} → Retells told old new → (answer : Result A FormFault) (read : A → Result B FormFault) (f : B → Result Item FormFault)
    → ((x : B) → told (f x) ≡ f x) → told (answer >>= read >>= f) ≡ (answer >>= read >>= f)
retold_twice retells answer read f each = through retells (answer >>= read) f f each

retold_claim : (told : Result Item FormFault → Result Item FormFault) (old new : Bor (List ℕ)) → Retells told old new → (tower : TowerModel) (found : Fields) → told (claim_of tower found) ≡ claim_of tower found
retold_claim told old new retells tower found =
    retold_twice retells (the_one fields.Register found.register) (register_named tower) (with_claimed found) (λ register.
    retold_twice retells (the_one fields.Claimed found.claimed) kind_stated (λ kind. Ok (items.Claim register kind)) (retells.claim register))

retold_edit : (told : Result Item FormFault → Result Item FormFault) (old new : Bor (List ℕ)) → Retells told old new → (tower : TowerModel) (found : Fields) (keyword : ElementModel)
    → told (edit_by tower found old keyword) ≡ edit_by tower found new keyword
retold_edit told old new retells tower found keyword =
    one_of told (is_word (codes ":amend") keyword) (amendment found old) (amendment found new) (no_amendment tower found keyword) (no_amendment tower found keyword)
    (through retells (edited_place found) (λ of. change_of found old >>= as_amend of) (λ of. change_of found new >>= as_amend of) (retold_change told old new retells found))
    (one_of told (is_word (codes ":withdraw") keyword) (withdrawal found) (withdrawal found) (no_withdrawal tower found keyword) (no_withdrawal tower found keyword)
    (through retells (edited_place found) (λ of. Ok (items.Withdraw of)) (λ of. Ok (items.Withdraw of)) retells.withdraw)
    (one_of told (is_word (codes ":claim") keyword) (claim_of tower found) (claim_of tower found) (Err BadType) (Err BadType)
    (retold_claim told old new retells tower found) (retells.fault BadType)))

abbrev question_part : TowerModel → Fields → Result Item FormFault
question_part tower found = the_one fields.Ask found.ask >>= question_of tower

abbrev event_part : TowerModel → Fields → UnderValue → Bor (List ℕ) → Result Item FormFault
event_part tower found said text = the_one fields.Process found.process >>= (λ piece. by_process tower found said text (int_of piece))

abbrev no_edit : TowerModel → Fields → UnderValue → Bor (List ℕ) → Result Item FormFault
no_edit tower found said text = if is_there found.ask then question_part tower found else event_part tower found said text

retold : (told : Result Item FormFault → Result Item FormFault) (old new : Bor (List ℕ)) → Retells told old new → (tower : TowerModel) (found : Fields) (said : UnderValue)
    → told (item_of tower found said old) ≡ item_of tower found said new
retold told old new retells tower found said =
    one_of told (is_there found.edit) (the_one fields.Edit found.edit >>= edit_by tower found old) (the_one fields.Edit found.edit >>= edit_by tower found new) (no_edit tower found said old) (no_edit tower found said new)
    (through retells (the_one fields.Edit found.edit) (edit_by tower found old) (edit_by tower found new) (retold_edit told old new retells tower found))
    (one_of told (is_there found.ask) (question_part tower found) (question_part tower found) (event_part tower found said old) (event_part tower found said new)
    (through retells (the_one fields.Ask found.ask) (question_of tower) (question_of tower) (λ name. through retells (register_named tower name) (λ id. Ok (items.Ask id)) (λ id. Ok (items.Ask id)) retells.ask))
    (through retells (the_one fields.Process found.process) (λ piece. by_process tower found said old (int_of piece)) (λ piece. by_process tower found said new (int_of piece)) (λ piece.
    retold_process told old new retells tower found said (int_of piece))))

-- two answers are equal but for the place of their text in memory
abbrev Alike : {E : Type 0} → ℕ × ℕ → Result Item E → Result Item E → Type 0
Alike place first second = lying_at place first ≡ lying_at place second

lies : (place : ℕ × ℕ) (text : Bor (List ℕ)) → Retells (lying_at place) text (text_at place text)
lies place text = record {
  fault = λ fault. refl;
  event = λ process stage action register value moment. refl;
  amend = λ of value begin end. refl;
  withdraw = λ of. refl;
  claim = λ id kind. refl;
  ask = λ id. refl;
  skipped = refl;
}

same_item : (place : ℕ × ℕ) (tower : TowerModel) (found : Fields) (said : UnderValue) (first second : Bor (List ℕ)) → first.now ≡ second.now → Alike place (item_of tower found said first) (item_of tower found said second)
same_item place tower found said first second same =
    retold (lying_at place) first (text_at place first) (lies place first) tower found said
    ∙ ap (λ (bytes : List ℕ). item_of tower found said (record { ref_ptr = place; now = bytes })) same
    ∙ sym (retold (lying_at place) second (text_at place second) (lies place second) tower found said)

-- what can be read of an element does not depend on where its text lies
lies_beside : (place : ℕ × ℕ) (gist : Gist) (answer : Result Item FormFault) → lying_at place (with_gist gist answer) ≡ with_gist gist (lying_at place answer)
lies_beside place gist (Err fault) = refl
lies_beside place gist (Ok (items.Event event)) = refl
lies_beside place gist (Ok (items.Amend of change)) = refl
lies_beside place gist (Ok (items.Withdraw of)) = refl
lies_beside place gist (Ok (items.Claim id kind)) = refl
lies_beside place gist (Ok (items.Ask id)) = refl
lies_beside place gist (Ok items.Skipped) = refl

alike_beside : (place : ℕ × ℕ) (gist other : Gist) (first second : Result Item FormFault) → gist ≡ other → Alike place first second → Alike place (with_gist gist first) (with_gist other second)
alike_beside place gist other first second same alike =
    lies_beside place gist first ∙ ap (with_gist gist) alike
    ∙ ap (λ (gist : Gist). with_gist gist (lying_at place second)) same ∙ sym (lies_beside place other second)

-- what the pairs say under `:value`
abbrev Says : List (ElementModel × ElementModel) → UnderValue → Type 0
Says pairs said = IsUnderValue (given (values_of (codes ":value") pairs)) said

same_parts : OneMembers → (place : ℕ × ℕ) (tower : TowerModel) (chosen : MomentField) (pairs others : List (ElementModel × ElementModel)) (said other_said : UnderValue) (first second : Bor (List ℕ)) → pairs ≡ others → Says pairs said → Says others other_said → first.now ≡ second.now
    → Alike place (item_of tower (fields_of chosen pairs) said first) (item_of tower (fields_of chosen others) other_said second)
same_parts one place tower chosen pairs others said other_said first second same says other_says bytes =
    let said_same = one_under_value one (given (values_of (codes ":value") others)) said other_said (subst (λ (list : List (ElementModel × ElementModel)). Says list said) same says) other_says in
    same_item place tower (fields_of chosen pairs) said first second bytes
    ∙ ap (λ (list : List (ElementModel × ElementModel)). lying_at place (item_of tower (fields_of chosen list) said second)) same
    ∙ ap (λ (said : UnderValue). lying_at place (item_of tower (fields_of chosen others) said second)) said_same

-- what can be read of a map is one thing, as what its value is
same_gist : OneMembers → (tower : TowerModel) (chosen : MomentField) (pairs others : List (ElementModel × ElementModel)) (said other_said inner other_inner : UnderValue) → pairs ≡ others → Says pairs said → Says others other_said
    → IsUnderValue (inner_field said) inner → IsUnderValue (inner_field other_said) other_inner → gist_of tower (fields_of chosen pairs) said inner ≡ gist_of tower (fields_of chosen others) other_said other_inner
same_gist one tower chosen pairs others said other_said inner other_inner same says other_says within other_within =
    let said_same = one_under_value one (given (values_of (codes ":value") others)) said other_said (subst (λ (list : List (ElementModel × ElementModel)). Says list said) same says) other_says in
    let inner_same = one_under_value one (inner_field other_said) inner other_inner (subst (λ (said : UnderValue). IsUnderValue (inner_field said) inner) said_same within) other_within in
    ap (λ (list : List (ElementModel × ElementModel)). gist_of tower (fields_of chosen list) said inner) same
    ∙ ap (λ (said : UnderValue). gist_of tower (fields_of chosen others) said inner) said_same
    ∙ ap (gist_of tower (fields_of chosen others) other_said) inner_same

pub at_most_one_item : OneMembers → OnePairs → (tower : TowerModel) (chosen : MomentField) (piece : ElementModel) (first second : Result Item RefusedForm) (place : ℕ × ℕ) → IsItem tower chosen piece first → IsItem tower chosen piece second → Alike place first second
at_most_one_item members pairs tower chosen piece first second place (no_map none) (no_map other) = refl
at_most_one_item members pairs tower chosen piece first second place (no_map none) (of_map found said inner text has says within same) = absurd (none found has)
at_most_one_item members pairs tower chosen piece first second place (of_map found said inner text has says within same) (no_map none) = absurd (none found has)
at_most_one_item members pairs tower chosen piece first second place (of_map found said inner text has says within same) (of_map others other_said other_inner other_text has_others other_says other_within other_same) =
    let same_pairs = pairs piece found others has has_others in
    alike_beside place (gist_of tower (fields_of chosen found) said inner) (gist_of tower (fields_of chosen others) other_said other_inner)
    (item_of tower (fields_of chosen found) said text) (item_of tower (fields_of chosen others) other_said other_text)
    (same_gist members tower chosen found others said other_said inner other_inner same_pairs says other_says within other_within)
    (same_parts members place tower chosen found others said other_said text other_text same_pairs says other_says (same ∙ sym other_same))

-- ---- an item whose text is lent from another place

is_of : (text old : Bor (List ℕ)) → Retells (answer_with text) old text
is_of text old = record {
  fault = λ fault. refl;
  event = λ process stage action register value moment. refl;
  amend = λ of value begin end. refl;
  withdraw = λ of. refl;
  claim = λ id kind. refl;
  ask = λ id. refl;
  skipped = refl;
}

-- what can be read of an element does not depend on the text that its item lends
is_of_beside : (text : Bor (List ℕ)) (gist : Gist) (answer : Result Item FormFault) → answer_with text (with_gist gist answer) ≡ with_gist gist (answer_with text answer)
is_of_beside text gist (Err fault) = refl
is_of_beside text gist (Ok item) = refl

pub elsewhere : (tower : TowerModel) (chosen : MomentField) (piece : ElementModel) (item : Result Item RefusedForm) (text : Bor (List ℕ)) → IsItem tower chosen piece item → text.now ≡ piece.text → IsItem tower chosen piece (answer_with text item)
elsewhere tower chosen piece item text (no_map none) same = no_map none
elsewhere tower chosen piece item text (of_map pairs said inner old has says within was) same =
    let gist = gist_of tower (fields_of chosen pairs) said inner in
    subst (IsItem tower chosen piece)
    (sym (is_of_beside text gist (item_of tower (fields_of chosen pairs) said old) ∙ ap (with_gist gist) (retold (answer_with text) old text (is_of text old) tower (fields_of chosen pairs) said)))
    (of_map pairs said inner text has says within same)

-- ---- one item at least

under_value_of_one : SomeMembers → (piece : ElementModel) (kind : ElementKind) → piece.core.kind ≡ kind → IsElement piece → (said : UnderValue) × IsUnderValue (One piece) said
under_value_of_one some piece kinds.Vector e whole = let members = some piece whole e in (by_two piece (two_of members.0), vector members.0 members.1 refl)
under_value_of_one some piece kinds.Atom e whole = (AValue piece, plain (λ other. cc))
under_value_of_one some piece kinds.Char e whole = (AValue piece, plain (λ other. cc))
under_value_of_one some piece kinds.Text e whole = (AValue piece, plain (λ other. cc))
under_value_of_one some piece kinds.List e whole = (AValue piece, plain (λ other. cc))
under_value_of_one some piece kinds.Map e whole = (AValue piece, plain (λ other. cc))
under_value_of_one some piece kinds.Set e whole = (AValue piece, plain (λ other. cc))
under_value_of_one some piece kinds.Tagged e whole = (AValue piece, plain (λ other. cc))

under_value_of_values : SomeMembers → (values : List ElementModel) → AllByRecursion IsElement values → (said : UnderValue) × IsUnderValue (given values) said
under_value_of_values some [] whole = (NoValue, missing)
under_value_of_values some (value ∷ []) whole = under_value_of_one some value value.core.kind refl whole.0
under_value_of_values some (value ∷ other ∷ values) whole = (ManyValues, repeated)

pub under_value_of_pairs : SomeMembers → ElementPairs → ElementValues → (piece : ElementModel) (pairs : List (ElementModel × ElementModel)) → HasPairs piece pairs → (said : UnderValue) × Says pairs said
under_value_of_pairs some whole values piece pairs has = under_value_of_values some (values_of (codes ":value") pairs) (values (codes ":value") pairs (whole piece pairs has))

-- what is known of vectors: their members are elements
abbrev pub ElementMembers : Type 0
ElementMembers = (piece : ElementModel) (members : List ElementModel) → HasMembers piece members → AllByRecursion IsElement members

-- the value that is said is an element
abbrev IsWholeIn : UnderValue → Type 0
IsWholeIn NoValue = Unit {0}
IsWholeIn (AValue value) = IsElement value
IsWholeIn (NamedValue name value) = IsElement value
IsWholeIn ManyValues = Unit {0}

whole_of_two : (piece : ElementModel) (members : List ElementModel) → IsElement piece → AllByRecursion IsElement members → IsWholeIn (by_two piece (two_of members))
whole_of_two piece [] whole each = whole
whole_of_two piece (only ∷ []) whole each = whole
whole_of_two piece (first ∷ second ∷ []) whole each = each.1.0
whole_of_two piece (first ∷ second ∷ third ∷ members) whole each = whole

whole_in_one : ElementMembers → (piece : ElementModel) (said : UnderValue) → IsElement piece → IsUnderValue (One piece) said → IsWholeIn said
whole_in_one members piece said whole (plain none) = whole
whole_in_one members piece said whole (vector list has is) = subst IsWholeIn is (whole_of_two piece list whole (members piece list has))

whole_in_values : ElementMembers → (values : List ElementModel) (said : UnderValue) → AllByRecursion IsElement values → IsUnderValue (given values) said → IsWholeIn said
whole_in_values members [] said whole missing = tt
whole_in_values members (value ∷ []) said whole says = whole_in_one members value said whole.0 says
whole_in_values members (value ∷ other ∷ values) said whole repeated = tt

inner_of_whole : SomeMembers → (said : UnderValue) → IsWholeIn said → (inner : UnderValue) × IsUnderValue (inner_field said) inner
inner_of_whole some NoValue whole = (NoValue, missing)
inner_of_whole some (AValue value) whole = under_value_of_one some value value.core.kind refl whole
inner_of_whole some (NamedValue name value) whole = under_value_of_one some value value.core.kind refl whole
inner_of_whole some ManyValues whole = (ManyValues, repeated)

pub inner_of_pairs : SomeMembers → ElementMembers → ElementPairs → ElementValues → (piece : ElementModel) (pairs : List (ElementModel × ElementModel)) (said : UnderValue) → HasPairs piece pairs → Says pairs said
    → (inner : UnderValue) × IsUnderValue (inner_field said) inner
inner_of_pairs some members whole values piece pairs said has says =
    inner_of_whole some said (whole_in_values members (values_of (codes ":value") pairs) said (values (codes ":value") pairs (whole piece pairs has)) says)

abbrev SomeItem : TowerModel → MomentField → ElementModel → Type 0
SomeItem tower chosen piece = (item : Result Item RefusedForm) × IsItem tower chosen piece item

item_of_map : SomeMembers → ElementMembers → ElementPairs → ElementValues → (tower : TowerModel) (chosen : MomentField) (piece : ElementModel) (pairs : List (ElementModel × ElementModel)) → HasPairs piece pairs → SomeItem tower chosen piece
item_of_map some members whole values tower chosen piece pairs has =
    let text : Bor (List ℕ) = record { ref_ptr = (0, 0); now = piece.text } in
    let said = under_value_of_pairs some whole values piece pairs has in
    let inner = inner_of_pairs some members whole values piece pairs said.0 has said.1 in
    (with_gist (gist_of tower (fields_of chosen pairs) said.0 inner.0) (item_of tower (fields_of chosen pairs) said.0 text), of_map pairs said.0 inner.0 text has said.1 inner.1 refl)

item_of_other : (tower : TowerModel) (chosen : MomentField) (piece : ElementModel) → (piece.core.kind ≡ kinds.Map → ⊥) → SomeItem tower chosen piece
item_of_other tower chosen piece other = (with_gist no_gist (Err NotAMap), no_map (λ pairs has. other has.kind))

item_by_kind : SomeMembers → ElementMembers → SomePairs → ElementPairs → ElementValues → (tower : TowerModel) (chosen : MomentField) (piece : ElementModel) (kind : ElementKind) → piece.core.kind ≡ kind → IsElement piece → SomeItem tower chosen piece
item_by_kind some members some_pairs whole values tower chosen piece kinds.Map e is = let pairs = some_pairs piece is e in item_of_map some members whole values tower chosen piece pairs.0 pairs.1
item_by_kind some members some_pairs whole values tower chosen piece kinds.Atom e is = item_of_other tower chosen piece (λ other. cc)
item_by_kind some members some_pairs whole values tower chosen piece kinds.Char e is = item_of_other tower chosen piece (λ other. cc)
item_by_kind some members some_pairs whole values tower chosen piece kinds.Text e is = item_of_other tower chosen piece (λ other. cc)
item_by_kind some members some_pairs whole values tower chosen piece kinds.List e is = item_of_other tower chosen piece (λ other. cc)
item_by_kind some members some_pairs whole values tower chosen piece kinds.Vector e is = item_of_other tower chosen piece (λ other. cc)
item_by_kind some members some_pairs whole values tower chosen piece kinds.Set e is = item_of_other tower chosen piece (λ other. cc)
item_by_kind some members some_pairs whole values tower chosen piece kinds.Tagged e is = item_of_other tower chosen piece (λ other. cc)

pub at_least_one_item : SomeMembers → ElementMembers → SomePairs → ElementPairs → ElementValues → (tower : TowerModel) (chosen : MomentField) (piece : ElementModel) → IsElement piece → SomeItem tower chosen piece
at_least_one_item some members some_pairs whole values tower chosen piece is = item_by_kind some members some_pairs whole values tower chosen piece piece.core.kind refl is
