-- A register that an item names is one of the tower's.
use Rattle.std.proofs.Common.{◌≡◌, ◌<◌, ◌==◌, ℕ, ℤ, Bool, true, false, List, length, map, position, Option, Some, None, Result, Ok, Err, refl}
use Rattle.std.specs.Prelude.{⊤, IfSome, IfOk, if◌then◌else◌, codes}
use Rattle.std.specs.Borrow.{Bor}
use Rattle.std.specs.Option.{option_map, ok_or}
use Rattle.std.specs.Str.{bytes_eq}
use Rattle.std.proofs.lemmas.List.{length-map}
use Rattle.std.proofs.lemmas.List.Quantifiers.{position-Some}
use Rattle.std.proofs.lemmas.Bool.Decides.{nat_tests}
use Rattle.std.proofs.Common.{arith}
use Rattle.edn_reader.specs.Grammar.{ElementModel, untagged}
use Rattle.edn_reader.specs.Pairs.{is_word}
use Rattle.edn_reader.specs.Integer.{int_of}
use Rattle.intervals.specs.declared.operation.RegId.{RegId}
use Rattle.tower_file.specs.Contents.{TowerModel, Register}
use Rattle.tower_file.specs.Steps.{◌>>=◌}
use Rattle.jepsen_form.specs.declared.item.Stage.{Stage}
use Rattle.jepsen_form.specs.declared.item.Stage.TheVariants as stages
use Rattle.jepsen_form.specs.declared.item.Item.{Item}
use Rattle.jepsen_form.specs.declared.item.MomentField.{MomentField}
use Rattle.jepsen_form.specs.declared.fault.FormField.TheVariants as fields
use Rattle.jepsen_form.specs.declared.fault.FormFault.{FormFault}
use Rattle.jepsen_form.specs.declared.fault.FormFault.TheVariants.{NoRegister}
use Rattle.jepsen_form.specs.declared.gist.Gist.{Gist}
use Rattle.jepsen_form.specs.declared.gist.RefusedForm.{RefusedForm}
use Rattle.jepsen_form.specs.Fields.{Fields, fields_of, UnderValue, NoValue, AValue, NamedValue, ManyValues}
use Rattle.jepsen_form.specs.Item.{the_one, is_there, the_stage, the_action, the_register, the_moment, if_told, value_told, event_of, by_process, change_of, edited_place, kind_stated, claim_of, edit_by, question_of, register_named, item_of, gist_of, with_gist, IsItem, no_map, of_map}
use Rattle.jepsen_form.specs.Whole.{NamesBelow}

-- a register has a number below this one
abbrev IsBelow : ℕ → RegId → Type 0
IsBelow count id = id.0 < count

-- a property of a step's result, from a property of the result of the step before it
after : {A B : Type 0} (P : A → Type 0) (Q : B → Type 0) (answer : Result A FormFault) (f : A → Result B FormFault) → IfOk answer P → ((x : A) → P x → IfOk (f x) Q) → IfOk (answer >>= f) Q
after P Q (Ok x) f holds each = each x holds
after P Q (Err fault) f holds each = tt

whatever : {A : Type 0} (answer : Result A FormFault) → IfOk answer (λ x. ⊤)
whatever (Ok x) = tt
whatever (Err fault) = tt

either : {A : Type 0} (P : A → Type 0) (test : Bool) (first second : Result A FormFault) → IfOk first P → IfOk second P → IfOk (if test then first else second) P
either P true first second holds other = holds
either P false first second holds other = other

only_below : (count : ℕ) (test : Bool) → (count == 1) ≡ test → IfOk (if test then Ok (record { 0 = 0 }) else Err NoRegister) (IsBelow count)
only_below count true is = grind (arith, nat_tests)
only_below count false is = tt

number_below : (names : List (List ℕ)) (name : List ℕ) (count : ℕ) → length names ≡ count → (found : Option ℕ) → position (bytes_eq name) names ≡ found → IfOk (ok_or (option_map (λ n. record { 0 = n }) found) NoRegister) (IsBelow count)
number_below names name count same None is = tt
number_below names name count same (Some n) is = let below = (position-Some (bytes_eq name) names n name is).0 in omega (arith, same, below)

named_below : (tower : TowerModel) (piece : ElementModel) → IfOk (register_named tower piece) (IsBelow (length tower.registers))
named_below tower piece =
    let names = map (λ (register : Register). register.name) tower.registers in
    number_below names (untagged piece).text (length tower.registers) (length-map tower.registers (λ register. register.name)) (position (bytes_eq (untagged piece).text) names) refl

register_below : (tower : TowerModel) (said : UnderValue) → IfOk (the_register tower said) (IsBelow (length tower.registers))
register_below tower NoValue = only_below (length tower.registers) (length tower.registers == 1) refl
register_below tower (AValue value) = only_below (length tower.registers) (length tower.registers == 1) refl
register_below tower (NamedValue name value) = named_below tower name
register_below tower ManyValues = tt

told_below : (count : ℕ) (stage : Stage) (answer : Result RegId FormFault) → IfOk answer (IsBelow count) → IfOk (if_told stage answer) (λ register. IfSome register (IsBelow count))
told_below count stages.Invoke (Ok id) below = below
told_below count stages.Invoke (Err fault) below = tt
told_below count stages.Ok (Ok id) below = below
told_below count stages.Ok (Err fault) below = tt
told_below count stages.Fail answer below = tt
told_below count stages.Info answer below = tt

event_below : (tower : TowerModel) (found : Fields) (said : UnderValue) (text : Bor (List ℕ)) (process : ℤ) → IfOk (event_of tower found said text process) (NamesBelow (length tower.registers))
event_below tower found said text process =
    let count : ℕ = length tower.registers in
    after _ (NamesBelow count) (the_stage found.stage) _ (whatever _) (λ stage _.
    after _ (NamesBelow count) (the_action found.action) _ (whatever _) (λ action _.
    after _ (NamesBelow count) (if_told stage (the_register tower said)) _ (told_below count stage _ (register_below tower said)) (λ register below.
    after _ (NamesBelow count) (value_told stage action said) _ (whatever _) (λ value _.
    after _ (NamesBelow count) (if_told stage (the_moment found.moment)) _ (whatever _) (λ moment _. below)))))

process_below : (tower : TowerModel) (found : Fields) (said : UnderValue) (text : Bor (List ℕ)) (process : Option ℤ) → IfOk (by_process tower found said text process) (NamesBelow (length tower.registers))
process_below tower found said text None = tt
process_below tower found said text (Some process) = event_below tower found said text process

claim_below : (tower : TowerModel) (found : Fields) → IfOk (claim_of tower found) (NamesBelow (length tower.registers))
claim_below tower found =
    let count : ℕ = length tower.registers in
    after (IsBelow count) (NamesBelow count) (the_one fields.Register found.register >>= register_named tower) _
    (after _ (IsBelow count) (the_one fields.Register found.register) _ (whatever _) (λ name _. named_below tower name)) (λ register below.
    after _ (NamesBelow count) (the_one fields.Claimed found.claimed >>= kind_stated) _ (whatever _) (λ kind _. below))

edit_below : (tower : TowerModel) (found : Fields) (text : Bor (List ℕ)) (keyword : ElementModel) → IfOk (edit_by tower found text keyword) (NamesBelow (length tower.registers))
edit_below tower found text keyword =
    let count : ℕ = length tower.registers in
    either (NamesBelow count) (is_word (codes ":amend") keyword) _ _
    (after _ (NamesBelow count) (edited_place found) _ (whatever _) (λ of _. after _ (NamesBelow count) (change_of found text) _ (whatever _) (λ change _. tt)))
    (either (NamesBelow count) (is_word (codes ":withdraw") keyword) _ _
    (after _ (NamesBelow count) (edited_place found) _ (whatever _) (λ of _. tt))
    (either (NamesBelow count) (is_word (codes ":claim") keyword) _ _ (claim_below tower found) tt))

question_below : (tower : TowerModel) (name : ElementModel) → IfOk (question_of tower name) (NamesBelow (length tower.registers))
question_below tower name = after (IsBelow (length tower.registers)) (NamesBelow (length tower.registers)) (register_named tower name) _ (named_below tower name) (λ id below. below)

item_below : (tower : TowerModel) (found : Fields) (said : UnderValue) (text : Bor (List ℕ)) → IfOk (item_of tower found said text) (NamesBelow (length tower.registers))
item_below tower found said text =
    let Below : Item → Type 0 = NamesBelow (length tower.registers) in
    either Below (is_there found.edit) _ _
    (after _ Below (the_one fields.Edit found.edit) _ (whatever _) (λ keyword _. edit_below tower found text keyword))
    (either Below (is_there found.ask) _ _
    (after _ Below (the_one fields.Ask found.ask) _ (whatever _) (λ name _. question_below tower name))
    (after _ Below (the_one fields.Process found.process) _ (whatever _) (λ piece _. process_below tower found said text (int_of piece))))

beside_below : (count : ℕ) (gist : Gist) (answer : Result Item FormFault) → IfOk answer (NamesBelow count) → IfOk (with_gist gist answer) (NamesBelow count)
beside_below count gist (Ok item) below = below
beside_below count gist (Err fault) below = tt

-- a register that an item names is one of the tower's
pub names_below : (tower : TowerModel) (chosen : MomentField) (piece : ElementModel) (answer : Result Item RefusedForm) → IsItem tower chosen piece answer → IfOk answer (NamesBelow (length tower.registers))
names_below tower chosen piece answer (no_map none) = tt
names_below tower chosen piece answer (of_map pairs said inner text has says within same) =
    beside_below (length tower.registers) (gist_of tower (fields_of chosen pairs) said inner) (item_of tower (fields_of chosen pairs) said text) (item_below tower (fields_of chosen pairs) said text)
