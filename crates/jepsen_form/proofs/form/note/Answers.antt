use Rattle.std.proofs.Common.{◌≡◌, ℕ, List, Option, Some, None, sym, ap, ◌∙◌}
use Rattle.edn_reader.specs.Grammar.{ElementModel}
use Rattle.edn_reader.specs.Lent.{piece_of}
use Rattle.edn_reader.specs.Pairs.{keyword_of}
use Rattle.jepsen_form.specs.declared.fault.FormField.{FormField}
use Rattle.jepsen_form.specs.declared.item.MomentField.{MomentField}
use Rattle.jepsen_form.specs.Fields.{Fields}
use Rattle.jepsen_form.specs.Form.{seen_all, noted, field_of, with_more}
use Rattle.jepsen_form.proofs.Keys.{noted_under}
use Rattle.jepsen_form.proofs.form.note.Goals as goal

by_field : (chosen : MomentField) (found : Fields) (word : List ℕ) (key : Option (List ℕ)) (value : ElementModel) (field : Option FormField) → Some word ≡ key → field ≡ field_of chosen word
    → with_more field found value ≡ noted chosen found key value
by_field chosen found word key value field is_word is_field =
    ap (λ (f : Option FormField). with_more f found value) is_field ∙ sym (noted_under chosen found word value)
    ∙ ap (λ (k : Option (List ℕ)). noted chosen found k value) is_word

pub returns-in-None : goal.returns-in-None
returns-in-None c =
    by_field c.args.chosen (seen_all c.args.form.now) c.in-Some.word.now (keyword_of (piece_of c.args.key.now)) (piece_of c.args.value) None c.in-Some.ensures c.in-None.ensures

pub returns-in-Some-field_of : goal.returns-in-Some-field_of
returns-in-Some-field_of c =
    c.put.ensures
    ∙ by_field c.args.chosen (seen_all c.args.form.now) c.in-Some.word.now (keyword_of (piece_of c.args.key.now)) (piece_of c.args.value) (Some c.in-Some-field_of.field) c.in-Some.ensures c.in-Some-field_of.ensures
