use Rattle.std.proofs.Common.{◌≡◌, ◌∙◌, ap, subst, sym}
use Rattle.std.specs.Prelude.{option_map}
use Rattle.edn_reader.specs.Lent.{piece_of}
use Rattle.jepsen_form.specs.Fields.{Fields, fields_of, IsUnderValue}
use Rattle.jepsen_form.specs.Mention.{IsMention, mention_by, mention_seen, no_map, of_map}
use Rattle.jepsen_form.specs.declared.item.MomentField.TheVariants.{Index}
use Rattle.jepsen_form.proofs.Items.{under_value_of_pairs}
use Rattle.jepsen_form.proofs.mention.mention_of.Goals as goal

pub returns-in-Some : goal.returns-in-Some
returns-in-Some c =
    let piece = piece_of c.args.element.now in
    let found = c.in-Some.ensures.some in
    let said = under_value_of_pairs c.members_of_vector.ensures.some c.pairs_of_map.ensures.elements c.pairs_of_map.ensures.values piece found.0 found.1 in
    let seen = c.fill.ensures found.0 found.2 in
    let said_there = subst (λ (fields : Fields). IsUnderValue fields.value said.0) (sym seen) said.1 in
    let is : mention_by (fields_of Index found.0) said.0 ≡ option_map mention_seen c.mention_in.result =
    ap (λ (fields : Fields). mention_by fields said.0) (sym seen) ∙ sym (c.mention_in.ensures said.0 said_there) in
    subst (IsMention piece) is (of_map found.0 said.0 found.1 said.1)

pub returns-in-None : goal.returns-in-None
returns-in-None c = no_map c.in-None.ensures.pairs
