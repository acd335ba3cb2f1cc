use Rattle.std.proofs.Common.{◌≡◌, sym, ap, subst, ◌∙◌}
use Rattle.edn_reader.specs.Lent.{piece_of}
use Rattle.jepsen_form.specs.Fields.{Fields, fields_of, IsUnderValue}
use Rattle.jepsen_form.specs.Form.{seen_all}
use Rattle.jepsen_form.specs.Item.{gist_of, item_of, with_gist, IsItem, no_map, of_map}
use Rattle.jepsen_form.proofs.Items.{inner_of_pairs, under_value_of_pairs}
use Rattle.jepsen_form.proofs.read.read_item.Goals as goal

pub returns-in-Some-clause-item : goal.returns-in-Some-clause-item
returns-in-Some-clause-item c =
    let piece = piece_of c.args.element in
    let found = c.in-Some.ensures.some in
    let said = under_value_of_pairs c.members_of_vector.ensures.some c.pairs_of_map.ensures.elements c.pairs_of_map.ensures.values piece found.0 found.1 in
    let seen = c.fill.ensures found.0 found.2 in
    let inner = inner_of_pairs c.members_of_vector.ensures.some c.members_of_vector.ensures.elements c.pairs_of_map.ensures.elements c.pairs_of_map.ensures.values piece found.0 said.0 found.1 said.1 in
    let said_there = subst (λ (fields : Fields). IsUnderValue fields.value said.0) (sym seen) said.1 in
    let is : with_gist (gist_of c.args.tower.now (fields_of c.args.field found.0) said.0 inner.0) (item_of c.args.tower.now (fields_of c.args.field found.0) said.0 c.text.result) ≡ c.with_gist.result =
    ap (λ (fields : Fields). with_gist (gist_of c.args.tower.now fields said.0 inner.0) (item_of c.args.tower.now fields said.0 c.text.result)) (sym seen)
    ∙ ap (with_gist (gist_of c.args.tower.now (seen_all c.fill.new.form) said.0 inner.0)) (sym (c.item_in.ensures.item said.0 said_there))
    ∙ sym (c.with_gist.ensures.item said.0 inner.0 said_there inner.1) in
    subst (IsItem c.args.tower.now c.args.field piece) is (of_map found.0 said.0 inner.0 c.text.result found.1 said.1 inner.1 c.text.ensures)

pub returns-in-None-clause-item : goal.returns-in-None-clause-item
returns-in-None-clause-item c = subst (IsItem c.args.tower.now c.args.field (piece_of c.args.element)) (sym c.no_map.ensures) (no_map c.in-None.ensures.pairs)
