use Rattle.std.proofs.Common.{◌≡◌, ℕ, List, sym, ap, subst, ◌∙◌}
use Rattle.edn_reader.specs.Flat.{BeginsWithElement}
use Rattle.edn_reader.specs.Lent.{piece_of}
use Rattle.jepsen_form.specs.Fields.{Fields, fields_of, IsUnderValue}
use Rattle.jepsen_form.specs.Form.{seen_all}
use Rattle.jepsen_form.specs.Item.{gist_of, item_of, with_gist, IsItem, of_map}
use Rattle.jepsen_form.proofs.Items.{inner_of_pairs, under_value_of_pairs}
use Rattle.jepsen_form.proofs.Loops.{noted_next, noted_all}
use Rattle.jepsen_form.proofs.read.read_first.Goals as goal

pub loop-key-preserved : goal.loop-key-preserved
loop-key-preserved c =
    let so_far = c.loop-key.invariant.noted in
    let of = c.loop-key.invariant.of in
    record {
      of = (c.in-Pair.ensures.of.0 ∙ of.0, c.in-Pair.ensures.of.1 ∙ of.1);
      noted = noted_next c.loop-key.map c.next_part.new.self c.args.field c.loop-key.form c.note.new.form c.in-Pair.key c.in-Pair.value so_far
          (c.in-Pair.ensures.part so_far.pairs so_far.read) c.note.ensures;
    }

pub returns-in-End-clause-first : goal.returns-in-End-clause-first
returns-in-End-clause-first c =
    let so_far = c.loop-key.invariant.noted in
    let of = c.loop-key.invariant.of in
    let piece = piece_of c.in-End.element in
    let said = c.in-End.ensures.part so_far.pairs so_far.read in
    subst (λ (bytes : List ℕ). BeginsWithElement bytes c.args.place piece) of.0 (subst (λ (place : ℕ). BeginsWithElement c.loop-key.map.bytes.now place piece) of.1 said.0)

pub returns-in-End-clause-item : goal.returns-in-End-clause-item
returns-in-End-clause-item c =
    let so_far = c.loop-key.invariant.noted in
    let pairs = so_far.pairs in
    let piece = piece_of c.in-End.element in
    let has = (c.in-End.ensures.part pairs so_far.read).1 in
    let said = under_value_of_pairs c.members_of_vector.ensures.some c.pairs_of_map.ensures.elements c.pairs_of_map.ensures.values piece pairs has in
    let inner = inner_of_pairs c.members_of_vector.ensures.some c.members_of_vector.ensures.elements c.pairs_of_map.ensures.elements c.pairs_of_map.ensures.values piece pairs said.0 has said.1 in
    let seen = noted_all c.loop-key.map c.args.field c.loop-key.form so_far in
    let said_there = subst (λ (fields : Fields). IsUnderValue fields.value said.0) (sym seen) said.1 in
    let is : with_gist (gist_of c.args.tower.now (fields_of c.args.field pairs) said.0 inner.0) (item_of c.args.tower.now (fields_of c.args.field pairs) said.0 c.text.result) ≡ c.with_gist.result =
    ap (λ (fields : Fields). with_gist (gist_of c.args.tower.now fields said.0 inner.0) (item_of c.args.tower.now fields said.0 c.text.result)) (sym seen)
    ∙ ap (with_gist (gist_of c.args.tower.now (seen_all c.loop-key.form) said.0 inner.0)) (sym (c.item_in-item.ensures.item said.0 said_there))
    ∙ sym (c.with_gist.ensures.item said.0 inner.0 said_there inner.1) in
    subst (IsItem c.args.tower.now c.args.field piece) is (of_map pairs said.0 inner.0 c.text.result has said.1 inner.1 c.text.ensures)
