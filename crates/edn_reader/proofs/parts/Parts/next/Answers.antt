use Rattle.std.proofs.Common.{rules, ◌≡◌, length, Option, None, refl, sym, ap, subst, ◌∙◌, arith}
use Rattle.edn_reader.specs.declared.element.Element.{Element}
use Rattle.edn_reader.specs.Lent.{NextPart}
use Rattle.edn_reader.specs.Skipping.{kind_token}
use Rattle.edn_reader.proofs.Stretches.{from_index}
use Rattle.edn_reader.proofs.Skipping.{none_at_end, present_token}
use Rattle.edn_reader.proofs.Views.{none_left, found_piece, leaf_part, next_part}
use Rattle.edn_reader.proofs.Lent.{found_is_element}
use Rattle.edn_reader.proofs.parts.Parts.next.Goals as goal

pub returns-in_err-first-clause-part : goal.returns-in_err-first-clause-part
returns-in_err-first-clause-part c opener parts h =
    let left = c.args.self.now.left.now in
    let given : c.from_residual.result ≡ None = search rules in
    subst (λ (o : Option Element). NextPart opener o c.args.self.now parts) (sym given)
    (none_left opener c.args.self.now (length left) c.in_err-first.ensures.end (ap kind_token (none_at_end left (length left) (omega arith))) parts h)

pub returns-in-Closes-clause-part : goal.returns-in-Closes-clause-part
returns-in-Closes-clause-part c opener parts h =
    let left = c.args.self.now.left.now in
    let first = c.in_ok-first.first in
    none_left opener c.args.self.now first.at c.in_ok-first.ensures.end
    (ap kind_token (present_token left first first.at c.in_ok-first.ensures.present.0 refl ∙ c.in-Closes.is)) parts h

pub new-requires-2-clause-whole : goal.new-requires-2-clause-whole
new-requires-2-clause-whole c =
    let left = c.args.self.now.left.now in
    let first = c.in_ok-first.first in
    let kind = c.in-Leaf.kind in
    let present = c.in_ok-first.ensures.present.0 in
    found_is_element c.args.self.now c.new.result (found_piece c.args.self.now first.at first.at first.found.end kind kind) c.requires
    (λ opener parts h. leaf_part opener c.args.self.now c.new.result first kind c.in_ok-first.ensures.end present c.in-Leaf.is c.new.ensures.at (c.new.ensures.left ∙ from_index left first.found.end) parts h)

pub returns-clause-part : goal.returns-clause-part
returns-clause-part c opener parts h =
    let left = c.args.self.now.left.now in
    let first = c.in_ok-first.first in
    let kind = c.in-Leaf.kind in
    let present = c.in_ok-first.ensures.present.0 in
    next_part opener c.new.result c.new-2.result (found_piece c.args.self.now first.at first.at first.found.end kind kind) c.new-2.ensures parts
    (leaf_part opener c.args.self.now c.new.result first kind c.in_ok-first.ensures.end present c.in-Leaf.is c.new.ensures.at (c.new.ensures.left ∙ from_index left first.found.end) parts h)
