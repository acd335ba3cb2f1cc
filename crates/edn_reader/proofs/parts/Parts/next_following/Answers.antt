use Rattle.std.proofs.Common.{rules, ◌≡◌, length, Option, None, refl, sym, ap, subst, ◌∙◌, arith}
use Rattle.edn_reader.specs.declared.element.Element.{Element}
use Rattle.edn_reader.specs.Lent.{NextPart}
use Rattle.edn_reader.specs.Skipping.{kind_token}
use Rattle.edn_reader.proofs.Stretches.{from_index}
use Rattle.edn_reader.proofs.Skipping.{none_at_end, present_token}
use Rattle.edn_reader.proofs.Views.{none_left, no_core_left, found_piece, found_part, next_part}
use Rattle.edn_reader.proofs.Lent.{found_is_element}
use Rattle.edn_reader.proofs.parts.Parts.next_following.Goals as goal

pub returns-in_err-inner-clause-part : goal.returns-in_err-inner-clause-part
returns-in_err-inner-clause-part c opener parts h =
    let left = c.args.self.now.left.now in
    let given : c.from_residual.result ≡ None = search rules in
    subst (λ (o : Option Element). NextPart opener o c.args.self.now parts) (sym given)
    (no_core_left opener c.args.self.now c.args.first.at (length left) c.requires.gap c.in_err-inner.ensures.end (ap kind_token (none_at_end left (length left) (omega arith))) parts h)

pub returns-in_err-kind-clause-part : goal.returns-in_err-kind-clause-part
returns-in_err-kind-clause-part c opener parts h =
    let left = c.args.self.now.left.now in
    let first = c.args.first in
    let given : c.from_residual-in_err-kind.result ≡ None = search rules in
    subst (λ (o : Option Element). NextPart opener o c.args.self.now parts) (sym given)
    (none_left opener c.args.self.now first.at c.requires.gap
    (ap kind_token (present_token left first first.at c.requires.present refl) ∙ sym c.kind_of.ensures ∙ c.in_err-kind.was) parts h)

pub returns-in_err-core_kind-clause-part : goal.returns-in_err-core_kind-clause-part
returns-in_err-core_kind-clause-part c opener parts h =
    let left = c.args.self.now.left.now in
    let inner = c.in_ok-inner.inner in
    let given : c.from_residual-in_err-core_kind.result ≡ None = search rules in
    subst (λ (o : Option Element). NextPart opener o c.args.self.now parts) (sym given)
    (no_core_left opener c.args.self.now c.args.first.at inner.at c.requires.gap c.in_ok-inner.ensures.end
    (ap kind_token (present_token left inner inner.at c.in_ok-inner.ensures.present.0 refl) ∙ sym c.kind_of-2.ensures ∙ c.in_err-core_kind.was) parts h)

pub new-requires-2-clause-whole : goal.new-requires-2-clause-whole
new-requires-2-clause-whole c =
    let left = c.args.self.now.left.now in
    let first = c.args.first in
    let inner = c.in_ok-inner.inner in
    let end = c.end_after-end.result in
    found_is_element c.args.self.now c.new.result (found_piece c.args.self.now first.at inner.at end c.in_ok-kind.kind c.in_ok-core_kind.core_kind) c.requires.holds
    (λ opener parts h. found_part opener c.args.self.now c.new.result first.at inner.at end c.in_ok-kind.kind c.in_ok-core_kind.core_kind
    c.requires.gap c.in_ok-inner.ensures.end c.end_after-end.ensures.end c.in_ok-inner.ensures.present.1 (omega (arith, c.end_after-end.ensures.forward))
    (sym c.in_ok-kind.was ∙ c.kind_of.ensures ∙ ap kind_token (sym (present_token left first first.at c.requires.present refl)))
    (sym c.in_ok-core_kind.was ∙ c.kind_of-2.ensures ∙ ap kind_token (sym (present_token left inner inner.at c.in_ok-inner.ensures.present.0 refl)))
    c.new.ensures.at (c.new.ensures.left ∙ from_index left end) parts h)

pub returns-clause-part : goal.returns-clause-part
returns-clause-part c opener parts h =
    let left = c.args.self.now.left.now in
    let first = c.args.first in
    let inner = c.in_ok-inner.inner in
    let end = c.end_after-end.result in
    next_part opener c.new.result c.new-2.result (found_piece c.args.self.now first.at inner.at end c.in_ok-kind.kind c.in_ok-core_kind.core_kind) c.new-2.ensures parts
    (found_part opener c.args.self.now c.new.result first.at inner.at end c.in_ok-kind.kind c.in_ok-core_kind.core_kind
    c.requires.gap c.in_ok-inner.ensures.end c.end_after-end.ensures.end c.in_ok-inner.ensures.present.1 (omega (arith, c.end_after-end.ensures.forward))
    (sym c.in_ok-kind.was ∙ c.kind_of.ensures ∙ ap kind_token (sym (present_token left first first.at c.requires.present refl)))
    (sym c.in_ok-core_kind.was ∙ c.kind_of-2.ensures ∙ ap kind_token (sym (present_token left inner inner.at c.in_ok-inner.ensures.present.0 refl)))
    c.new.ensures.at (c.new.ensures.left ∙ from_index left end) parts h)
