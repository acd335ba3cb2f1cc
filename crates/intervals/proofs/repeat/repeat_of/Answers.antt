use Rattle.std.proofs.Common.{◌≡◌, Some, None, sym, ap, ◌∙◌}
use Rattle.std.specs.Prelude.{Option, option_map}
use Rattle.intervals.specs.declared.claim.Holder.TheVariants as holders
use Rattle.intervals.specs.declared.operation.OpId.{OpId}
use Rattle.intervals.specs.declared.operation.Value.{Value}
use Rattle.intervals.specs.Operation.{value_of}
use Rattle.intervals.specs.Refusal.{id_with, is_initial}
use Rattle.intervals.specs.OrderedIndex.{id_at}
use Rattle.intervals.specs.Terms.{terms_of}
use Rattle.intervals.proofs.Repeats.{at_first, repeat_by, first_with_read, first_with_write}
use Rattle.intervals.proofs.repeat.repeat_of.Goals as goal

pub returns-then-not-is_write-clause-first : goal.returns-then-not-is_write-clause-first
returns-then-not-is_write-clause-first c = λ before are _. first_with_read c.args.first.now before c.args.op.now are (sym c.is_write.ensures ∙ c.if-not-is_write.true)

pub returns-in-Some-clause-repeat : goal.returns-in-Some-clause-repeat
returns-in-Some-clause-repeat c = λ before are none.
    let claim = terms_of c.args.claim.now in
    let op = c.args.op.now in
    let there : id_at c.args.first.now (at_first (value_of op.act)) ≡ Some c.in-Some.id =
    ap (λ (v : Value). id_at c.args.first.now (at_first v)) (sym c.value-2.ensures) ∙ sym c.get.ensures ∙ c.in-Some.is in
    sym (repeat_by claim before op c.args.first.now (sym c.is_write.ensures ∙ c.if-not-is_write.false)
    (ap (is_initial claim) (sym c.value.ensures) ∙ sym c.is_initial.ensures ∙ c.if-is_initial.false) are none
    ∙ ap (λ (id : Option OpId). option_map (id_with op) (option_map holders.Op id)) there)

pub returns-clause-repeat : goal.returns-clause-repeat
returns-clause-repeat c = λ before are none.
    let claim = terms_of c.args.claim.now in
    let op = c.args.op.now in
    let empty : id_at c.args.first.now (at_first (value_of op.act)) ≡ None =
    ap (λ (v : Value). id_at c.args.first.now (at_first v)) (sym c.value-2.ensures) ∙ sym c.get.ensures ∙ c.in_default.is in
    sym (repeat_by claim before op c.args.first.now (sym c.is_write.ensures ∙ c.if-not-is_write.false)
    (ap (is_initial claim) (sym c.value.ensures) ∙ sym c.is_initial.ensures ∙ c.if-is_initial.false) are none
    ∙ ap (λ (id : Option OpId). option_map (id_with op) (option_map holders.Op id)) empty)

pub returns-clause-first : goal.returns-clause-first
returns-clause-first c = λ before are _.
    first_with_write c.args.first.now c.hold.new.self c.put.new.self before c.args.op.now c.value-2.result are (sym c.is_write.ensures ∙ c.if-not-is_write.false) c.value-2.ensures
    (sym c.get.ensures ∙ c.in_default.is) c.hold.ensures.ids c.put.ensures
