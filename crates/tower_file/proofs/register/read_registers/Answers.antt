use Rattle.std.proofs.Common.{◌≡◌, ℕ, Ok, Err, sym, ap, subst, ◌∙◌}
use Rattle.std.proofs.lemmas.Result.{err_from_is_err_and}
use Rattle.tower_file.specs.Form.{IsRegister}
use Rattle.tower_file.specs.Reading.{with_register, through}
use Rattle.edn_reader.specs.Lent.{piece_of}
use Rattle.tower_file.specs.Located.{IsAmongRegisters}
use Rattle.tower_file.specs.Stated.{IsSpanned}
use Rattle.tower_file.proofs.Loops.{after_begins, after_on, after_fails, after_stops, after_ends}
use Rattle.tower_file.proofs.Places.{one_more, no_more}
use Rattle.tower_file.proofs.register.read_registers.Goals as goal

pub returns-in_err-name-clause-err : goal.returns-in_err-name-clause-err
returns-in_err-name-clause-err c =
    let p = err_from_is_err_and c.from_residual.result c.from_residual.ensures.1 in
    rw (p.1, p.2) (λ other forms h. subst (λ (first : ℕ). through (with_register c.args.level first) c.args.registers.now forms ≡ Err c.in_err-name.field-0.0.fault) c.len-first.ensures.length
    (after_fails IsRegister (with_register c.args.level c.len-first.result) c.args.view c.loop-element.left c.next.new.self c.in-Some.element c.args.registers.now c.loop-element.registers c.in_err-name.field-0.0.fault
    c.loop-element.invariant c.in-Some.ensures.member (λ form is. no_more _ _ _ form _ (c.in_err-name.ensures.register form is other)) forms h))

pub returns-in_err-name-clause-span : goal.returns-in_err-name-clause-span
returns-in_err-name-clause-span c =
    let p = err_from_is_err_and c.from_residual.result c.from_residual.ensures.1 in
    rw (p.1, p.2) (λ other forms h. subst (λ (first : ℕ). IsSpanned (IsAmongRegisters c.args.level first c.args.registers.now c.in_err-name.field-0.0.fault h.0) c.in_err-name.field-0.0.span) c.len-first.ensures.length
    (let s = c.in_err-name.ensures.span other in (
      s.0,
      (
        c.loop-element.registers,
        piece_of c.in-Some.element,
        after_stops IsRegister (with_register c.args.level c.len-first.result) c.args.view c.loop-element.left c.next.new.self c.in-Some.element c.args.registers.now c.loop-element.registers c.in_err-name.field-0.0.fault
            c.loop-element.invariant c.in-Some.ensures.member (λ form is. no_more _ _ _ form _ (c.in_err-name.ensures.register form is other)) forms h,
        s.1,
      ),
      s.2,
    )))

pub returns-in_err-push-clause-span : goal.returns-in_err-push-clause-span
returns-in_err-push-clause-span c =
    let p = err_from_is_err_and c.from_residual-in_err-push.result c.from_residual-in_err-push.ensures.1 in
    rw (p.1, p.2) (λ other forms h. absurd (other c.in_err-push.ensures.memory))

pub loop-element-init : goal.loop-element-init
loop-element-init c = after_begins IsRegister (with_register c.args.level c.len-first.result) c.args.view c.args.registers.now

pub loop-element-preserved : goal.loop-element-preserved
loop-element-preserved c =
    after_on IsRegister (with_register c.args.level c.len-first.result) c.args.view c.loop-element.left c.next.new.self c.in-Some.element c.args.registers.now c.loop-element.registers c.push.new.self
    c.loop-element.invariant c.in-Some.ensures.member (λ form is. one_more _ _ _ form _ (c.in_ok-name.ensures.register form is) ∙ ap Ok (sym c.in_ok-push.ensures.ok))

pub returns-in_err-push-clause-err : goal.returns-in_err-push-clause-err
returns-in_err-push-clause-err c =
    let p = err_from_is_err_and c.from_residual-in_err-push.result c.from_residual-in_err-push.ensures.1 in
    rw (p.1, p.2) (λ other forms h. absurd (other c.in_err-push.ensures.memory))

pub returns-clause-ok : goal.returns-clause-ok
returns-clause-ok c forms h =
    subst (λ (first : ℕ). through (with_register c.args.level first) c.args.registers.now forms ≡ Ok c.loop-element.registers) c.len-first.ensures.length
    (after_ends IsRegister (with_register c.args.level c.len-first.result) c.args.view c.loop-element.left c.next.new.self c.args.registers.now c.loop-element.registers c.loop-element.invariant c.in_default.ensures.member forms h)

pub returns-in_err-name-clause-nowhere : goal.returns-in_err-name-clause-nowhere
returns-in_err-name-clause-nowhere c =
    let p = err_from_is_err_and c.from_residual.result c.from_residual.ensures.1 in
    rw (p.1, p.2) (c.in_err-name.ensures.nowhere)

pub returns-in_err-push-clause-nowhere : goal.returns-in_err-push-clause-nowhere
returns-in_err-push-clause-nowhere c =
    let p = err_from_is_err_and c.from_residual-in_err-push.result c.from_residual-in_err-push.ensures.1 in
    rw (p.1, p.2) (c.in_err-push.ensures.nowhere)
