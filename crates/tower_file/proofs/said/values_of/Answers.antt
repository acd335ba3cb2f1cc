use Rattle.std.proofs.Common.{◌≡◌, ◌++◌, ◌∷◌, [], sym, subst, rules}
use Rattle.std.proofs.lemmas.Result.{err_from_is_err_and}
use Rattle.tower_file.specs.Reading.{domain_value}
use Rattle.tower_file.proofs.Loops.{SoFar, so_far_on, so_far_fails, so_far_ends}
use Rattle.tower_file.proofs.said.values_of.Goals as goal

pub returns-in_err-value_of : goal.returns-in_err-value_of
returns-in_err-value_of c members h =
    let p = err_from_is_err_and c.from_residual.result c.from_residual.ensures.1 in
    rw (p.1, p.2) (λ other. so_far_fails domain_value c.args.view c.loop-element.left c.next.new.self c.in-Some.element c.loop-element.values.items c.in_err-value_of.field-0.0 c.loop-element.invariant c.in-Some.ensures.member (sym c.in_err-value_of.ensures) members h)

pub loop-element-preserved : goal.loop-element-preserved
loop-element-preserved c =
    let pushed : c.push.new.self.items ≡ c.loop-element.values.items ++ c.in_ok-value_of.field-0 ∷ [] = search rules in
    subst (SoFar domain_value c.args.view c.next.new.self) (sym pushed)
    (so_far_on domain_value c.args.view c.loop-element.left c.next.new.self c.in-Some.element c.loop-element.values.items c.in_ok-value_of.field-0 c.loop-element.invariant c.in-Some.ensures.member (sym c.in_ok-value_of.ensures))

pub returns : goal.returns
returns c = so_far_ends domain_value c.args.view c.loop-element.left c.next.new.self c.loop-element.values.items c.loop-element.invariant c.in_default.ensures.member
