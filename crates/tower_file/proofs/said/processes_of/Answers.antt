use Rattle.std.proofs.Common.{◌≡◌, ◌++◌, ◌∷◌, [], sym, subst, rules}
use Rattle.std.proofs.lemmas.Result.{err_from_is_err_and}
use Rattle.tower_file.specs.Reading.{process_of}
use Rattle.tower_file.proofs.Loops.{SoFar, so_far_on, so_far_fails, so_far_ends}
use Rattle.tower_file.proofs.said.processes_of.Goals as goal

pub returns-in_err-process_of : goal.returns-in_err-process_of
returns-in_err-process_of c members h =
    let p = err_from_is_err_and c.from_residual.result c.from_residual.ensures.1 in
    rw (p.1, p.2) (λ other. so_far_fails process_of c.args.view c.loop-element.left c.next.new.self c.in-Some.element c.loop-element.processes.items c.in_err-process_of.field-0.0 c.loop-element.invariant c.in-Some.ensures.member (sym c.in_err-process_of.ensures) members h)

pub loop-element-preserved : goal.loop-element-preserved
loop-element-preserved c =
    let pushed : c.push.new.self.items ≡ c.loop-element.processes.items ++ c.in_ok-process_of.field-0 ∷ [] = search rules in
    subst (SoFar process_of c.args.view c.next.new.self) (sym pushed)
    (so_far_on process_of c.args.view c.loop-element.left c.next.new.self c.in-Some.element c.loop-element.processes.items c.in_ok-process_of.field-0 c.loop-element.invariant c.in-Some.ensures.member (sym c.in_ok-process_of.ensures))

pub returns : goal.returns
returns c = so_far_ends process_of c.args.view c.loop-element.left c.next.new.self c.loop-element.processes.items c.loop-element.invariant c.in_default.ensures.member
