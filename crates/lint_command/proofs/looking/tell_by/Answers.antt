use Rattle.std.proofs.Common.{ℕ, Option, ◌∷◌, [], inr, refl, subst}
use Rattle.lint.specs.Tower.{IsOneFault}
use Rattle.lint_command.proofs.Findings.{answered}
use Rattle.lint_command.proofs.looking.tell_by.Goals as goal

pub returns-in-Err-clause-told : goal.returns-in-Err-clause-told
returns-in-Err-clause-told g c =
    let name = c.args.file.now.name.now in
    let file = c.args.file.now.text.now in
    let located = c.in-Err.located in
    answered c.tell_fault.result
    (λ told is.
    let at = c.in-Err.ensures.span is.1 in (
      name ∷ [],
      is.0,
      inr
          (
          record {
            fault = located.fault;
            span = at.0;
            has = c.in-Err.ensures.fault is.1;
            at = at.2;
            one = subst (λ (span : Option (ℕ × ℕ)). IsOneFault file located.fault span is.0) at.1 is.2;
            names_are = refl;
          }
          ),
      is.3,
    )) c.tell_fault.ensures.told
