use Rattle.std.proofs.Common.{◌∙◌, length, sym}
use Rattle.std.proofs.lemmas.Bool.{eqb-true}
use Rattle.lint_command.proofs.Findings.{found_by, none_found}
use Rattle.lint_command.proofs.looking.findings.Goals as goal

pub returns-then-is_empty-clause-found : goal.returns-then-is_empty-clause-found
returns-then-is_empty-clause-found g c =
    none_found c.args.tower.now _ c.args.slices.now c.new.result.items (eqb-true (length c.args.slices.now) 0 (sym c.is_empty.ensures ∙ c.if-is_empty.true)) c.new.ensures.items

pub returns-in-Ok-clause-found : goal.returns-in-Ok-clause-found
returns-in-Ok-clause-found g c =
    let is = c.in-Ok.ensures.found in
    let slices = c.args.slices.now in
    found_by c.args.tower.now c.args.asked.now.moments slices is.0 is.1 is.2 c.in-Ok.found.traces.items is.3 is.4 is.5
