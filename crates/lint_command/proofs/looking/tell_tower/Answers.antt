use Rattle.std.proofs.Common.{◌∙◌, ap, arith, length}
use Rattle.std.proofs.lemmas.List.{length-append, length-map}
use Rattle.lint_command.proofs.Findings.{as_many_found}
use Rattle.lint_command.proofs.looking.tell_tower.Goals as goal

pub tell-requires : goal.tell-requires
tell-requires g c =
    let found = c.in_ok-found.found.traces.items in
    let in_file = c.in-Ok.in_file.traces.items in
    let slices = c.args.slices.now in
    let in_traces = as_many_found _ _ found c.in_ok-found.ensures.found.are in
    let all = ap length c.in-Ok-append.ensures ∙ length-append found in_file in
    record {
      each = omega (arith, ap length c.deref-2.ensures.value, c.in-Ok-with_file.ensures.many, in_traces, length-map slices (λ slice. slice.now), all, ap length c.in-Ok.ensures.notes.traces_are);
    }
