use Rattle.std.proofs.Common.{◌≡◌, ◌∙◌, List, ap, arith, length, map, string_bytes, subst}
use Rattle.std.proofs.lemmas.List.{length-map}
use Rattle.clap.specs.Words.{Text}
use Rattle.words.specs.Words.{asked_lint}
use Rattle.lint_command.specs.Looked.{AreOfNames, IsPrintedAsAsked}
use Rattle.lint_command.proofs.Findings.{answered, as_many_found, found_named}
use Rattle.lint_command.proofs.looking.tell_named.Goals as goal

pub tell-requires : goal.tell-requires
tell-requires g c =
    let found = c.in_ok-found.found.traces.items in
    let in_traces = as_many_found _ _ found c.in_ok-found.ensures.found.are in
    record { each = omega (arith, ap length c.deref-2.ensures.value, c.in-Ok.ensures.many, in_traces, length-map c.args.slices.now (λ slice. slice.now)) }

pub returns-clause-told : goal.returns-clause-told
returns-clause-told g c =
    let asked = c.args.asked.now in
    let found = c.in_ok-found.found.traces.items in
    let traces = map (λ slice. slice.now) c.args.slices.now in
    let of_names : AreOfNames c.args.kind asked.moments traces found = found_named c.args.kind asked.moments traces c.in_ok-tower.tower found c.in_ok-tower.ensures.tower c.in_ok-found.ensures.found in
    let names_are : map (λ source. source.name.now) c.deref-2.result.now ≡ map (λ name. name.now) asked.traces.items =
    ap (map (λ source. source.name.now)) c.deref-2.ensures.value ∙ c.in-Ok.ensures.names ∙ ap (map (λ name. name.now)) c.deref.ensures.value in
    answered c.tell.result
    (λ told is. (found, of_names, subst (λ (names : List Text). IsPrintedAsAsked (asked_lint asked) c.args.denied.now names found (string_bytes told.text) told.status) names_are is))
    c.tell.ensures.told
