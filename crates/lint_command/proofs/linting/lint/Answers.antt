use Rattle.std.proofs.Common.{List, ℕ, Some, map, subst, ◌∙◌}
use Rattle.std.specs.List.{AllZip}
use Rattle.std.specs.Borrow.{Bor}
use Rattle.std.proofs.lemmas.List.{length-map}
use Rattle.std.proofs.lemmas.Slice.Zip.{AllZip-long}
use Rattle.feeders.specs.Readers.{AreReadOf}
use Rattle.logs.specs.Run.{plan_of_run}
use Rattle.lint.specs.Found.{NamesElements}
use Rattle.lint_command.proofs.NamedElements.{each_names}
use Rattle.lint_command.proofs.linting.lint.Goals as goal

pub lint_traces-requires : goal.lint_traces-requires
lint_traces-requires g c =
    let texts = c.args.texts.now in
    let logs = c.in_ok-run.run'.logs.items in
    let read = c.in_ok-run.ensures.run.0 in
    let run = c.in_ok-run.ensures.run.2 in
    let are_read = subst (λ (all : List (Bor (List ℕ))). AreReadOf (map (λ text. Some text.now) all) logs read) c.in_ok-readers.ensures.items c.in_ok-run.ensures.run.1 in
    let named : AllZip NamesElements (map (λ text. text.now) texts) logs =
    each_names c.elements_of_a_prefix.ensures.text c.elements_of_a_prefix.ensures.so_far (plan_of_run c.args.tower.now 1 read) c.args.tower.now c.args.field c.in_ok-run.run'.closed
    (λ (text : Bor (List ℕ)). text.now) 0 texts read logs run.traced are_read in
    record { each = AllZip-long NamesElements (map (λ text. text.now) texts) logs named ∙ length-map texts (λ text. text.now); named = named }

pub returns-clause-found : goal.returns-clause-found
returns-clause-found g c =
    let logs = c.in_ok-run.run'.logs.items in
    let read = c.in_ok-run.ensures.run.0 in (
      c.in_ok-run.run'.closed,
      logs,
      read,
      subst (λ (all : List (Bor (List ℕ))). AreReadOf (map (λ text. Some text.now) all) logs read) c.in_ok-readers.ensures.items c.in_ok-run.ensures.run.1,
      c.in_ok-run.ensures.run.2,
      c.in_ok-found.ensures.found,
    )
