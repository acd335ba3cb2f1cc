use Rattle.std.proofs.Common.{◌≡◌, List, [], ◌∷◌, ◌++◌, ap, ◌∙◌}
use Rattle.lint.specs.declared.finding.Amiss.TheVariants.{Tower}
use Rattle.lint.specs.declared.finding.Problem.{Problem}
use Rattle.places.specs.declared.location.Location.{Location}
use Rattle.lint.specs.Tower.{spot_of_span}
use Rattle.lint.proofs.Results.{weaker}
use Rattle.lint.proofs.tower.lint_fault.Goals as goal

pub returns : goal.returns
returns c =
    record {
      found =
          let at : Location → Problem = λ spot. record { what = Tower c.args.fault; spot = spot } in
          let pushed : c.push.new.self.items ≡ at (spot_of_span c.args.text.now c.args.span) ∷ [] =
          c.in_ok-push.ensures.items ∙ ap (λ (before : List Problem). before ++ at c.spot_of_span.result ∷ []) c.new-findings.ensures.items
          ∙ ap (λ (spot : Location). at spot ∷ []) c.spot_of_span.ensures in
          weaker c.one_file.result (λ found file. record { one = file.one; traces_are = file.traces_are; found = ap (λ findings. findings.items) file.findings_are ∙ pushed; alone = ap (λ notes. notes.items) file.notes_are ∙ c.new.ensures.items })
          c.one_file.ensures.found;
    }
