use Rattle.std.proofs.Common.{ap, ◌∙◌}
use Rattle.lint.proofs.Results.{weaker}
use Rattle.lint.proofs.tower.lint_tower.Goals as goal

pub returns : goal.returns
returns c =
    record {
      notes =
          weaker c.one_file.result (λ found file. record { one = file.one; traces_are = file.traces_are; none = ap (λ findings. findings.items) file.findings_are ∙ c.new-2.ensures.items })
          c.one_file.ensures.found;
    }
