use Rattle.std.proofs.Common.{List, [], ◌∷◌, ◌++◌, ap, refl, ◌∙◌}
use Rattle.lint.specs.declared.finding.TraceFindings.{TraceFindings}
use Rattle.lint.proofs.tower.one_file.Goals as goal

pub returns : goal.returns
returns c =
    record {
      found =
          let one : TraceFindings = record { spots = c.new.result; findings = c.args.findings; notes = c.args.notes; unfinished = c.new-2.result; processes = c.new-3.result; waiting = c.new-4.result; left_with = c.new-5.result } in
          record {
            one = one;
            traces_are = c.in_ok-push.ensures.items ∙ ap (λ (before : List TraceFindings). before ++ one ∷ []) c.new-traces.ensures.items;
            findings_are = refl;
            notes_are = refl;
          };
    }
