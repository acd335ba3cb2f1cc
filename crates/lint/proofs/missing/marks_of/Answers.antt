use Rattle.std.proofs.Common.{◌∙◌, ap, sym, take}
use Rattle.std.specs.List.{list_any}
use Rattle.std.proofs.lemmas.List.{take_more}
use Rattle.lint.specs.LeftWith.{refuses}
use Rattle.lint.proofs.missing.marks_of.Goals as goal

pub loop-line-preserved : goal.loop-line-preserved
loop-line-preserved c =
    let lines = c.args.lines.now in
    let at = c.loop-line.line-index in
    record {
      many = c.mark.ensures.many ∙ c.loop-line.invariant.many;
      marked = λ number.
          c.mark.ensures.marked (take at lines) c.loop-line.invariant.marked number
          ∙ sym (ap (list_any (refuses number)) (take_more lines at _ c.loop-line-test.true));
    }
