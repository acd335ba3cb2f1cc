use Rattle.std.proofs.Common.{◌∙◌, ◌+◌, ◌++◌, Bool, List, ap, drop, subst, sym}
use Rattle.std.specs.List.{flat_map}
use Rattle.std.proofs.lemmas.List.{append_assoc, drop_more}
use Rattle.lint.specs.LeftWith.{left_with_line}
use Rattle.lint.specs.Marked.{AreMarked}
use Rattle.lint.proofs.missing.left_with_each.Goals as goal

pub loop-line-preserved : goal.loop-line-preserved
loop-line-preserved c =
    let lines = c.args.lines.now in
    let f = left_with_line lines in
    let at = c.loop-line.line-index in
    let so_far = c.loop-line.each.items in
    let rest = flat_map f (drop (at + 1) lines) in
    let marked = subst (λ (marks : List Bool). AreMarked marks lines) (sym c.as_slice.ensures.value) c.in_ok-marks.ensures in
    ap (λ each. each ++ rest) (c.in_ok-push_left_with.ensures lines marked)
    ∙ append_assoc so_far _ rest
    ∙ ap (λ left. so_far ++ flat_map f left) (sym (drop_more lines at _ c.loop-line-test.true))
    ∙ c.loop-line.invariant
