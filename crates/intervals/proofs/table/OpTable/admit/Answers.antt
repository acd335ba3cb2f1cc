use Rattle.std.proofs.Common.{◌≡◌, Some, sym, subst, ◌∙◌}
use Rattle.intervals.specs.declared.edit.Edit.{Edit}
use Rattle.intervals.specs.Edit.{new_op}
use Rattle.intervals.proofs.Indexed.{left_present}
use Rattle.intervals.proofs.table.OpTable.admit.Goals as goal

pub amend-requires-clause-present : goal.amend-requires-clause-present
amend-requires-clause-present c =
    let ops = c.args.self.now.ops in
    let left = subst (λ (edit : Edit). new_op ops edit ≡ Some c.in-Some.op) c.in-Amend.is (sym c.requires.target.new ∙ c.in-Some.is) in
    left_present ops c.in-Amend.field-0 c.in-Amend.field-1 c.in-Some.op left
