use Rattle.std.proofs.Common.{◌≡◌, ◌∙◌, Bool, Some, sym, subst}
use Rattle.std.specs.Prelude.{IfSome}
use Rattle.intervals.specs.Edit.{found_by}
use Rattle.intervals.specs.Operation.{IsJudgedRead}
use Rattle.intervals.specs.Terms.{terms_of}
use Rattle.intervals.proofs.Ids.{found_present}
use Rattle.safe_regular.proofs.RowsAfter.{id_is, row_as}
use Rattle.safe_regular.proofs.judged.is_wrong_row.Goals as goal

pub returns-then-end_number-row : goal.returns-then-end_number-row
returns-then-end_number-row c are apart =
    let ops = c.args.table.now.ops in
    let row = c.args.row.now in
    let op = c.in-Some.op in
    let found : found_by ops (Some row.id) ≡ Some op = sym c.find.ensures ∙ c.in-Some.is in
    let (present, id) = found_present ops (Some row.id) op found in
    let judged : IsJudgedRead op = sym c.is_judged_read.ensures ∙ c.if-is_judged_read.true in
    subst (λ (b : Bool). IfSome c.is_wrong.result (λ wrong. wrong ≡ b)) (sym (row_as (terms_of c.args.claim.now) ops apart row op present (id_is op.id row.id id) (sym (sym c.end_number.ensures ∙ c.if-end_number-row.true))))
    (c.is_wrong.ensures are apart present judged)
