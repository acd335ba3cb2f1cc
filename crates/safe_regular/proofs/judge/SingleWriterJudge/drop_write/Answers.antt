use Rattle.std.proofs.Common.{◌∙◌, List, sym, ap}
use Rattle.std.proofs.lemmas.Bool.{both_ways}
use Rattle.intervals.specs.declared.operation.Op.{Op}
use Rattle.intervals.specs.declared.edit.Edit.TheVariants.{Withdraw}
use Rattle.intervals.specs.Edit.{edited}
use Rattle.intervals.specs.Operation.{is_write}
use Rattle.safe_regular.specs.Judge.{without_write}
use Rattle.safe_regular.specs.Held.{JudgeModel}
use Rattle.safe_regular.proofs.Named.{one_dropped, none_dropped}
use Rattle.safe_regular.proofs.judge.SingleWriterJudge.drop_write.Goals as goal

pub returns-then-is_write_in : goal.returns-then-is_write_in
returns-then-is_write_in c =
    let now = c.args.self.now in
    let ops_are = ap (λ (x : JudgeModel). x.ops) c.self.view_is in
    let gone = one_dropped is_write c.self.inside.table.ops c.self.invariant.apart.kept.ids c.args.id (c.is_write_in.ensures.0 c.if-is_write_in.true) in
    c.withdraw.ensures ∙ ap (λ (l : List Op). let x : JudgeModel = record now { ops = l } in x) (ap (λ (l : List Op). edited l (Withdraw c.args.id)) (sym ops_are) ∙ sym gone ∙ ap (λ (l : List Op). without_write l c.args.id) ops_are)

pub returns-else-is_write_in : goal.returns-else-is_write_in
returns-else-is_write_in c =
    let now = c.args.self.now in
    let ops_are = ap (λ (x : JudgeModel). x.ops) c.self.view_is in
    let left = none_dropped is_write c.self.inside.table.ops c.self.invariant.apart.kept.ids c.args.id (λ some. both_ways c.is_write_in.result c.if-is_write_in.false (c.is_write_in.ensures.1 some)) in
    ap (λ (l : List Op). let x : JudgeModel = record now { ops = l } in x) (sym ops_are ∙ sym left ∙ ap (λ (l : List Op). without_write l c.args.id) ops_are)
