use Rattle.std.proofs.Common.{◌≡◌, Option, Some, rules, ap, subst, sym, ◌∙◌}
use Rattle.intervals.specs.declared.operation.Op.{Op}
use Rattle.intervals.specs.Table.{TableModel}
use Rattle.safe_regular.specs.Held.{JudgeModel}
use Rattle.safe_regular.specs.Writes.{ReservesOnlyForWrite}
use Rattle.safe_regular.proofs.judge.SingleWriterJudge.release.Goals as goal

pub invariant_of-self : goal.invariant_of-self
invariant_of-self c =
    let some : c.self.inside.table.prepared ≡ Some c.args.op.now = ap (λ (j : JudgeModel). j.prepared) c.self.view_is ∙ c.requires in
    let before = subst (λ (o : Option Op). ReservesOnlyForWrite o c.self.inside.writes) some c.self.invariant.only in
    record {
      apart = search rules;
      shelved = search rules;
      laid = search rules;
      room = search rules;
      only = subst (λ (o : Option Op). ReservesOnlyForWrite o c.release.new.self) (sym (ap (λ (t : TableModel). t.prepared) c.release-2.ensures)) (c.release.ensures.only before);
    }
