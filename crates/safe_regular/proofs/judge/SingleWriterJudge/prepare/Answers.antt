use Rattle.std.proofs.Common.{◌≡◌, None, Option, rules, ap, subst, sym, ◌∙◌}
use Rattle.intervals.specs.declared.operation.Op.{Op}
use Rattle.intervals.specs.Table.{TableModel}
use Rattle.safe_regular.specs.Held.{JudgeModel}
use Rattle.safe_regular.specs.Writes.{ReservesOnlyForWrite}
use Rattle.safe_regular.proofs.judge.SingleWriterJudge.prepare.Goals as goal

-- a place is held only for the operation that is prepared
pub invariant_of-self-in_err-hold : goal.invariant_of-self-in_err-hold
invariant_of-self-in_err-hold c =
    record {
      apart = search rules;
      shelved = search rules;
      laid = search rules;
      room = search rules;
      only = λ spot held. c.self.invariant.only spot (sym (c.in_err-hold.ensures.err spot) ∙ held);
    }

pub invariant_of-self-in-Err : goal.invariant_of-self-in-Err
invariant_of-self-in-Err c =
    let none : c.self.inside.table.prepared ≡ None = ap (λ (j : JudgeModel). j.prepared) c.self.view_is ∙ c.requires in
    let before = subst (λ (o : Option Op). ReservesOnlyForWrite o c.self.inside.writes) none c.self.invariant.only in
    record {
      apart = search rules;
      shelved = search rules;
      laid = search rules;
      room = search rules;
      only = subst (λ (o : Option Op). ReservesOnlyForWrite o c.release.new.self) (sym (ap (λ (t : TableModel). t.prepared) c.in-Err.ensures.err ∙ none)) (c.release.ensures.only (c.in_ok-hold.ensures.only before));
    }

pub invariant_of-self-in_default : goal.invariant_of-self-in_default
invariant_of-self-in_default c =
    let none : c.self.inside.table.prepared ≡ None = ap (λ (j : JudgeModel). j.prepared) c.self.view_is ∙ c.requires in
    let before = subst (λ (o : Option Op). ReservesOnlyForWrite o c.self.inside.writes) none c.self.invariant.only in
    record {
      apart = search rules;
      shelved = search rules;
      laid = search rules;
      room = search rules;
      only = subst (λ (o : Option Op). ReservesOnlyForWrite o c.hold.new.self) (sym (ap (λ (t : TableModel). t.prepared) c.in_default.ensures.ok)) (c.in_ok-hold.ensures.only before);
    }
