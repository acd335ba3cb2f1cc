use Rattle.std.proofs.Common.{◌≡◌, Option, Some, None, rules, sym, subst}
use Rattle.intervals.specs.declared.operation.Op.{Op}
use Rattle.safe_regular.specs.declared.writes.Writes.{Writes}
use Rattle.safe_regular.specs.Writes.{AreWrites, IsAddedOf}
use Rattle.safe_regular.proofs.Shelves.{same_turned, writes_of_same}
use Rattle.safe_regular.proofs.writes.Writes.exchange.Goals as goal
use Rattle.safe_regular.proofs.writes.Writes.exchange.Goals.{in-Some, in_default}

pub returns-in-Some-new-clause-writes : goal.returns-in-Some-new-clause-writes
returns-in-Some-new-clause-writes c before others after are gone come =
    let new : c.args.new.now ≡ Some c.in-Some-new.op = search rules in
    c.put_in.ensures.writes others after
    (elim c.match-old.branch [
      | in-Some w ↦
          let old : c.args.old.now ≡ Some w.in-Some.op = search rules in
          subst (λ (writes : Writes). AreWrites others writes) (sym w.self-is) (w.take_out.ensures.writes others before are (subst (λ (o : Option Op). IsAddedOf others o before) old gone))
      | in_default w ↦
          let none : c.args.old.now ≡ None = search rules in
          subst (λ (writes : Writes). AreWrites others writes) (sym w.self-is)
          (writes_of_same before others c.args.self.now (same_turned others before (subst (λ (o : Option Op). IsAddedOf others o before) none gone)) are)
    ])
    (subst (λ (o : Option Op). IsAddedOf others o after) new come)

pub returns-in_default-new-clause-writes : goal.returns-in_default-new-clause-writes
returns-in_default-new-clause-writes c before others after are gone come =
    let new : c.args.new.now ≡ None = search rules in
    writes_of_same others after c.match-old.self (subst (λ (o : Option Op). IsAddedOf others o after) new come)
    (elim c.match-old.branch [
      | in-Some w ↦
          let old : c.args.old.now ≡ Some w.in-Some.op = search rules in
          subst (λ (writes : Writes). AreWrites others writes) (sym w.self-is) (w.take_out.ensures.writes others before are (subst (λ (o : Option Op). IsAddedOf others o before) old gone))
      | in_default w ↦
          let none : c.args.old.now ≡ None = search rules in
          subst (λ (writes : Writes). AreWrites others writes) (sym w.self-is)
          (writes_of_same before others c.args.self.now (same_turned others before (subst (λ (o : Option Op). IsAddedOf others o before) none gone)) are)
    ])
