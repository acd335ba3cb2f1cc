use Rattle.std.proofs.Common.{◌≡◌, ◌∙◌, List, Option, Some, None, sym, ap, subst}
use Rattle.std.specs.Prelude.{IfSome}
use Rattle.intervals.specs.declared.operation.Op.{Op}
use Rattle.intervals.specs.Edit.{found_by, new_op, edited, edit_id}
use Rattle.intervals.specs.Refusal.{reply_to}
use Rattle.intervals.specs.Table.{TableModel, prepared_after}
use Rattle.intervals.specs.Target.{IsTargetOf}
use Rattle.intervals.specs.Terms.{terms_of, state_of}
use Rattle.intervals.proofs.Accepted.{edit_accepted}
use Rattle.safe_regular.specs.Held.{JudgeModel, CanJudge}
use Rattle.safe_regular.specs.Writes.{AreWrites, HasPlaceIn, ReservesOnlyForWrite, IsAddedOf}
use Rattle.safe_regular.proofs.Settled.{can_judge, is_change, later_listed, no_more_listed, only_for, room_after, room_for_new}
use Rattle.safe_regular.proofs.judge.SingleWriterJudge.settle.Goals as goal

pub change-requires-clause-new : goal.change-requires-clause-new
change-requires-clause-new c =
    subst (λ (p : Option Op). IfSome c.args.target.now.new (λ op. p ≡ Some op)) (sym c.prepared.ensures)
    (subst (λ (x : JudgeModel). IfSome c.args.target.now.new (λ op. x.prepared ≡ Some op)) (sym c.self.view_is) c.requires.prepared)

pub admit-requires-clause-room : goal.admit-requires-clause-room
admit-requires-clause-room c =
    let prepared : IfSome c.args.target.now.new (λ op. c.self.inside.table.prepared ≡ Some op) = subst (λ (x : JudgeModel). IfSome c.args.target.now.new (λ op. x.prepared ≡ Some op)) (sym c.self.view_is) c.requires.prepared in
    let new_is : c.args.target.now.new ≡ new_op c.self.inside.table.ops c.args.edit.now = subst (λ (x : JudgeModel). c.args.target.now.new ≡ new_op x.ops c.args.edit.now) (sym c.self.view_is) c.requires.target.new in
    subst (λ (new : Option Op). IfSome new (λ op. c.self.inside.table.prepared ≡ Some op)) new_is prepared

pub admit-requires-clause-accepted : goal.admit-requires-clause-accepted
admit-requires-clause-accepted c =
    let claim = terms_of c.self.inside.claim in
    let ops = c.self.inside.table.ops in
    let accepted : reply_to (state_of claim ops) c.args.edit.now ≡ None = subst (λ (x : JudgeModel). reply_to (state_of x.claim x.ops) c.args.edit.now ≡ None) (sym c.self.view_is) c.requires.accepted in
    edit_accepted (state_of claim ops) c.args.edit.now accepted

pub admit-requires-clause-target : goal.admit-requires-clause-target
admit-requires-clause-target c = subst (λ (x : JudgeModel). IsTargetOf x.ops c.args.edit.now c.args.target.now) (sym c.self.view_is) c.requires.target

pub change-requires-2-clause-judged : goal.change-requires-2-clause-judged
change-requires-2-clause-judged c =
    let claim = terms_of c.self.inside.claim in
    let ops = c.self.inside.table.ops in
    let held = c.self.invariant in
    let accepted : reply_to (state_of claim ops) c.args.edit.now ≡ None = subst (λ (x : JudgeModel). reply_to (state_of x.claim x.ops) c.args.edit.now ≡ None) (sym c.self.view_is) c.requires.accepted in
    let new_is : c.args.target.now.new ≡ new_op ops c.args.edit.now = subst (λ (x : JudgeModel). c.args.target.now.new ≡ new_op x.ops c.args.edit.now) (sym c.self.view_is) c.requires.target.new in
    let old_is : c.args.target.now.old ≡ found_by ops (edit_id c.args.edit.now) = subst (λ (x : JudgeModel). c.args.target.now.old ≡ found_by x.ops (edit_id c.args.edit.now)) (sym c.self.view_is) c.requires.target.old in
    let listed : c.admit.new.self.ops ≡ edited ops c.args.edit.now = ap (λ (t : TableModel). t.ops) c.admit.ensures in
    can_judge claim ops c.args.edit.now held.apart accepted c.args.target.now.old c.args.target.now.new old_is new_is c.admit.new.self.ops listed c.self.inside.writes c.change.new.self held.shelved c.change.ensures.writes

pub change-requires-2-clause-change : goal.change-requires-2-clause-change
change-requires-2-clause-change c =
    let claim = terms_of c.self.inside.claim in
    let ops = c.self.inside.table.ops in
    let held = c.self.invariant in
    let accepted : reply_to (state_of claim ops) c.args.edit.now ≡ None = subst (λ (x : JudgeModel). reply_to (state_of x.claim x.ops) c.args.edit.now ≡ None) (sym c.self.view_is) c.requires.accepted in
    let new_is : c.args.target.now.new ≡ new_op ops c.args.edit.now = subst (λ (x : JudgeModel). c.args.target.now.new ≡ new_op x.ops c.args.edit.now) (sym c.self.view_is) c.requires.target.new in
    let old_is : c.args.target.now.old ≡ found_by ops (edit_id c.args.edit.now) = subst (λ (x : JudgeModel). c.args.target.now.old ≡ found_by x.ops (edit_id c.args.edit.now)) (sym c.self.view_is) c.requires.target.old in
    let listed : c.admit.new.self.ops ≡ edited ops c.args.edit.now = ap (λ (t : TableModel). t.ops) c.admit.ensures in
    let prepared : IfSome c.args.target.now.new (λ op. c.self.inside.table.prepared ≡ Some op) = subst (λ (x : JudgeModel). IfSome c.args.target.now.new (λ op. x.prepared ≡ Some op)) (sym c.self.view_is) c.requires.prepared in (
      ops,
      is_change claim ops c.args.edit.now held.apart accepted c.args.target.now.old c.args.target.now.new old_is new_is c.admit.new.self.ops listed,
      held.laid,
      room_for_new c.self.inside.writes ops c.self.inside.reads c.self.inside.table.prepared c.args.target.now.new held.room prepared,
    )

pub invariant_of-self : goal.invariant_of-self
invariant_of-self c =
    let claim = terms_of c.self.inside.claim in
    let ops = c.self.inside.table.ops in
    let held = c.self.invariant in
    let accepted : reply_to (state_of claim ops) c.args.edit.now ≡ None = subst (λ (x : JudgeModel). reply_to (state_of x.claim x.ops) c.args.edit.now ≡ None) (sym c.self.view_is) c.requires.accepted in
    let new_is : c.args.target.now.new ≡ new_op ops c.args.edit.now = subst (λ (x : JudgeModel). c.args.target.now.new ≡ new_op x.ops c.args.edit.now) (sym c.self.view_is) c.requires.target.new in
    let old_is : c.args.target.now.old ≡ found_by ops (edit_id c.args.edit.now) = subst (λ (x : JudgeModel). c.args.target.now.old ≡ found_by x.ops (edit_id c.args.edit.now)) (sym c.self.view_is) c.requires.target.old in
    let listed : c.admit.new.self.ops ≡ edited ops c.args.edit.now = ap (λ (t : TableModel). t.ops) c.admit.ensures in
    let can : CanJudge c.admit.new.self.ops c.change.new.self = can_judge claim ops c.args.edit.now held.apart accepted c.args.target.now.old c.args.target.now.new old_is new_is c.admit.new.self.ops listed c.self.inside.writes c.change.new.self held.shelved c.change.ensures.writes in
    let change = is_change claim ops c.args.edit.now held.apart accepted c.args.target.now.old c.args.target.now.new old_is new_is c.admit.new.self.ops listed in
    record {
      apart = later_listed claim ops c.args.edit.now held.apart accepted c.args.target.now.old c.args.target.now.new old_is new_is c.admit.new.self.ops listed;
      shelved = can.shelved;
      laid = c.change-2.ensures.reads;
      room = room_after c.self.inside.writes c.change.new.self ops c.admit.new.self.ops c.self.inside.reads c.change-2.new.self c.self.inside.table.prepared c.args.target.now.new c.admit.new.self.prepared held.room
          (subst (λ (o : Option Op). HasPlaceIn o c.change.new.self) c.prepared.ensures c.change.ensures.place) (λ none room. c.change-2.ensures.room ops (no_more_listed claim ops c.admit.new.self.ops c.args.target.now.old c.args.target.now.new change none) none room)
          (ap (λ (t : TableModel). t.prepared) c.admit.ensures ∙ ap (λ (o : Option Op). prepared_after o c.self.inside.table.prepared) (sym new_is));
      only = subst (λ (o : Option Op). ReservesOnlyForWrite o c.change.new.self)
          (sym (ap (λ (t : TableModel). t.prepared) c.admit.ensures ∙ ap (λ (o : Option Op). prepared_after o c.self.inside.table.prepared) (sym new_is)))
          (only_for claim ops c.args.edit.now held.apart accepted c.args.target.now.old c.args.target.now.new old_is new_is c.admit.new.self.ops listed c.self.inside.writes c.change.new.self held.shelved c.self.inside.table.prepared held.only
          (subst (λ (p : Option Op). (before others : List Op) → AreWrites before c.self.inside.writes → IsAddedOf others c.args.target.now.old before → ReservesOnlyForWrite p c.self.inside.writes → ReservesOnlyForWrite (prepared_after c.args.target.now.new p) c.change.new.self) c.prepared.ensures c.change.ensures.only));
    }
