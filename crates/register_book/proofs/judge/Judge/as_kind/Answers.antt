use Rattle.std.proofs.Common.{rules, ◌≡◌, ◌≤◌, ◌+◌, ◌*◌, ◌∙◌, List, [], ◌∷◌, ◌++◌, Some, None, length, ap, subst, sym}
use Rattle.intervals.specs.declared.operation.Op.{Op}
use Rattle.intervals.specs.Standing.{StandApart}
use Rattle.intervals.specs.Table.{ops_in_slots, slot_at}
use Rattle.intervals.specs.Terms.{ClaimModel, RegisterState, state_of}
use Rattle.intervals.proofs.Claimed.{claimed_apart}
use Rattle.register_book.specs.declared.judge.Judge.{Judge}
use Rattle.register_book.specs.Judge.{held_by, IsOfItsKind, HasNonePrepared}
use Rattle.register_book.specs.BookModel.{most_steps, claimed_of}
use Rattle.register_book.proofs.Again.{HeldAgain, accepted_next, held_all, held_on, held_over, steps_on}
use Rattle.register_book.proofs.judge.Judge.as_kind.Goals.{in-Some+in_ok-admit, in_default}
use Rattle.register_book.proofs.judge.Judge.as_kind.Goals as goal

pub loop-slot-init : goal.loop-slot-init
loop-slot-init c = search rules

pub admit-requires-clause-accepted : goal.admit-requires-clause-accepted
admit-requires-clause-accepted c =
    let before = held_by c.args.self.now in
    let claim : ClaimModel = record before.claim { kind = c.args.kind } in
    let slots = c.slots-slot-items.result.now in
    let present : ops_in_slots slots ≡ before.ops = search rules in
    let at : slot_at slots c.loop-slot.slot-index ≡ Some c.in-Some.op = search rules in
    let apart = subst (λ (l : List Op). StandApart (state_of claim l)) (sym present) (claimed_apart c.args.kind (claimed_of before) c.requires.apart c.requires.accepted) in
    accepted_next claim slots c.loop-slot.slot-index c.in-Some.op (held_by c.loop-slot.judge) apart at c.loop-slot.invariant.held

pub admit-requires-clause-none_prepared : goal.admit-requires-clause-none_prepared
admit-requires-clause-none_prepared c = c.loop-slot.invariant.none_prepared

pub loop-slot-preserved : goal.loop-slot-preserved
loop-slot-preserved c =
    let claim : ClaimModel = record (held_by c.args.self.now).claim { kind = c.args.kind } in
    let slots = c.slots-slot-items.result.now in
    let k = c.loop-slot.slot-index in
    let held = c.loop-slot.invariant in
    let present : ops_in_slots slots ≡ (held_by c.args.self.now).ops = search rules in
    elim c.match-slot.branch [
      | in-Some+in_ok-admit w ↦
          let at : slot_at slots k ≡ Some w.in-Some.op = search rules in
          let before = held_by c.loop-slot.judge in
          let after = held_by w.admit.new.self in
          let e : after ≡ record before { ops = before.ops ++ w.in-Some.op ∷ []; steps = after.steps } = search rules in
          let kind : IsOfItsKind w.admit.new.self = search rules in
          let left : HasNonePrepared w.admit.new.self = search rules in
          record {
            held = subst (λ (judge : Judge). HeldAgain claim slots (k + 1) (held_by judge)) (sym w.judge-is) (held_on claim slots k w.in-Some.op before after held.held at e);
            kind = subst IsOfItsKind (sym w.judge-is) kind;
            none_prepared = subst HasNonePrepared (sym w.judge-is) left;
            steps = subst (λ (judge : Judge). (held_by judge).steps ≤ length (held_by judge).ops * most_steps (held_by c.args.self.now).ops) (sym w.judge-is)
                (steps_on claim slots k (held_by c.args.self.now).ops before after w.in-Some.op held.held present e held.steps w.admit.ensures.steps);
          }
      | in_default w ↦
          let at : slot_at slots k ≡ None = search rules in
          record {
            held = subst (λ (judge : Judge). HeldAgain claim slots (k + 1) (held_by judge)) (sym w.judge-is) (held_over claim slots k (held_by c.loop-slot.judge) held.held at);
            kind = subst IsOfItsKind (sym w.judge-is) held.kind;
            none_prepared = subst HasNonePrepared (sym w.judge-is) held.none_prepared;
            steps = subst (λ (judge : Judge). (held_by judge).steps ≤ length (held_by judge).ops * most_steps (held_by c.args.self.now).ops) (sym w.judge-is) held.steps;
          }
    ]

pub returns-clause-held : goal.returns-clause-held
returns-clause-held c =
    let before = held_by c.args.self.now in
    let claim : ClaimModel = record before.claim { kind = c.args.kind } in
    let slots = c.slots-slot-items.result.now in
    let k = c.loop-slot.slot-index in
    let present : ops_in_slots slots ≡ before.ops = search rules in
    let le : length slots ≤ k = search rules in
    held_all claim slots k (held_by c.loop-slot.judge) le c.loop-slot.invariant.held ∙ ap (λ (ops : List Op). record { claim = claim; ops = ops }) present

pub returns-clause-kind : goal.returns-clause-kind
returns-clause-kind c = c.loop-slot.invariant.kind

pub returns-clause-none_prepared : goal.returns-clause-none_prepared
returns-clause-none_prepared c = c.loop-slot.invariant.none_prepared

pub returns-clause-steps : goal.returns-clause-steps
returns-clause-steps c =
    let ops = (held_by c.args.self.now).ops in
    subst (λ (kept : List Op). (held_by c.loop-slot.judge).steps ≤ length kept * most_steps ops) (ap (λ (state : RegisterState). state.ops) (returns-clause-held c)) c.loop-slot.invariant.steps
