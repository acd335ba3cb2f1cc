use Rattle.std.proofs.Common.{◌≡◌, None, Result, Ok, Err, OnOk, OnErr, rules, sym, subst}
use Rattle.intervals.specs.declared.edit.Edit.{Edit}
use Rattle.intervals.specs.declared.Memory.{Memory}
use Rattle.intervals.specs.Edit.{edited}
use Rattle.intervals.specs.Refusal.{reply_to}
use Rattle.intervals.specs.Standing.{StandApart}
use Rattle.intervals.proofs.Accepted.{claim_accepted}
use Rattle.intervals.proofs.Standing.{edited_apart}
use Rattle.register_book.specs.declared.judge.Judge.{Judge}
use Rattle.register_book.specs.Judge.{held_by, IsOfItsKind, HasNonePrepared}
use Rattle.register_book.specs.BookModel.{BookModel, claimed_of}
use Rattle.register_book.proofs.book.RegisterBook.apply_accepted.Goals as goal

-- what a judge holds has what the reply rule keeps (`StandApart`) after an edit, whether or not memory was refused
apart_after : (before after : Judge) (edit : Edit) (result : Result (Unit {0}) Memory)
    → OnOk result (held_by after ≡ record (held_by before) { ops = edited (held_by before).ops edit; steps = (held_by after).steps })
    → OnErr result (after ≡ before)
    → reply_to (claimed_of (held_by before)) edit ≡ None
    → StandApart (claimed_of (held_by before)) → StandApart (claimed_of (held_by after))
apart_after before after edit (Ok done) is same accepted apart =
    subst (λ (held : BookModel). StandApart (claimed_of held)) (sym is) (edited_apart (claimed_of (held_by before)) edit apart accepted)
apart_after before after edit (Err memory) is same accepted apart = subst (λ (judge : Judge). StandApart (claimed_of (held_by judge))) (sym same) apart

pub invariant_of-self : goal.invariant_of-self
invariant_of-self c =
    let before = c.self.inside.judge in
    let accepted : reply_to (claimed_of (held_by before)) c.args.edit.now ≡ None =
    subst (λ (kept : BookModel). reply_to (claimed_of kept) c.args.edit.now ≡ None) (sym c.self.view_is) c.requires.accepted in
    let kind : IsOfItsKind c.admit.new.self = search rules in
    let left : HasNonePrepared c.admit.new.self = search rules in
    (kind, left, apart_after before c.admit.new.self c.args.edit.now c.admit.result c.admit.ensures.ok c.admit.ensures.err accepted c.self.invariant.2)

pub change_kind-requires : goal.change_kind-requires
change_kind-requires c =
    claim_accepted c.in-Claim.kind (claimed_of c.args.self.now) (subst (λ (edit : Edit). reply_to (claimed_of c.args.self.now) edit ≡ None) c.in-Claim.is c.requires.accepted)
