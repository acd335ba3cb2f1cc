use Rattle.std.proofs.Common.{◌≡◌, None, rules, sym, subst}
use Rattle.intervals.specs.Refusal.{to_kind_refusal}
use Rattle.intervals.specs.Standing.{StandApart}
use Rattle.intervals.specs.Terms.{ClaimModel}
use Rattle.intervals.proofs.Claimed.{claimed_apart}
use Rattle.register_book.specs.Judge.{held_by, IsOfItsKind, HasNonePrepared}
use Rattle.register_book.specs.BookModel.{BookModel, claimed_of}
use Rattle.register_book.proofs.book.RegisterBook.change_kind.Goals as goal

pub invariant_of-self : goal.invariant_of-self
invariant_of-self c =
    let before = held_by c.self.inside.judge in
    let claim : ClaimModel = record before.claim { kind = c.args.kind } in
    let held : claimed_of (held_by c.in_ok-judge.judge) ≡ record { claim = claim; ops = before.ops } = search rules in
    let accepted : to_kind_refusal c.args.kind before.claim before.ops ≡ None = subst (λ (kept : BookModel). to_kind_refusal c.args.kind kept.claim kept.ops ≡ None) (sym c.self.view_is) c.requires in
    let kind : IsOfItsKind c.in_ok-judge.judge = search rules in
    let left : HasNonePrepared c.in_ok-judge.judge = search rules in
    (kind, left, subst StandApart (sym held) (claimed_apart c.args.kind (claimed_of before) c.self.invariant.2 accepted))
