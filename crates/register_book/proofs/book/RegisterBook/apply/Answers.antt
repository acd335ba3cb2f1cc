use Rattle.std.proofs.Common.{◌≡◌, ◌↔◌, ◌∙◌, Some, None, IsTrue, sym, subst}
use Rattle.intervals.specs.Terms.{RegisterState}
use Rattle.intervals.specs.Kind.{Holds}
use Rattle.intervals.specs.Refusal.{after_edit, reply_to}
use Rattle.register_book.specs.BookModel.{BookModel, claimed_of}
use Rattle.register_book.proofs.Replied.{carried, left_alone, never_ok, on_any_err}
use Rattle.register_book.proofs.book.RegisterBook.apply.Goals as goal

pub returns-in_err-refusal-clause-after : goal.returns-in_err-refusal-clause-after
returns-in_err-refusal-clause-after c = never_ok c.from_residual.result (claimed_of c.args.self.now ≡ after_edit (claimed_of c.args.self.now) c.args.edit) c.from_residual.ensures.0

pub returns-in_err-refusal-clause-memory : goal.returns-in_err-refusal-clause-memory
returns-in_err-refusal-clause-memory c =
    on_any_err c.from_residual.result (reply_to (claimed_of c.args.self.now) c.args.edit ≡ None)
    (subst (λ (kept : BookModel). reply_to (claimed_of kept) c.args.edit ≡ None) c.self.view_is c.in_err-refusal.ensures.memory)

pub returns-in-Some-clause-reply : goal.returns-in-Some-clause-reply
returns-in-Some-clause-reply c =
    subst (λ (kept : BookModel). reply_to (claimed_of kept) c.args.edit ≡ Some c.in-Some.refusal) c.self.view_is
    (sym c.in_ok-refusal.ensures.refusal ∙ c.in-Some.is)

pub returns-in-Some-clause-after : goal.returns-in-Some-clause-after
returns-in-Some-clause-after c =
    left_alone (claimed_of c.args.self.now) c.args.edit c.in-Some.refusal
    (subst (λ (kept : BookModel). reply_to (claimed_of kept) c.args.edit ≡ Some c.in-Some.refusal) c.self.view_is (sym c.in_ok-refusal.ensures.refusal ∙ c.in-Some.is))

pub returns-in_err-apply_accepted-clause-after : goal.returns-in_err-apply_accepted-clause-after
returns-in_err-apply_accepted-clause-after c =
    never_ok c.from_residual-in_err-apply_accepted.result (claimed_of c.apply_accepted.new.self ≡ after_edit (claimed_of c.args.self.now) c.args.edit) c.from_residual-in_err-apply_accepted.ensures.0

pub returns-in_err-apply_accepted-clause-memory : goal.returns-in_err-apply_accepted-clause-memory
returns-in_err-apply_accepted-clause-memory c =
    on_any_err c.from_residual-in_err-apply_accepted.result (reply_to (claimed_of c.args.self.now) c.args.edit ≡ None)
    (subst (λ (kept : BookModel). reply_to (claimed_of kept) c.args.edit ≡ None) c.self.view_is (sym c.in_ok-refusal.ensures.refusal ∙ c.in_default.is))

pub returns-clause-reply : goal.returns-clause-reply
returns-clause-reply c =
    let before = claimed_of c.args.self.now in
    let accepted : reply_to before c.args.edit ≡ None = subst (λ (kept : BookModel). reply_to (claimed_of kept) c.args.edit ≡ None) c.self.view_is (sym c.in_ok-refusal.ensures.refusal ∙ c.in_default.is) in
    (accepted, subst (λ (held : RegisterState). IsTrue c.holds.result ↔ Holds held) (c.in_ok-apply_accepted.ensures.ok ∙ carried before c.args.edit accepted) c.holds.ensures)

pub returns-clause-after : goal.returns-clause-after
returns-clause-after c =
    let before = claimed_of c.args.self.now in
    let accepted : reply_to before c.args.edit ≡ None = subst (λ (kept : BookModel). reply_to (claimed_of kept) c.args.edit ≡ None) c.self.view_is (sym c.in_ok-refusal.ensures.refusal ∙ c.in_default.is) in
    c.in_ok-apply_accepted.ensures.ok ∙ carried before c.args.edit accepted
