use Rattle.std.proofs.Common.{◌≡◌, ◌<◌, true, false, sym, subst, ◌∙◌, is_err}
use Rattle.std.specs.Option.{ForSome}
use Rattle.pairing.specs.Known.{PairingModel, KnowsItems}
use Rattle.pairing.specs.Registers.{answer_beside}
use Rattle.pairing.proofs.Standing.{after_refused, after_taken, rows_rise}
use Rattle.pairing.proofs.pairing.Pairing.take.Goals as goal

pub returns-then-is_err-clause-present : goal.returns-then-is_err-clause-present
returns-then-is_err-clause-present c fine items after =
    let known_is = sym c.self.view_is in
    let err = sym c.is_err.ensures.value ∙ c.if-is_err.true in
    after_refused _ items c.args.event c.args.item
    (subst (λ (known : PairingModel). ForSome known.last (λ last. last < c.args.event)) known_is c.requires.rises)
    (subst (λ (known : PairingModel). is_err (answer_beside known c.args.event c.args.item) ≡ true) known_is (subst (λ answer. is_err answer ≡ true) c.answer-answer.ensures err))
    (subst (λ (known : PairingModel). KnowsItems known items) known_is after)

pub invariant_of-self-2 : goal.invariant_of-self-2
invariant_of-self-2 c =
    let rises = subst (λ (known : PairingModel). ForSome known.last (λ last. last < c.args.event)) (sym c.self.view_is) c.requires.rises in
    rw c.in_ok-remember.ensures.registers (rows_rise c.self.inside.last _ c.args.event c.args.item rises c.self.invariant)

pub returns-clause-present : goal.returns-clause-present
returns-clause-present c fine items after =
    let known_is = sym c.self.view_is in
    let ok = sym c.is_err.ensures.value ∙ c.if-is_err.false in
    after_taken _ items c.args.event c.args.item
    (subst (λ (known : PairingModel). ForSome known.last (λ last. last < c.args.event)) known_is c.requires.rises)
    (subst (λ (known : PairingModel). is_err (answer_beside known c.args.event c.args.item) ≡ false) known_is (subst (λ answer. is_err answer ≡ false) c.answer-answer.ensures ok))
    _ _ c.in_ok-remember.ensures.unanswered c.in_ok-remember.ensures.registers
    (subst (λ (known : PairingModel). KnowsItems known items) known_is after)
