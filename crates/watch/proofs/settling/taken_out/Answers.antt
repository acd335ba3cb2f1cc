use Rattle.std.proofs.Common.{◌≡◌, ◌<◌, ◌∙◌, length, vec_len, ap, sym, arith, rules}
use Rattle.watch.specs.declared.settling.Held.{Held}
use Rattle.watch.proofs.Passing.{same_at, same_register, taken_at}
use Rattle.watch.proofs.settling.taken_out.Goals as goal

pub returns-then-eq-clause-some : goal.returns-then-eq-clause-some
returns-then-eq-clause-some c =
    let items = c.loop-at.held.items in
    let at = c.loop-at.at in
    let many : length c.args.held.now.items ≡ vec_len c.args.held.now = search rules in
    let same : items ≡ c.args.held.now.items = ap (λ h. h.items) c.loop-at.invariant.0 in
    let within : at < length items = rw same (omega (arith, many, c.loop-at-test.true, c.len-at-end.ensures)) in
    let parts = taken_at items at c.remove.result within c.remove.ensures.value in
    let one : c.index.result.now ≡ c.remove.result = c.index.ensures ∙ same_at items at c.index.result.now c.remove.result within ∙ sym c.remove.ensures.value in (
      parts.0,
      parts.1,
      sym same ∙ parts.2,
      c.remove.ensures.items ∙ parts.3,
      sym (ap (λ (x : Held). x.placed.change.register) one) ∙ same_register c.index.result.now.placed.change.register c.args.register (sym c.eq.ensures ∙ c.if-eq.true),
    )
