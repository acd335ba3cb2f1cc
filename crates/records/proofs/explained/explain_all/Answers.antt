use Rattle.std.proofs.Common.{◌≡◌, ◌≤◌, ◌∷◌, [], ℕ, zero, suc, List, Vec, drop, length, map, refl, subst, sym, arith}
use Rattle.std.proofs.lemmas.List.{append-nil}
use Rattle.std.specs.declared.alloc.Global.{Global}
use Rattle.report.specs.declared.finding.Finding.{Finding}
use Rattle.records.specs.declared.allowed.Allowed.{Allowed}
use Rattle.records.specs.Explained.{AreAllowed}
use Rattle.records.proofs.explained.explain_all.Goals as goal

none_left : (n : ℕ) (findings : List Finding) → length findings ≤ n → drop n findings ≡ []
none_left zero [] past = refl
none_left (suc n) [] past = refl
none_left zero (finding ∷ findings) past = absurd (omega (arith, past))
none_left (suc n) (finding ∷ findings) past = none_left n findings (omega (arith, past))

pub returns : goal.returns
returns c =
    let tower = c.args.findings.now.tower.now in
    let closed = c.args.findings.now.run.now.closed in
    let findings = c.args.findings.now.each.now in
    let all = map (λ (allowed : Vec Allowed Global). allowed.items) c.loop-number.all.items in
    let rest : drop c.loop-number.number findings ≡ [] = none_left c.loop-number.number findings (omega (arith, c.loop-number-test.false, c.len-number-end.ensures.length, c.args.findings.now.many)) in
    subst (λ (allowed : List (List Allowed)). AreAllowed tower closed 0 findings allowed) (append-nil all)
    (c.loop-number.invariant.so_far [] (subst (λ (left : List Finding). AreAllowed tower closed c.loop-number.number left []) (sym rest) tt))
