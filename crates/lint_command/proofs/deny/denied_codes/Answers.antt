use Rattle.std.proofs.Common.{Some, map, rules, arith}
use Rattle.lint_command.specs.Denied.{AreDenied}
use Rattle.lint_command.proofs.Denying.{ends, goes_on}
use Rattle.lint_command.proofs.deny.denied_codes.Goals as goal

pub loop-word-preserved : goal.loop-word-preserved
loop-word-preserved c =
    let cut = c.in-Some-split_once.ensures.byte (omega arith) (λ w o is. is) in
    let named = c.in_ok-push_code.ensures.named in (
      search rules,
      goes_on c.in-Some.whole.now c.loop-word.rest.now c.in-Some-split_once.word.now c.in-Some-split_once.more.now named.0 _ _ c.loop-word.invariant.1 cut.2 cut.0 cut.1 named.1 named.2,
    )

pub returns-clause-denied : goal.returns-clause-denied
returns-clause-denied c =
    let named = c.in_ok-push_code-2.ensures.named in
    let are : AreDenied (Some c.in-Some.whole.now) (map (λ code. code.now) c.push_code-2.new.denied.items) =
    ends c.in-Some.whole.now c.loop-word.rest.now named.0 _ _ c.loop-word.invariant.1 (c.in_default-split_once.ensures.byte (omega arith) (λ w o is. is)) named.1 named.2 in
    rw c.in-Some.is are
