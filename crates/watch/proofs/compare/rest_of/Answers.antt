use Rattle.std.proofs.Common.{arith, refl, subst, sym, ◌+◌}
use Rattle.std.specs.Prelude.{IsNone}
use Rattle.watch.specs.Watched.{change_in}
use Rattle.watch.proofs.Fronts.{given_next, other_given}
use Rattle.watch.proofs.compare.rest_of.Goals as goal

pub returns-in_err-rest-clause-none : goal.returns-in_err-rest-clause-none
returns-in_err-rest-clause-none c =
    λ none. other_given (change_in c.args.shards c.args.at) c.args.notices.now c.args.own.now c.loop-notice.rest.now c.loop-notice.notice-index _ c.loop-notice-test.true
    c.loop-notice.invariant (c.left_after.ensures.none (subst IsNone (sym c.in_err-rest.was) refl))

pub loop-notice-preserved : goal.loop-notice-preserved
loop-notice-preserved c =
    given_next (change_in c.args.shards c.args.at) c.args.notices.now c.args.own.now c.loop-notice.rest.now c.in_ok-rest.rest.now c.loop-notice.notice-index (c.loop-notice.notice-index + 1) _ c.loop-notice-test.true (omega arith)
    c.loop-notice.invariant c.in_ok-rest.ensures.more
