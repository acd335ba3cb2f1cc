use Rattle.std.proofs.Common.{arith, refl, subst, sym, ◌+◌}
use Rattle.std.specs.Prelude.{IsNone}
use Rattle.watch.specs.Left.{notes_left}
use Rattle.watch.specs.Noted.{note_of, notes_of_log}
use Rattle.watch.proofs.Fronts.{given_next, other_given}
use Rattle.watch.proofs.noted.rest_of.Goals as goal

pub returns-in_err-left-clause-none : goal.returns-in_err-left-clause-none
returns-in_err-left-clause-none c =
    λ none. other_given (note_of c.args.at) c.args.notices.now (notes_of_log c.args.log.now) (notes_left c.loop-notice.left) c.loop-notice.notice-index _ c.loop-notice-test.true
    c.loop-notice.invariant (c.left_after.ensures.none (subst IsNone (sym c.in_err-left.was) refl))

pub loop-notice-preserved : goal.loop-notice-preserved
loop-notice-preserved c =
    given_next (note_of c.args.at) c.args.notices.now (notes_of_log c.args.log.now) (notes_left c.loop-notice.left) (notes_left c.in_ok-left.left) c.loop-notice.notice-index (c.loop-notice.notice-index + 1) _ c.loop-notice-test.true (omega arith)
    c.loop-notice.invariant c.in_ok-left.ensures.more
