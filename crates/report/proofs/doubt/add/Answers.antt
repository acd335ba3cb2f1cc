use Rattle.std.proofs.Common.{append-nil, sym, true, false, [], ◌∷◌}
use Rattle.report.specs.declared.doubt.Doubt.{Doubt}
use Rattle.report.proofs.Doubts.{added, added_if}
use Rattle.report.proofs.doubt.add.Goals as goal

pub returns-in_ok-push-2-clause-left_out : goal.returns-in_ok-push-2-clause-left_out
returns-in_ok-push-2-clause-left_out c =
    added (λ (doubt : Doubt). doubt.left_out.items) c.args.doubts.now.items c.args.number c.index_mut-doubt.result.now _ _ c.requires.there c.index_mut-doubt.ensures.value c.in_ok-push.ensures.items

pub returns-in_ok-push-2-clause-rests_on : goal.returns-in_ok-push-2-clause-rests_on
returns-in_ok-push-2-clause-rests_on c =
    rw c.if-rests.true
    (added_if (λ (doubt : Doubt). doubt.rests_on.items) c.args.doubts.now.items c.args.number c.index_mut-doubt.result.now _ true _ c.requires.there c.index_mut-doubt.ensures.value c.in_ok-push-2.ensures.items)

pub returns-else-rests-clause-left_out : goal.returns-else-rests-clause-left_out
returns-else-rests-clause-left_out c =
    added (λ (doubt : Doubt). doubt.left_out.items) c.args.doubts.now.items c.args.number c.index_mut-doubt.result.now _ _ c.requires.there c.index_mut-doubt.ensures.value c.in_ok-push.ensures.items

pub returns-else-rests-clause-rests_on : goal.returns-else-rests-clause-rests_on
returns-else-rests-clause-rests_on c =
    rw c.if-rests.false
    (added_if (λ (doubt : Doubt). doubt.rests_on.items) c.args.doubts.now.items c.args.number c.index_mut-doubt.result.now _ false (c.args.at ∷ []) c.requires.there c.index_mut-doubt.ensures.value
    (sym (append-nil c.index_mut-doubt.result.now.rests_on.items)))
