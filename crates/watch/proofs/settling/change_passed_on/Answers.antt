use Rattle.std.proofs.Common.{ap, refl, ◌∙◌, ◌++◌, ◌∷◌, [], List}
use Rattle.std.proofs.lemmas.List.{map-append}
use Rattle.logs.specs.declared.notice.Notice.{Notice}
use Rattle.watch.specs.Due.{held_notice, held_notices, notice_of}
use Rattle.watch.proofs.Advancing.{holds_and_fails, left_all, left_without, none_new, one_new}
use Rattle.watch.proofs.Passing.{passes_healed, passes_swapped}
use Rattle.watch.proofs.settling.change_passed_on.Goals as goal
use Rattle.watch.proofs.settling.change_passed_on.Goals.{then-change-2-via-then-change-2, then-change-2-via-else-change-2+then-settle-eq0}

pub returns-then-change-clause-passed_on : goal.returns-then-change-clause-passed_on
returns-then-change-clause-passed_on c =
    let parts = c.in-Some.ensures.some in
    passes_healed c.args.settle (held_notices c.args.held.now.items) (held_notices c.taken_out.new.held.items) (held_notices parts.0) (held_notices parts.1) c.in-Some.before c.args.placed
    (ap held_notices parts.2 ∙ map-append held_notice parts.0 (c.in-Some.before ∷ parts.1)) (ap held_notices parts.3 ∙ map-append held_notice parts.0 parts.1) parts.4 c.if-change.true

pub returns-then-change-clause-held : goal.returns-then-change-clause-held
returns-then-change-clause-held c =
    let parts = c.in-Some.ensures.some in
    none_new c.args.progress.now c.args.settle (notice_of c.args.placed) c.args.held.now.items c.taken_out.new.held.items
    (left_without c.args.placed c.args.held.now.items c.taken_out.new.held.items parts.0 parts.1 c.in-Some.before parts.2 parts.3 parts.4)
    (λ some fails. holds_and_fails c.args.placed.change.holds c.if-change.true fails)

pub returns-in_ok-hold-in-Some-clause-passed_on : goal.returns-in_ok-hold-in-Some-clause-passed_on
returns-in_ok-hold-in-Some-clause-passed_on c =
    let parts = c.in-Some.ensures.some in
    rw c.notice.ensures
    (passes_swapped c.args.settle (held_notices c.args.held.now.items) (held_notices c.hold.new.held.items) (held_notices parts.0) (held_notices parts.1) c.in-Some.before c.args.placed
    (ap held_notices parts.2 ∙ map-append held_notice parts.0 (c.in-Some.before ∷ parts.1))
    (c.in_ok-hold-in-Some.ensures.held ∙ ap (λ (l : List Notice). l ++ notice_of c.args.placed ∷ []) (ap held_notices parts.3 ∙ map-append held_notice parts.0 parts.1)) parts.4 c.if-change.false)

pub returns-in_ok-hold-in-Some-clause-held : goal.returns-in_ok-hold-in-Some-clause-held
returns-in_ok-hold-in-Some-clause-held c =
    let parts = c.in-Some.ensures.some in
    let more = c.in_ok-hold-in-Some.ensures.until in
    one_new c.args.progress.now c.args.settle c.args.placed c.args.held.now.items c.taken_out.new.held.items c.hold.new.held.items more.0
    (left_without c.args.placed c.args.held.now.items c.taken_out.new.held.items parts.0 parts.1 c.in-Some.before parts.2 parts.3 parts.4)
    more.1 more.2 more.3

pub returns-in_ok-hold-in-None-clause-held : goal.returns-in_ok-hold-in-None-clause-held
returns-in_ok-hold-in-None-clause-held c =
    let none = c.in-None.ensures.none in
    let more = c.in_ok-hold-in-None.ensures.until in
    one_new c.args.progress.now c.args.settle c.args.placed c.args.held.now.items c.taken_out.new.held.items c.hold-in-None.new.held.items more.0
    (left_all (notice_of c.args.placed) c.args.held.now.items c.taken_out.new.held.items (none refl).0)
    more.1 more.2 more.3

pub returns-then-change-2-clause-held : goal.returns-then-change-2-clause-held
returns-then-change-2-clause-held c =
    none_new c.args.progress.now c.args.settle (notice_of c.args.placed) c.args.held.now.items c.taken_out.new.held.items
    (left_all (notice_of c.args.placed) c.args.held.now.items c.taken_out.new.held.items (c.in-None.ensures.none refl).0)
    (elim c.then-change-2.branch [
      | then-change-2-via-then-change-2 w ↦ λ some fails. holds_and_fails c.args.placed.change.holds w.if-change-2.true fails
      | then-change-2-via-else-change-2+then-settle-eq0 w ↦ λ some fails. some w.if-settle-eq0.true
    ])
