use Rattle.safe_regular.proofs.Rows.{after_place, insert_put, insert_rising, set_put}
use Rattle.safe_regular.proofs.judged.put_row.Goals as goal

pub returns-then-is_end_at-clause-put : goal.returns-then-is_end_at-clause-put
returns-then-is_end_at-clause-put c is =
    let there = rw c.as_slice.ensures.value at (c.is_end_at.ensures.there c.if-is_end_at.true) in
    set_put c.args.rows.now.items c.args.place c.args.row there.0 there.1

pub returns-then-place-first-clause-put : goal.returns-then-place-first-clause-put
returns-then-place-first-clause-put c is = rw c.in-Ok.ensures.items (insert_put c.args.rows.now.items c.args.place c.args.row is.within)

pub returns-then-place-first-clause-rising : goal.returns-then-place-first-clause-rising
returns-then-place-first-clause-rising c up is =
    let rows = c.args.rows.now.items in
    let none = rw c.as_slice.ensures.value at (c.is_end_at.ensures.not c.if-is_end_at.false) in
    rw c.in-Ok.ensures.items (insert_rising rows c.args.place c.args.row is.within up is.before (after_place c.args.row.end.0 rows c.args.place up is (λ d lt. none lt d)))

pub returns-else-place-first-clause-put : goal.returns-else-place-first-clause-put
returns-else-place-first-clause-put c is = rw c.in-Ok.ensures.items (insert_put c.args.rows.now.items c.args.place c.args.row is.within)

pub returns-else-place-first-clause-rising : goal.returns-else-place-first-clause-rising
returns-else-place-first-clause-rising c up is =
    let rows = c.args.rows.now.items in
    let none = rw c.as_slice.ensures.value at (c.is_end_at.ensures.not c.if-is_end_at.false) in
    rw c.in-Ok.ensures.items (insert_rising rows c.args.place c.args.row is.within up is.before (after_place c.args.row.end.0 rows c.args.place up is (λ d lt. none lt d)))
