use Rattle.intervals.specs.Terms.{terms_of}
use Rattle.safe_regular.proofs.Settled.{laid_after, may_be_changed, new_listed}
use Rattle.safe_regular.proofs.row_items.change.Goals as goal

pub change_item-requires-clause-listed : goal.change_item-requires-clause-listed
change_item-requires-clause-listed c =
    let (ops, change, laid) = c.requires.change in
    new_listed (terms_of c.args.claim.now) ops c.args.table.now.ops c.args.old.now c.args.new.now change

pub change_item-requires-clause-change : goal.change_item-requires-clause-change
change_item-requires-clause-change c =
    let (ops, change, laid) = c.requires.change in
    may_be_changed (terms_of c.args.claim.now) ops c.args.table.now.ops c.args.old.now c.args.new.now change c.args.line.now laid c.requires.room

pub returns-clause-laid : goal.returns-clause-laid
returns-clause-laid c =
    let (ops, change, laid) = c.requires.change in
    let judged = c.requires.judged in
    laid_after (terms_of c.args.claim.now) ops c.args.table.now.ops c.args.old.now c.args.new.now change c.args.line.now laid
    c.cover_before-left.result c.cover_before_new-come.result (c.cover_before-left.ensures judged.shelved judged.ids) (c.cover_before_new-come.ensures judged.shelved judged.ids)
    c.change_item.new.line.items c.renew.new.line.items c.renew-2.new.line.items c.change_item.ensures.changed c.renew.ensures.renewed c.renew.ensures.order c.renew-2.ensures.renewed c.renew-2.ensures.order
