use Rattle.intervals.specs.Terms.{terms_of}
use Rattle.safe_regular.proofs.Laying.{laid_next, next_has_room, next_is_new, op_present}
use Rattle.safe_regular.proofs.row_items.lay_one.Goals as goal

pub put_in-requires-clause-room : goal.put_in-requires-clause-room
put_in-requires-clause-room c _ =
    let (places, enough, next) = c.requires.next in
    let (front, rest, all, laid) = next in
    next_has_room (terms_of c.args.claim.now) c.args.table.now.ops c.requires.apart places enough front c.args.op.now rest all c.args.line.now laid

pub put_in-requires-clause-new_spot : goal.put_in-requires-clause-new_spot
put_in-requires-clause-new_spot c =
    let (places, enough, next) = c.requires.next in
    let (front, rest, all, laid) = next in
    let judged = c.requires.judged in
    next_is_new (terms_of c.args.claim.now) c.args.table.now.ops c.requires.apart places enough front c.args.op.now rest all c.args.line.now laid c.item_of-item.result
    (c.item_of-item.ensures judged.shelved judged.ids (op_present (terms_of c.args.claim.now) c.args.table.now.ops c.requires.apart places enough front c.args.op.now rest all c.args.line.now laid))

pub returns : goal.returns
returns c = record {
  laid = λ places front rest enough all laid.
      let judged = c.requires.judged in
      laid_next (terms_of c.args.claim.now) c.args.table.now.ops c.requires.apart places enough front c.args.op.now rest all c.args.line.now laid c.put_in.new.line c.item_of-item.result
      (c.item_of-item.ensures judged.shelved judged.ids (op_present (terms_of c.args.claim.now) c.args.table.now.ops c.requires.apart places enough front c.args.op.now rest all c.args.line.now laid))
      c.put_in.ensures.items c.put_in.ensures.one;
}
