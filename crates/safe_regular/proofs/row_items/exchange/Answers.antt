use Rattle.safe_regular.proofs.Exchanged.{is_exchanged, is_exchanged_there, place_is_new}
use Rattle.safe_regular.proofs.row_items.exchange.Goals as goal

pub put_in-requires-clause-new_spot : goal.put_in-requires-clause-new_spot
put_in-requires-clause-new_spot c = rw c.take_out.ensures.items (place_is_new c.args.spot c.args.item c.args.line.now.items c.requires.apart)

pub returns-then-is_place_of-clause-exchanged : goal.returns-then-is_place_of-clause-exchanged
returns-then-is_place_of-clause-exchanged c =
    rw c.renew_in.ensures.items (is_exchanged_there c.args.spot c.args.item c.args.line.now.items c.requires.taken (c.is_place_of.ensures c.if-is_place_of.true))

pub returns-else-is_place_of-clause-exchanged : goal.returns-else-is_place_of-clause-exchanged
returns-else-is_place_of-clause-exchanged c =
    rw (c.put_in.ensures.items, c.take_out.ensures.items) (is_exchanged c.args.spot c.args.item c.args.line.now.items c.requires.apart)
