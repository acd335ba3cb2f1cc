use Rattle.register_book.specs.BookModel.{claimed_of}
use Rattle.report.proofs.Orders.{order_is}
use Rattle.report.proofs.order.order_in.Goals as goal

pub returns : goal.returns
returns c = order_is (claimed_of c.args.book.now) c.order.result c.order.ensures.order c.order.ensures.none
