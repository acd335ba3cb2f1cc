-- the order is that of the book, and empty where the book has none
use Rattle.show_command.proofs.Subjects.{an_order, no_order}
use Rattle.show_command.proofs.picture.order_of.Goals as goal

pub returns-in-Some : goal.returns-in-Some
returns-in-Some c = an_order c.args.book.now c.in_ok-order.field-0 c.in-Some.order c.in-Some.is c.in_ok-order.ensures.order c.in_ok-order.ensures.none

pub returns-in-None : goal.returns-in-None
returns-in-None c = rw c.new.ensures.items (no_order c.args.book.now c.in_ok-order.field-0 c.in-None.is c.in_ok-order.ensures.none)
