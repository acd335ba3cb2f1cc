use Rattle.register_book.proofs.around.writes_around.Goals as goal

pub returns : goal.returns
returns c = record {
  sorted = c.in_ok-writes.writes.items;
  each_once = c.in_ok-writes.ensures.once;
  in_order = c.in_ok-writes.ensures.in_order;
  last = rw c.deref.ensures.value at c.last_before.ensures;
  over = rw c.deref-2.ensures.value at c.in_ok-over_of.ensures;
  source = rw c.deref-3.ensures.value at c.source_of.ensures;
  later = rw c.deref-4.ensures.value at c.later_source_of.ensures;
}
