use Rattle.std.proofs.Common.{List, rules, subst}
use Rattle.std.proofs.lemmas.List.Sorted.{IsNonDecreasingBy-from_sort_by_key}
use Rattle.std.specs.Prelude.{IsPermutation}
use Rattle.intervals.specs.declared.operation.Op.{Op}
use Rattle.register_book.proofs.around.writes_by_beginning.Goals as goal

pub returns : goal.returns
returns c = record {
  once = subst (λ (ops : List Op). IsPermutation ops c.sort_unstable_by_key.new.self.items) c.in_ok-writes.ensures c.sort_unstable_by_key.ensures.permutation;
  in_order = IsNonDecreasingBy-from_sort_by_key (λ (op : Op). op.begin.0) _ c.sort_unstable_by_key.ensures.sorted (λ a r q k. search rules);
}
