use Rattle.std.proofs.Common.{rules}
use Rattle.std.proofs.lemmas.List.Sorted.{IsNonDecreasingBy-from_sort_by_key}
use Rattle.intervals.specs.declared.operation.Op.{Op}
use Rattle.excerpt.proofs.shown.shown_of.Goals as goal

pub returns : goal.returns
returns c = record {
  found = c.in_ok-shown.shown.items;
  are = c.in_ok-shown.ensures;
  each_once = c.sort_unstable_by_key.ensures.permutation;
  in_order = IsNonDecreasingBy-from_sort_by_key (λ (op : Op). op.begin.0) _ c.sort_unstable_by_key.ensures.sorted (λ a r q k. search rules);
}
