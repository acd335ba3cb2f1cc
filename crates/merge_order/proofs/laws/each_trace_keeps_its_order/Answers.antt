use Rattle.std.proofs.Common.{◌<◌, length}
use Rattle.std.proofs.lemmas.List.Elements.{All-from_recursion}
use Rattle.merge_order.proofs.EachList.{each_kept, each_within}
use Rattle.merge_order.proofs.laws.each_trace_keeps_its_order.Goals as goal

pub returns : goal.returns
returns c = record {
  kept = each_kept;
  numbered = λ moment traces order h. All-from_recursion (λ one. one.0 < length traces) order (each_within moment traces order h);
}
