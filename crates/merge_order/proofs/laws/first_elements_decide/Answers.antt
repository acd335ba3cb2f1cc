use Rattle.std.proofs.Common.{map}
use Rattle.std.proofs.lemmas.List.Elements.{All-from_recursion, recursion_from_All}
use Rattle.merge_order.specs.Order.{head_of}
use Rattle.merge_order.proofs.Next.{element_is_next, empty_lists, ended_heads, head_is_next}
use Rattle.merge_order.proofs.NextHead.{HasEnded, one_next_head}
use Rattle.merge_order.proofs.laws.first_elements_decide.Goals as goal

pub returns : goal.returns
returns c = record {
  next = head_is_next;
  back = element_is_next;
  none = λ moment traces. (
    λ empty. All-from_recursion HasEnded (map (head_of moment) traces) (ended_heads moment traces empty),
    λ ended. empty_lists moment traces (recursion_from_All HasEnded (map (head_of moment) traces) ended),
  );
  one = one_next_head;
}
