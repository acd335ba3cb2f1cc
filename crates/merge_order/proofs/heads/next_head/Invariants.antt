-- the least head so far, with its number
use Rattle.std.proofs.Common.{take}
use Rattle.merge_order.proofs.NextHead.{IsLeast}
use Rattle.merge_order.proofs.heads.next_head.Given as goal

abbrev pub invariant-loop-at : goal.invariant-loop-at
invariant-loop-at l = IsLeast (take l.at l.heads) l.next l.least
