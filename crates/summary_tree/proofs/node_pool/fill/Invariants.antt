use Rattle.std.proofs.Common.{◌≡◌, Box, vec_len, vec_capacity}
use Rattle.std.specs.Prelude.{All}
use Rattle.std.specs.declared.alloc.Global.{Global}
use Rattle.summary_tree.specs.declared.node.Node.{Node}
use Rattle.summary_tree.specs.Node.{IsAlone}
use Rattle.summary_tree.proofs.node_pool.fill.Given as goal

abbrev pub invariant-loop : goal.invariant-loop
invariant-loop g l = record {
  count : vec_len l.spare ≡ l.counter;
  room : vec_capacity l.spare ≡ vec_capacity l.fn.spare;
  alone : All (λ (n : Box (Node g.row.T.Denot g.row.S.Denot) Global). IsAlone n.value) l.spare.items;
}
