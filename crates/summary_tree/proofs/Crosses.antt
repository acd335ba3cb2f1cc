-- A tree may cross threads where its items and summaries may; a search through its nodes would run out of steps.
use denote.RattleType.{RattleType}
use denote.Param.Send.{IsSend, IsSync, sendable}
use Rattle.std.proofs.Crossing.{crosses}
use Rattle.summary_tree.specs.declared.keyed.Keyed as keyed
use Rattle.summary_tree.specs.declared.summarizes.Summarizes as summarizes
use Rattle.summary_tree.specs.contracts.node.Node as node
use Rattle.summary_tree.specs.contracts.node.Tree as boxes
use Rattle.summary_tree.specs.contracts.tree.SummaryTree as tree
use Rattle.summary_tree.proofs.node.Tree.TheLaws.TheKnot.{crosses as knot}

module _ (T S : RattleType) (s : summarizes.Ghosts S.Denot T.Denot) where
  boxes_send : IsSend T → IsSend S → IsSend (boxes.the_row T S s)
  boxes_send of_items of_summaries = search (knot, crosses, sendable) depth 60 fits 20000

  boxes_sync : IsSync T → IsSync S → IsSync (boxes.the_row T S s)
  boxes_sync of_items of_summaries = search (knot, crosses, sendable) depth 60 fits 20000

  node_send : IsSend T → IsSend S → IsSend (node.the_row T S s)
  node_send of_items of_summaries = let below = boxes_send of_items of_summaries in search (crosses, sendable) depth 60 fits 20000

  node_sync : IsSync T → IsSync S → IsSync (node.the_row T S s)
  node_sync of_items of_summaries = let below = boxes_sync of_items of_summaries in search (crosses, sendable) depth 60 fits 20000

module _ (T S K : RattleType) (k : keyed.Ghosts T.Denot K.Denot) (s : summarizes.Ghosts S.Denot T.Denot) where
  pub tree_send : IsSend T → IsSend S → IsSend (tree.the_row T S K k s)
  tree_send of_items of_summaries = let nodes = node_send T S s of_items of_summaries in let below = boxes_send T S s of_items of_summaries in search (crosses, sendable) depth 60 fits 20000

  pub tree_sync : IsSync T → IsSync S → IsSync (tree.the_row T S K k s)
  tree_sync of_items of_summaries = let nodes = node_sync T S s of_items of_summaries in let below = boxes_sync T S s of_items of_summaries in search (crosses, sendable) depth 60 fits 20000
