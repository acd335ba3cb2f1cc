-- A tree of reads may cross threads, alone and as a field.
use denote.Param.Send.{IsSend, IsSync, sendable}
use Rattle.std.proofs.Crossing.{crosses}
use Rattle.summary_tree.proofs.Crosses.{tree_send, tree_sync}
use Rattle.read_tree.specs.contracts.item.RowItem as item
use Rattle.read_tree.specs.contracts.summary.ReadSummary as summary
use Rattle.read_tree.specs.contracts.reads.ReadTree.{the_row, the_field}

-- what a node holds beside its sides
item_send : IsSend item.the_row
item_send = search (crosses, sendable) depth 60 fits 20000

summary_send : IsSend summary.the_row
summary_send = search (crosses, sendable) depth 60 fits 20000

item_sync : IsSync item.the_row
item_sync = search (crosses, sendable) depth 60 fits 20000

summary_sync : IsSync summary.the_row
summary_sync = search (crosses, sendable) depth 60 fits 20000

pub field_send : IsSend the_field.row
field_send = search (tree_send, item_send, summary_send, crosses, sendable) depth 60 fits 20000

pub send : IsSend the_row
send = search (tree_send, item_send, summary_send, crosses, sendable) depth 60 fits 20000

pub field_sync : IsSync the_field.row
field_sync = search (tree_sync, item_sync, summary_sync, crosses, sendable) depth 60 fits 20000

pub sync : IsSync the_row
sync = search (tree_sync, item_sync, summary_sync, crosses, sendable) depth 60 fits 20000
