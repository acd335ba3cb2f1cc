use Rattle.std.proofs.Common.{◌∙◌, ap}
use Rattle.read_tree.specs.Items.{ReadContents, with_read_item}
use Rattle.read_tree.proofs.reads.ReadTree.insert.Goals as goal

pub returns-clause-items : goal.returns-clause-items
returns-clause-items c = c.insert.ensures.items ∙ ap (λ (t : ReadContents). with_read_item c.args.item t.items) c.self.view_is
