use Rattle.std.proofs.Common.{subst}
use Rattle.edn_reader.specs.Grammar.{ElementModel}
use Rattle.jepsen_form.specs.Item.{IsItem}
use Rattle.feeders.proofs.pending.hold_last.Goals as goal

pub returns-in-None-clause-read : goal.returns-in-None-clause-read
returns-in-None-clause-read g c last is text =
    c.hold_item-in-None.ensures.read last text
    (subst (λ (piece : ElementModel). IsItem c.args.site.tower.now c.args.site.field piece c.read_item-item.result) (c.lend.ensures last is text) c.read_item-item.ensures.item)
