use Rattle.std.proofs.Common.{◌∙◌, sym}
use Rattle.zones.proofs.FirstStretch.{first_read_writeless, no_writeless_shown}
use Rattle.zones.proofs.stretch.first_writeless.Goals as goal

pub returns-in_err-stretch : goal.returns-in_err-stretch
returns-in_err-stretch c claim members apart stretched =
    c.from_residual.ensures ∙ sym (no_writeless_shown claim c.args.table.now.ops apart c.args.stretches.now.stretches stretched (sym c.in_err-stretch.ensures.first))

pub returns : goal.returns
returns c claim members apart stretched =
    first_read_writeless claim c.args.table.now.ops apart c.args.stretches.now.stretches stretched c.in_ok-stretch.ensures.order c.in_ok-stretch.stretch (sym c.in_ok-stretch.ensures.first)
    c.first_read.result (c.first_read.ensures members apart.kept.ids)
