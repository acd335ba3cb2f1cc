use Rattle.std.proofs.Common.{◌∙◌, ap}
use Rattle.std.specs.Prelude.{is_some}
use Rattle.zones.proofs.FirstStretch.{is_writeless_shown}
use Rattle.zones.proofs.stretch.has_writeless.Goals as goal

pub returns : goal.returns
returns c claim ops apart stretched =
    c.is_some.ensures ∙ (ap is_some c.first_writeless.ensures.first ∙ is_writeless_shown claim ops apart c.args.stretches.now.stretches stretched c.first_writeless.ensures.order)
