use Rattle.std.proofs.Common.{◌∙◌, ap}
use Rattle.std.specs.Prelude.{is_some}
use Rattle.zones.proofs.FirstStretch.{is_early_shown}
use Rattle.zones.proofs.stretch.has_early.Goals as goal

pub returns : goal.returns
returns c claim ops apart stretched =
    c.is_some.ensures ∙ (ap is_some c.first_early.ensures.first ∙ is_early_shown claim ops apart c.args.stretches.now.stretches stretched c.first_early.ensures.order)
