use Rattle.std.proofs.Common.{◌∙◌, sym, ap, Option}
use Rattle.std.specs.Prelude.{is_some}
use Rattle.intervals.specs.declared.operation.Op.{Op}
use Rattle.zones.specs.AtFirst.{with_other}
use Rattle.zones.proofs.FirstStretch.{no_writeless_shown, split_shown}
use Rattle.zones.proofs.stretch.has_split.Goals as goal

pub returns-in-Some : goal.returns-in-Some
returns-in-Some c claim ops apart stretched =
    split_shown claim ops apart c.args.stretches.now.stretches stretched c.first_writeless.ensures.order c.in-Some.first (sym c.first_writeless.ensures.first ∙ c.in-Some.is)
    c.is_some.result (c.is_some.ensures ∙ ap is_some c.first_writeless_but.ensures.first)

pub returns-in-None : goal.returns-in-None
returns-in-None c claim ops apart stretched =
    ap (λ (o : Option Op). is_some (with_other claim ops o)) (sym (no_writeless_shown claim ops apart c.args.stretches.now.stretches stretched (sym c.first_writeless.ensures.first ∙ c.in-None.is)))
