use Rattle.std.proofs.Common.{◌∙◌, Option, Some, None, cond, sym, ap}
use Rattle.std.specs.Prelude.{is_some}
use Rattle.zone_tree.specs.declared.stretch.Stretch.{Stretch}
use Rattle.zones.specs.AtFirst.{sole_of}
use Rattle.zones.proofs.FirstStretch.{no_writeless_shown, sole_shown}
use Rattle.zones.proofs.stretch.sole_value.Goals as goal

pub returns-in_err-first : goal.returns-in_err-first
returns-in_err-first c claim ops apart stretched =
    c.from_residual.ensures ∙ ap (sole_of claim ops) (sym (no_writeless_shown claim ops apart c.args.stretches.now.stretches stretched (sym c.in_err-first.ensures.first)))

pub returns-in-Some : goal.returns-in-Some
returns-in-Some c claim ops apart stretched =
    let s = c.in_ok-first.first in
    sym (ap (λ (o : Option Stretch). cond (is_some o) None (Some s.value)) (sym c.first_writeless_but.ensures.first ∙ c.in-Some.is))
    ∙ sole_shown claim ops apart c.args.stretches.now.stretches stretched c.in_ok-first.ensures.order s (sym c.in_ok-first.ensures.first)

pub returns-in-None : goal.returns-in-None
returns-in-None c claim ops apart stretched =
    let s = c.in_ok-first.first in
    sym (ap (λ (o : Option Stretch). cond (is_some o) None (Some s.value)) (sym c.first_writeless_but.ensures.first ∙ c.in-None.is))
    ∙ sole_shown claim ops apart c.args.stretches.now.stretches stretched c.in_ok-first.ensures.order s (sym c.in_ok-first.ensures.first)
