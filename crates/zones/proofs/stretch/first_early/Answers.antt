use Rattle.std.proofs.Common.{◌∙◌, sym}
use Rattle.zone_tree.specs.StretchLook.{is_read_early}
use Rattle.zones.proofs.FirstStretch.{first_read_early, no_early_shown, read_shown, write_shown}
use Rattle.zones.proofs.stretch.first_early.Goals as goal

pub returns-in_err-stretch : goal.returns-in_err-stretch
returns-in_err-stretch c claim members recorded apart stretched =
    c.from_residual.ensures ∙ sym (no_early_shown claim c.args.table.now.ops apart c.args.stretches.now.stretches stretched (sym c.in_err-stretch.ensures.first))

pub returns-in_err-read : goal.returns-in_err-read
returns-in_err-read c claim members recorded apart stretched = absurd (
    read_shown claim c.args.table.now.ops apart c.args.stretches.now.stretches stretched c.in_ok-stretch.ensures.order is_read_early c.in_ok-stretch.stretch (sym c.in_ok-stretch.ensures.first)
    (c.in_err-read.ensures members apart.kept.ids))

pub returns-in_err-write : goal.returns-in_err-write
returns-in_err-write c claim members recorded apart stretched = absurd (
    write_shown claim c.args.table.now.ops apart c.args.stretches.now.stretches stretched c.in_ok-stretch.ensures.order c.in_ok-stretch.stretch (sym c.in_ok-stretch.ensures.first)
    (c.in_err-write.ensures recorded apart.kept.ids))

pub returns : goal.returns
returns c claim members recorded apart stretched =
    first_read_early claim c.args.table.now.ops apart c.args.stretches.now.stretches stretched c.in_ok-stretch.ensures.order c.in_ok-stretch.stretch (sym c.in_ok-stretch.ensures.first)
    c.in_ok-read.read (c.in_ok-read.ensures members apart.kept.ids) c.in_ok-write.write (c.in_ok-write.ensures recorded apart.kept.ids)
