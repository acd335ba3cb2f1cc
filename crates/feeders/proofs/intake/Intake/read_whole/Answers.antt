use Rattle.std.proofs.Common.{◌-◌, length, sym, subst, ap, ◌∙◌, arith, length-drop}
use Rattle.edn_reader.specs.Lent.{piece_of}
use Rattle.feeders.specs.declared.pending.Pending.{Pending}
use Rattle.feeders.specs.Pending.{CanSettleAs}
use Rattle.feeders.specs.Setting.{setting_of}
use Rattle.feeders.proofs.Settling.{read_waits}
use Rattle.feeders.proofs.intake.Intake.read_whole.Goals as goal

pub lend-element-requires-clause-fits : goal.lend-element-requires-clause-fits
lend-element-requires-clause-fits g c =
    let old = c.args.self.now in
    let by = subst (λ (p : Pending). CanSettleAs p old) c.in-Whole.is c.requires.can.by in
    let read = by.1 in
    omega (arith, read.starts, read.ends, read.low, read.high, by.2.fits, ap length c.text.ensures, length-drop (c.in-Whole.start - old.kept.from) old.kept.bytes.items)

pub lend-element-requires-clause-element : goal.lend-element-requires-clause-element
lend-element-requires-clause-element g c =
    let by = subst (λ (p : Pending). CanSettleAs p c.args.self.now) c.in-Whole.is c.requires.can.by in
    let last = by.1.element in
    (last.0, last.1, last.2, last.3 ∙ sym c.text.ensures)

pub returns-clause-pending : goal.returns-clause-pending
returns-clause-pending g c plan start items waiting pass pending =
    let old = c.args.self.now in
    read_waits (setting_of plan c.args.site.tower.now c.args.site.field start) items waiting pass old
    (record { splitter = old.splitter; kept = c.restart.new.self; progress = c.read_pending.new.progress; pending = c.in_ok-pending.pending })
    c.in-Whole.start (piece_of c.lend-element.result) c.in-Whole.is c.in_ok-pending.ensures.read
    (λ last keeps. c.lend-element.ensures last keeps.0 (keeps.1 ∙ sym c.text.ensures)) pending
