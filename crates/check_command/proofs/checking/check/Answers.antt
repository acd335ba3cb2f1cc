use Rattle.std.proofs.Common.{Bool, Vec, map, refl, subst, ℕ}
use Rattle.std.specs.declared.alloc.Global.{Global}
use Rattle.words.specs.Words.{asked_check, asked_tower, names_lines}
use Rattle.command_parts.specs.Files.{AreHeld}
use Rattle.command_parts.specs.Kept.{AreKeptIf}
use Rattle.check_command.proofs.Endings.{checked}
use Rattle.command_parts.proofs.Readings.{held_later}
use Rattle.command_parts.proofs.Towers.{of_lent_tower}
use Rattle.check_command.proofs.checking.check.Goals as goal

pub print-requires-clause-of_tower : goal.print-requires-clause-of_tower
print-requires-clause-of_tower g c κs within =
    let run = c.in-Ok.judged.run in
    c.a_run_is_of_its_tower.ensures c.in_ok-tower.field-0.tower _ _ _ run.closed run.logs.items c.in-Ok.ensures.run.2

pub returns-in-Ok-print-clause-checked : goal.returns-in-Ok-print-clause-checked
returns-in-Ok-print-clause-checked g c =
    let asked = c.args.asked.now in
    let files = g.F.Files.held c.args.files.now in
    let run = c.in-Ok.judged.run in
    let opened = c.in_ok-tower.field-0 in
    let kept = map (λ (text : Vec ℕ Global). text.items) c.in-Ok.judged.texts.items in
    of_lent_tower (asked_tower asked.tower) files asked.traces.items c.deref.result.now _ _ c.deref.ensures.value
    (checked (asked_check asked) opened.tower opened.register run.closed run.logs.items (map g.F.Reader.Read.remaining opened.readers.items) (AreHeld files (map (λ name. name.now) asked.traces.items)) kept _ _ _
    c.in_ok-tower.ensures.named
    (λ known held. c.in_ok-tower.ensures.held known (held_later files files asked.traces.items c.deref.result.now known refl c.deref.ensures.value held))
    c.in-Ok.ensures.run
    (subst (λ (keeps : Bool). AreKeptIf keeps (map g.F.Reader.Read.remaining opened.readers.items) run.logs.items kept) c.names_lines.ensures c.in-Ok.ensures.kept)
    c.in-Ok-print.ensures.printed
    c.in-Ok-status_after.ensures)
    c.in_ok-tower.ensures.tower
