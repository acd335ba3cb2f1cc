use Rattle.std.proofs.Common.{map, refl}
use Rattle.words.specs.Words.{asked_show, asked_tower}
use Rattle.command_parts.specs.Files.{AreHeld}
use Rattle.show_command.proofs.Endings.{shown}
use Rattle.command_parts.proofs.Readings.{held_later}
use Rattle.command_parts.proofs.Towers.{of_lent_tower}
use Rattle.show_command.proofs.drawing.draw.Goals as goal

pub picture-requires-clause-of_tower : goal.picture-requires-clause-of_tower
picture-requires-clause-of_tower g c =
    let run = c.in-Ok.judged.run in
    c.a_run_is_of_its_tower.ensures c.in_ok-tower.field-0.tower _ _ _ run.closed run.logs.items c.in-Ok.ensures.run.2

pub returns-in-Ok-write_text-clause-shown : goal.returns-in-Ok-write_text-clause-shown
returns-in-Ok-write_text-clause-shown g c =
    let asked = c.args.asked.now in
    let files = g.F.Files.held c.args.files.now in
    let run = c.in-Ok.judged.run in
    let opened = c.in_ok-tower.field-0 in
    of_lent_tower (asked_tower asked.tower) files asked.traces.items c.deref.result.now _ _ c.deref.ensures.value
    (shown (asked_show asked) opened.tower opened.register run.closed run.logs.items (map g.F.Reader.Read.remaining opened.readers.items) (AreHeld files (map (λ name. name.now) asked.traces.items)) _ _ _ _
    c.in_ok-tower.ensures.named
    (λ known held. c.in_ok-tower.ensures.held known (held_later files files asked.traces.items c.deref.result.now known refl c.deref.ensures.value held))
    c.in-Ok.ensures.run
    c.in-Ok-write_text.ensures
    c.in-Ok-status_after.ensures)
    c.in_ok-tower.ensures.tower
