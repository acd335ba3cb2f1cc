use Rattle.std.proofs.Common.{map, refl}
use Rattle.words.specs.Words.{asked_tower, asked_watch}
use Rattle.command_parts.specs.Files.{AreHeld}
use Rattle.watch_command.proofs.Endings.{broke_whole, followed, watched_whole}
use Rattle.command_parts.proofs.Readings.{held_later}
use Rattle.command_parts.proofs.Towers.{of_lent_tower}
use Rattle.watch_command.proofs.watching.follow.Goals as goal

pub returns-in-Err-clause-whole : goal.returns-in-Err-clause-whole
returns-in-Err-clause-whole g c =
    broke_whole (asked_watch c.args.asked.now) (g.F.Files.held c.args.files.now) c.in_ok-tower.field-0.tower c.watch_terms-terms.result c.in-Err.fault c.unfollowed.result (g.W.Write.contents c.args.out.now) (g.W.Write.contents c.watch_readers.new.out)
    (of_lent_tower (asked_tower c.args.asked.now.tower) (g.F.Files.held c.args.files.now) c.args.asked.now.traces.items c.deref.result.now _ _ c.deref.ensures.value (λ file is. is) c.in_ok-tower.ensures.tower)
    c.watch_terms-terms.ensures
    c.unfollowed.ensures.write
    c.in-Err.ensures.whole

pub returns-in_default-clause-whole : goal.returns-in_default-clause-whole
returns-in_default-clause-whole g c = λ other.
    let asked = c.args.asked.now in
    let files = g.F.Files.held c.args.files.now in
    watched_whole (asked_watch asked) files c.in_ok-tower.field-0.tower c.watch_terms-terms.result _ _ _ _ _ _
    (of_lent_tower (asked_tower asked.tower) files asked.traces.items c.deref.result.now _ _ c.deref.ensures.value (λ file is. is) c.in_ok-tower.ensures.tower)
    c.watch_terms-terms.ensures
    c.in-Ok.ensures.watched

pub returns-clause-followed : goal.returns-clause-followed
returns-clause-followed g c =
    let asked = c.args.asked.now in
    let files = g.F.Files.held c.args.files.now in
    let watched = c.in-Ok.watched in
    of_lent_tower (asked_tower asked.tower) files asked.traces.items c.deref.result.now _ _ c.deref.ensures.value
    (followed (asked_watch asked) c.in_ok-tower.field-0.tower watched.run.closed watched.run.logs.items watched.stopped c.watch_terms-terms.result (map g.F.Reader.Read.remaining c.in_ok-tower.field-0.readers.items) (AreHeld files (map (λ name. name.now) asked.traces.items)) _ _ _
    (λ known held. c.in_ok-tower.ensures.held known (held_later files files asked.traces.items c.deref.result.now known refl c.deref.ensures.value held))
    c.watch_terms-terms.ensures
    c.in-Ok.ensures.watched
    c.in-Ok-watch_status.ensures)
    c.in_ok-tower.ensures.tower
