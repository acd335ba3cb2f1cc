use Rattle.std.proofs.Common.{refl}
use Rattle.command_parts.proofs.Readings.{held_later}
use Rattle.command_parts.proofs.opening.open_run.Goals as goal

pub returns-clause-held : goal.returns-clause-held
returns-clause-held g c = λ texts held.
    c.in_ok-readers.ensures.held texts (held_later (g.F.Files.held c.args.files.now) (g.F.Files.held c.asked_for.new.files) c.args.traces.now c.args.traces.now texts c.asked_for.ensures.stays refl held)
