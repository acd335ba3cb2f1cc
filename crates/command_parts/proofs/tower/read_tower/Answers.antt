use Rattle.std.proofs.lemmas.Result.{IfOk-weaker}
use Rattle.command_parts.proofs.Readings.{said}
use Rattle.command_parts.proofs.tower.read_tower.Goals as goal

pub returns-clause-tower : goal.returns-clause-tower
returns-clause-tower g c =
    IfOk-weaker c.tower_of.result _ _ (λ tower says. said _ c.in_ok-bytes.bytes.items c.deref.result.now tower c.in_ok-bytes.ensures.held c.deref.ensures.value says) c.tower_of.ensures.tower
