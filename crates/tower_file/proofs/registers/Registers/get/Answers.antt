use Rattle.tower_file.proofs.Names.{found_known}
use Rattle.tower_file.proofs.registers.Registers.get.Goals as goal

pub returns-clause-known : goal.returns-clause-known
returns-clause-known c = found_known (λ entry. (entry.0.now, entry.1.now)) c.self.inside.by_name.entries c.args.id.0 c.get_index.result c.get_index.ensures.entry c.self.invariant.1
