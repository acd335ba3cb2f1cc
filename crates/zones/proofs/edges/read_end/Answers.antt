use Rattle.zones.proofs.Ends.{read_ends}
use Rattle.zones.proofs.edges.read_end.Goals as goal

pub returns-in-Some : goal.returns-in-Some
returns-in-Some c ops is = read_ends ops c.args.value c.in-Some.end c.in-Some.field-0-1 (c.in-Some.ensures ops is)
