use Rattle.zones.proofs.Ends.{read_begins}
use Rattle.zones.proofs.edges.read_begin.Goals as goal

pub returns-in-Some : goal.returns-in-Some
returns-in-Some c ops is = read_begins ops c.args.value c.in-Some.begin c.in-Some.field-0-1 (c.in-Some.ensures ops is)
