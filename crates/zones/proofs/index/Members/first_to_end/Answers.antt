use Rattle.zones.specs.declared.index.IndexKind.TheVariants.{Ends}
use Rattle.zones.proofs.Lookups.{first_found}
use Rattle.zones.proofs.index.Members.first_to_end.Goals as goal

pub returns : goal.returns
returns c ops is = first_found ops c.args.value c.args.self.now.ends (is Ends) c.first_from.result c.first_from.ensures
