use Rattle.zones.specs.declared.index.IndexKind.TheVariants.{Begins}
use Rattle.zones.proofs.Lookups.{last_found}
use Rattle.zones.proofs.index.Members.last_to_begin.Goals as goal

pub returns : goal.returns
returns c ops is = last_found ops c.args.value c.args.self.now.begins (is Begins) c.last_up_to.result c.last_up_to.ensures
