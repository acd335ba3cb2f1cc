use Rattle.edn_reader.proofs.Leading.{leads_nowhere}
use Rattle.edn_reader.proofs.plain.pass_plain.Goals as goal

pub returns-in_default-clause-leads : goal.returns-in_default-clause-leads
returns-in_default-clause-leads c = leads_nowhere c.args.input.now c.args.from c.args.nesting.now
