use Rattle.edn_reader.proofs.FlatMaps.{value_alone}
use Rattle.edn_reader.proofs.flat.element_between.Goals as goal

pub new-requires-clause-whole : goal.new-requires-clause-whole
new-requires-clause-whole c = ∣ value_alone c.args.bytes.now c.args.base c.args.kind c.args.from c.args.to c.requires.value ∣₁
