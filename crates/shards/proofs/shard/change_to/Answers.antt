use Rattle.std.proofs.Common.{refl, rules}
use Rattle.register_book.specs.BookModel.{claimed_of}
use Rattle.shards.proofs.Changed.{none_shown, shown_by}
use Rattle.shards.proofs.shard.change_to.Goals as goal

pub returns-clause-change : goal.returns-clause-change
returns-clause-change c = record {
  number_is = refl;
  register_is = refl;
  differs = search rules;
  kind = c.kind.ensures;
  verdict = c.holds-holds.ensures;
  operations = c.len.ensures;
  fault = shown_by (claimed_of c.args.book.now) c.witness-witness.result c.fault_by.result c.values_by.result c.witness-witness.ensures.witness c.fault_by.ensures c.values_by.ensures;
  none = none_shown c.witness-witness.result c.fault_by.result _ c.fault_by.ensures c.witness-witness.ensures.none;
}
