use Rattle.std.proofs.Common.{◌∙◌, rules}
use Rattle.std.proofs.lemmas.Iterator.Adapters.{YieldsList-from_rev_slice}
use Rattle.std.proofs.lemmas.Iterator.Search.{find_from_yields_List}
use Rattle.intervals.specs.declared.operation.Op.{Op}
use Rattle.intervals.specs.Operation.{precedes}
use Rattle.register_book.proofs.around.last_before.Goals as goal

pub returns : goal.returns
returns c = c.copied.ensures ∙ find_from_yields_List (λ (write : Op). precedes write c.args.read.now) _ _ c.find.result c.find.ensures.ran (YieldsList-from_rev_slice c.args.writes.now cc) (λ x b q k. search rules)
