use Rattle.std.proofs.Common.{◌∙◌, rules}
use Rattle.std.proofs.lemmas.Iterator.Adapters.{YieldsList-from_rev_slice}
use Rattle.std.proofs.lemmas.Iterator.Search.{find_from_yields_List}
use Rattle.register_book.specs.Around.{is_source}
use Rattle.register_book.proofs.around.source_of.Goals as goal

pub returns : goal.returns
returns c = c.copied.ensures ∙ find_from_yields_List (is_source c.args.read.now) _ _ c.find.result c.find.ensures.ran (YieldsList-from_rev_slice c.args.writes.now cc) (λ x b q k. search rules)
