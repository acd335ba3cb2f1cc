use Rattle.std.proofs.Common.{sym, ◌∙◌}
use Rattle.edn_reader.proofs.Views.{seen_key, seen_other, seen_end}
use Rattle.edn_reader.proofs.Lent.{pairs_there}
use Rattle.edn_reader.proofs.view.MapView.field.Goals as goal

pub loop-name-preserved-then-is_keyword : goal.loop-name-preserved-then-is_keyword
loop-name-preserved-then-is_keyword c =
    seen_key c.args.self.now c.loop-name.view c.next_pair.new.self c.args.key.now c.loop-name.found c.one_more-found.result c.in-Some.name c.in-Some.value
    c.loop-name.invariant c.in-Some.ensures.pair (sym c.is_keyword.ensures ∙ c.if-is_keyword.true) c.one_more-found.ensures.values

pub loop-name-preserved : goal.loop-name-preserved
loop-name-preserved c =
    seen_other c.args.self.now c.loop-name.view c.next_pair.new.self c.args.key.now c.loop-name.found c.in-Some.name c.in-Some.value
    c.loop-name.invariant c.in-Some.ensures.pair (sym c.is_keyword.ensures ∙ c.if-is_keyword.false)

pub returns-clause-values : goal.returns-clause-values
returns-clause-values c =
    seen_end c.args.self.now c.loop-name.view c.next_pair.new.self c.args.key.now c.loop-name.found c.loop-name.invariant c.in_default.ensures.pair

pub returns-clause-left : goal.returns-clause-left
returns-clause-left c = pairs_there c.args.self.now
