use Rattle.std.proofs.Common.{sym, ◌∙◌}
use Rattle.tower_file.proofs.Locating.{passed_on, passed_found}
use Rattle.tower_file.proofs.locate.next_under.Goals as goal

pub returns-then-is_keyword : goal.returns-then-is_keyword
returns-then-is_keyword c =
    passed_found c.args.key.now c.args.view.now c.loop-name.view c.next_pair.new.self c.in-Some.name c.in-Some.value
    c.loop-name.invariant c.in-Some.ensures.pair (sym c.is_keyword.ensures ∙ c.if-is_keyword.true)

pub loop-name-preserved : goal.loop-name-preserved
loop-name-preserved c =
    passed_on c.args.key.now c.args.view.now c.loop-name.view c.next_pair.new.self c.in-Some.name c.in-Some.value
    c.loop-name.invariant c.in-Some.ensures.pair (sym c.is_keyword.ensures ∙ c.if-is_keyword.false)
