use Rattle.std.proofs.Common.{sym, ◌∙◌}
use Rattle.edn_reader.proofs.Reading.{tag_ended, one_ended, none_ended}
use Rattle.edn_reader.proofs.step.complete.Goals as goal

pub loop-open-preserved : goal.loop-open-preserved
loop-open-preserved c = sym (tag_ended c.loop-open.span c.in-Some.open c.loop-open.nesting c.end_one.new.self c.in-Some.ensures c.in-Tag.is) ∙ c.loop-open.invariant

pub returns-in_default-opener : goal.returns-in_default-opener
returns-in_default-opener c = sym c.loop-open.invariant ∙ one_ended c.loop-open.span c.in-Some.open c.loop-open.nesting c.end_one.new.self c.in-Some.ensures c.in_default-opener.not-Tag

pub returns : goal.returns
returns c = (sym c.loop-open.invariant ∙ none_ended c.loop-open.span c.loop-open.nesting c.end_one.new.self c.in_default.ensures, c.in_default.ensures.1)
