use Rattle.std.proofs.Common.{sym, ◌∙◌}
use Rattle.texts.proofs.Parts.{in_next, in_others}
use Rattle.texts.proofs.listed.find_in.Goals as goal

pub returns-in-Some : goal.returns-in-Some
returns-in-Some c = in_next c.args.by_name c.args.parts.now c.loop-part.part-index _ c.args.word.now c.in-Some.entry.now c.loop-part-test.true c.in-Some.ensures ∙ c.loop-part.invariant

pub loop-part-preserved : goal.loop-part-preserved
loop-part-preserved c = sym (in_others c.args.by_name c.args.parts.now c.loop-part.part-index _ c.args.word.now c.loop-part-test.true c.in_default.ensures) ∙ c.loop-part.invariant
