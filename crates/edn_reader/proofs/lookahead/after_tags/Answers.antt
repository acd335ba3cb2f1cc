use Rattle.std.proofs.Common.{sym, ◌∙◌, arith}
use Rattle.edn_reader.proofs.Skipping.{tags_on, tags_met, tags_at_end}
use Rattle.edn_reader.proofs.lookahead.after_tags.Goals as goal

pub loop-front-preserved : goal.loop-front-preserved
loop-front-preserved c =
    let present = c.loop-front.invariant.present in
    record {
      present = c.in-Some.ensures.present.0;
      after = omega (arith, c.loop-front.invariant.after, present.forward, c.in-Some.ensures.present.1);
      left = tags_on c.args.bytes.now c.args.first.at c.in-Some.next.at c.loop-front.front c.loop-front.invariant.left present (sym c.is_tag.ensures ∙ c.loop-front-test.true) c.in-Some.ensures.end c.in-Some.ensures.present.1;
    }

pub returns-in-None-clause-end : goal.returns-in-None-clause-end
returns-in-None-clause-end c =
    let present = c.loop-front.invariant.present in
    tags_at_end c.args.bytes.now c.args.first.at
    (tags_on c.args.bytes.now c.args.first.at _ c.loop-front.front c.loop-front.invariant.left present (sym c.is_tag.ensures ∙ c.loop-front-test.true) c.in-None.ensures.end present.within)

pub returns-clause-end : goal.returns-clause-end
returns-clause-end c =
    tags_met c.args.bytes.now c.args.first.at c.loop-front.front c.loop-front.invariant.left c.loop-front.invariant.present (sym c.is_tag.ensures ∙ c.loop-front-test.false)
