use Rattle.std.proofs.Common.{rules, ◌≡◌, ◌∙◌, arith}
use Rattle.edn_reader.specs.declared.token.Token.TheVariants.{Opens}
use Rattle.edn_reader.specs.declared.token.Opener.TheVariants.{Discard}
use Rattle.edn_reader.proofs.Skipping.{gap_white, gap_whites, gap_discard, gap_met, gap_at_end, present_token, present_end}
use Rattle.edn_reader.proofs.lookahead.after_gap.Goals as goal

pub loop-at-init : goal.loop-at-init
loop-at-init c = record {
  within = c.white_end-at.ensures.within;
  after = omega (arith, c.white_end-at.ensures.end);
  left = gap_whites c.args.bytes.now c.args.from c.white_end-at.result c.white_end-at.ensures.end;
}

pub loop-at-preserved-in-Gap-1 : goal.loop-at-preserved-in-Gap-1
loop-at-preserved-in-Gap-1 c =
    let front = c.front_at-front.result in
    let present = c.front_at-front.ensures.present in
    let at = c.front_at-front.ensures.at in
    record {
      within = present.within;
      after = omega (arith, present.forward, at);
      left = gap_white c.args.bytes.now c.args.from c.loop-at.at front.found.end c.loop-at.invariant.left
          (present_token c.args.bytes.now front c.loop-at.at present at ∙ c.in-Gap.is) (present_end c.args.bytes.now front c.loop-at.at present at);
    }

pub loop-at-preserved : goal.loop-at-preserved
loop-at-preserved c =
    let front = c.front_at-front.result in
    let present = c.front_at-front.ensures.present in
    let at = c.front_at-front.ensures.at in
    let opener : front.found.token ≡ Opens Discard = search rules in
    record {
      within = c.element_end-at.ensures.within;
      after = omega (arith, present.forward, at, c.element_end-at.ensures.after);
      left = gap_discard c.args.bytes.now c.args.from c.loop-at.at front.found.end c.element_end-at.result c.loop-at.invariant.left
          (present_token c.args.bytes.now front c.loop-at.at present at ∙ opener) (present_end c.args.bytes.now front c.loop-at.at present at)
          c.element_end-at.ensures.end c.element_end-at.ensures.after;
    }

pub returns-in_default : goal.returns-in_default
returns-in_default c =
    let front = c.front_at-front.result in
    let present = c.front_at-front.ensures.present in
    let at = c.front_at-front.ensures.at in
    let other : front.found.token ≡ Opens Discard → ⊥ = search rules in
    record {
      end = gap_met c.args.bytes.now c.args.from c.loop-at.at front c.loop-at.invariant.left present at c.in_default.not-Gap other;
      present = (present, omega (arith, at));
    }

pub returns-in_default-2 : goal.returns-in_default-2
returns-in_default-2 c =
    let front = c.front_at-front.result in
    let present = c.front_at-front.ensures.present in
    let at = c.front_at-front.ensures.at in
    let other : front.found.token ≡ Opens Discard → ⊥ = search rules in
    record {
      end = gap_met c.args.bytes.now c.args.from c.loop-at.at front c.loop-at.invariant.left present at c.in_default.not-Gap other;
      present = (present, omega (arith, at));
    }

pub returns-clause-end : goal.returns-clause-end
returns-clause-end c = gap_at_end c.args.bytes.now c.args.from c.loop-at.at c.loop-at.invariant.left c.loop-at.invariant.within (omega arith)
