use Rattle.std.proofs.Common.{not, sym, ◌∙◌, arith}
use Rattle.edn_reader.proofs.Leading.{none_on, whites_on, run_on}
use Rattle.edn_reader.proofs.plain.plain_end.Goals as goal

pub loop-at-init : goal.loop-at-init
loop-at-init c = record {
  within = c.white_end-at.ensures.within;
  after = omega (arith, c.white_end-at.ensures.end);
  leads = whites_on c.args.input.now c.args.from c.args.from c.white_end-at.result c.args.odd_before c.args.odd_before c.white_end-at.ensures.end (none_on c.args.input.now c.args.from c.args.odd_before);
}

pub loop-at-preserved : goal.loop-at-preserved
loop-at-preserved c =
    let input = c.args.input.now in
    let from = c.args.from in
    let before = c.args.odd_before in
    let odd = c.loop-at.odd in
    record {
      within = c.white_end-at-in-loop-at.ensures.within;
      after = omega (arith, c.loop-at.invariant.after, c.run_end-end.ensures.end, c.white_end-at-in-loop-at.ensures.end);
      leads = whites_on input from c.run_end-end.result c.white_end-at-in-loop-at.result before (not odd) c.white_end-at-in-loop-at.ensures.end
          (run_on input from c.loop-at.at c.run_end-end.result before odd c.loop-at-test.true (sym c.is_plain.ensures ∙ c.if-is_plain.true) c.run_end-end.ensures.end c.run_end-end.ensures.within c.if-end-input.false c.loop-at.invariant.leads);
    }
