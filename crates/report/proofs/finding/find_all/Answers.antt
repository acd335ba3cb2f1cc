use Rattle.std.proofs.Common.{◌∷◌, [], length, ap, arith}
use Rattle.std.proofs.lemmas.List.{length-append}
use Rattle.report.proofs.Found.{found_more}
use Rattle.report.proofs.finding.find_all.Goals as goal

pub loop-number-preserved : goal.loop-number-preserved
loop-number-preserved c =
    let old = c.loop-number.findings.items in
    let finding = c.finding_of.result in
    record {
      within = omega (arith, c.loop-number-test.true, c.len-number-end.ensures.length);
      many = omega (arith, c.loop-number.invariant.many, length-append old (finding ∷ []), ap length c.in_ok-push.ensures.items);
      found = found_more c.args.closed.now c.loop-number.number finding old c.push.new.self.items c.finding_of.ensures c.in_ok-push.ensures.items c.loop-number.invariant.many c.loop-number.invariant.found;
    }
