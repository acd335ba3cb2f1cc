use Rattle.std.proofs.Common.{◌∙◌, ◌<◌, length, sym, ap, arith}
use Rattle.std.specs.Prelude.{Vec}
use Rattle.std.specs.declared.alloc.Global.{Global}
use Rattle.intervals.specs.declared.operation.RegId.{RegId}
use Rattle.report.specs.Culprit.{culprits_from}
use Rattle.report.proofs.Blamed.{one_more, one_less}
use Rattle.report.proofs.culprit.culprits_in.Goals as goal
use Rattle.report.proofs.culprit.culprits_in.Goals.{then-is_culprit+in_ok-push, else-is_culprit}

pub loop-number-preserved : goal.loop-number-preserved
loop-number-preserved c =
    let tower = c.args.tower.now in
    let failing = c.args.failing.now in
    let within : c.loop-number.number < length tower.registers = omega (arith, c.loop-number-test.true, c.len-number-end.ensures.length) in
    record {
      within = omega (arith, within);
      culprits = elim c.if-is_culprit.branch [
        | then-is_culprit+in_ok-push w ↦ one_more failing c.loop-number.number tower.registers c.loop-number.culprits.items c.if-is_culprit.culprits.items (culprits_from failing 0 tower.registers) within (sym c.is_culprit.ensures ∙ w.if-is_culprit.true) (ap (λ (ids : Vec RegId Global). ids.items) w.culprits-is ∙ w.in_ok-push.ensures.items) c.loop-number.invariant.culprits
        | else-is_culprit w ↦ one_less failing c.loop-number.number tower.registers c.loop-number.culprits.items c.if-is_culprit.culprits.items (culprits_from failing 0 tower.registers) within (sym c.is_culprit.ensures ∙ w.if-is_culprit.false) (ap (λ (ids : Vec RegId Global). ids.items) w.culprits-is) c.loop-number.invariant.culprits
      ];
    }
