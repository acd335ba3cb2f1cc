use Rattle.std.proofs.Common.{◌≢◌, Err, Result, subst, sym}
use Rattle.jepsen_form.specs.declared.gist.RefusedForm.{RefusedForm}
use Rattle.jepsen_form.specs.declared.item.Item.{Item}
use Rattle.pairing.specs.declared.fault.PairFault.TheVariants as pairs
use Rattle.logs.specs.declared.log.Code.TheVariants.{Form}
use Rattle.feeders.specs.Progress.{IsPaired}
use Rattle.feeders.proofs.Going.{paired, unformed}
use Rattle.feeders.proofs.progress.Progress.pair.Goals as goal

pub returns-in-Err-clause-paired : goal.returns-in-Err-clause-paired
returns-in-Err-clause-paired c plan start items pass at =
    let refused = c.in-Err.refused in
    subst (λ (i : Result Item RefusedForm). IsPaired plan start items i (Err (record { code = Form refused.fault; about = c.about.result })) c.args.self.now pass) (sym c.in-Err.is)
    (unformed plan c.args.self.now refused c.about.result c.about.ensures start items pass at)

pub returns-else-wants_memory-clause-paired : goal.returns-else-wants_memory-clause-paired
returns-else-wants_memory-clause-paired c plan start items pass at =
    let other : c.take-step.result ≢ Err pairs.Memory = λ is. let yes = c.wants_memory.ensures.1 is in let no = c.if-wants_memory.false in cc in
    let new = record c.args.self.now { pairing = c.take-step.new.self } in
    subst (λ (i : Result Item RefusedForm). IsPaired plan start items i c.taken_by.result new pass) (sym c.in-Ok.is)
    (paired plan c.args.self.now c.take-step.new.self c.in-Ok.item c.take-step.result c.taken_by.result c.a_refused_item_is_not_accepted.ensures other
    c.take-step.ensures.step c.take-step.ensures.present c.take-step.ensures.feeder c.taken_by.ensures start items pass at)
