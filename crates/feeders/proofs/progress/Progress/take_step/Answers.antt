use Rattle.std.proofs.Common.{◌+◌, [], ◌∷◌, ◌++◌, Ok, Err, subst, sym}
use Rattle.feeders.specs.declared.progress.Progress.{Progress}
use Rattle.feeders.specs.Access.{AccessModel}
use Rattle.feeders.specs.Progress.{IsAt, IsPaired}
use Rattle.feeders.proofs.Going.{carried}
use Rattle.feeders.proofs.progress.Progress.take_step.Goals as goal
use Rattle.feeders.proofs.progress.Progress.take_step.Goals.{in-Ok+in_ok-carry_out-in-Ok, in-Err+in_ok-leave_out-in-Err}

pub returns-clause-done : goal.returns-clause-done
returns-clause-done g c start items item paired =
    let plan = g.O.Opening.plan in
    let old = c.args.self.now in
    let pass = c.args.access.now.pass in
    elim c.match-step.branch [
      | in-Ok+in_ok-carry_out-in-Ok w ↦
          subst (λ (p : Progress). IsAt plan start (items ++ item ∷ []) (record p { place = p.place + 1 }) c.match-step.access.pass) (sym w.self-is)
          (subst (λ (a : AccessModel). IsAt plan start (items ++ item ∷ []) (record old { place = old.place + 1; log = w.carry_out.new.log }) a.pass) (sym w.access-is)
          (carried plan old pass w.carry_out.new.access.pass w.carry_out.new.log (Ok w.in-Ok.step) w.in_ok-carry_out-in-Ok.ensures.done start items item
          (subst (λ s. IsPaired plan start items item s old pass) w.in-Ok.is paired)))
      | in-Err+in_ok-leave_out-in-Err w ↦
          subst (λ (p : Progress). IsAt plan start (items ++ item ∷ []) (record p { place = p.place + 1 }) c.match-step.access.pass) (sym w.self-is)
          (subst (λ (a : AccessModel). IsAt plan start (items ++ item ∷ []) (record old { place = old.place + 1; log = w.leave_out.new.log }) a.pass) (sym w.access-is)
          (carried plan old pass pass w.leave_out.new.log (Err w.in-Err.left_out) (w.in_ok-leave_out-in-Err.ensures.done pass) start items item
          (subst (λ s. IsPaired plan start items item s old pass) w.in-Err.is paired)))
    ]
