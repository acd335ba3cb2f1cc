-- Without a `:fail` nothing is withdrawn, so the values that reads returned are left.
use Rattle.std.proofs.Common.{◌≢◌, ◌==◌, ℕ, Bool, true, false, List, [], ◌∷◌, ◌++◌, length, Option, Some, None, Ok, Err, refl, subst, sym}
use Rattle.std.specs.Prelude.{All, Result, if◌then◌else◌}
use Rattle.std.specs.List.{AllByRecursion}
use Rattle.std.proofs.lemmas.List.Elements.{All-head, All-tail}
use Rattle.intervals.specs.declared.operation.Moment.{Moment}
use Rattle.intervals.specs.declared.operation.Op.{Op}
use Rattle.intervals.specs.declared.operation.RegId.{RegId}
use Rattle.intervals.specs.declared.edit.Edit.{Edit as AnEdit}
use Rattle.intervals.specs.declared.edit.Edit.TheVariants as edits
use Rattle.intervals.specs.Refusal.{after_edit}
use Rattle.intervals.specs.Terms.{RegisterState}
use Rattle.jepsen_form.specs.declared.gist.RefusedForm.{RefusedForm}
use Rattle.jepsen_form.specs.declared.item.Event.{Event as AnEvent}
use Rattle.jepsen_form.specs.declared.item.Item.{Item}
use Rattle.jepsen_form.specs.declared.item.Item.TheVariants.{Event, Amend, Withdraw, Claim, Ask, Skipped}
use Rattle.jepsen_form.specs.declared.item.Stage.{Stage}
use Rattle.jepsen_form.specs.declared.item.Stage.TheVariants as stages
use Rattle.pairing.specs.declared.fault.PairFault.{PairFault}
use Rattle.pairing.specs.declared.invocation.Invocation.{Invocation}
use Rattle.pairing.specs.declared.step.Step.{Step}
use Rattle.pairing.specs.declared.step.Step.TheVariants as steps
use Rattle.pairing.specs.About.{gist_of_item}
use Rattle.pairing.specs.Accepted.{unanswered_of, event_fault, accepted}
use Rattle.pairing.specs.Step.{invoke_step, ok_step, event_step, step_of, unless}
use Rattle.logs.specs.Steps.{about_after, placed, step_after, steps_after}
use Rattle.watch.specs.Coming.{LeavesReadValues, LeaveReadValues}
use Rattle.watch.specs.Trace.{EditsNothing, IsNoFail}
use Rattle.watch.proofs.Placing.{edit_answered, edit_list, edit_lists, list_answered}

abbrev pub WithdrawsNothing : AnEdit → Type 0
WithdrawsNothing (edits.Append op) = Unit {0}
WithdrawsNothing (edits.Amend id change) = Unit {0}
WithdrawsNothing (edits.Withdraw id) = ⊥
WithdrawsNothing (edits.Claim kind) = Unit {0}

leaves : (ops : List Op) (edit : AnEdit) → WithdrawsNothing edit → LeavesReadValues ops edit
leaves ops (edits.Append op) w = tt
leaves ops (edits.Amend id change) w = tt
leaves ops (edits.Withdraw id) w = absurd w
leaves ops (edits.Claim kind) w = tt

pub leave_all : (held : RegisterState) (list : List AnEdit) → AllByRecursion WithdrawsNothing list → LeaveReadValues held list
leave_all held [] all = tt
leave_all held (edit ∷ list) all = ((λ accepted. leaves held.ops edit all.0), leave_all (after_edit held edit) list all.1)

both : (xs ys : List AnEdit) → AllByRecursion WithdrawsNothing xs → AllByRecursion WithdrawsNothing ys → AllByRecursion WithdrawsNothing (xs ++ ys)
both [] ys h k = k
both (x ∷ xs) ys h k = (h.0, both xs ys h.1 k)

abbrev StepWithdrawsNothing : Option Step → Type 0
StepWithdrawsNothing None = Unit {0}
StepWithdrawsNothing (Some (steps.Edit on edit)) = WithdrawsNothing edit
StepWithdrawsNothing (Some (steps.Ask on)) = Unit {0}

module _ (feeder : ℕ) (register : RegId) where
  on_step : (fault : Option PairFault) (step : Option Step) → StepWithdrawsNothing step → AllByRecursion WithdrawsNothing (edit_answered register (unless fault step))
  on_step (Some fault) step w = tt
  on_step None None w = tt
  on_step None (Some (steps.Ask on)) w = tt
  on_step None (Some (steps.Edit on edit)) w = by_test (on.0 == register.0)
    where
      by_test : (t : Bool) → AllByRecursion WithdrawsNothing (if t then edit ∷ [] else [])
      by_test true = (w, tt)
      by_test false = tt

  invokes : (place : ℕ) (event : AnEvent) (on : Option RegId) (moment : Option Moment) → StepWithdrawsNothing (invoke_step feeder place event on moment)
  invokes place event None moment = tt
  invokes place event (Some on) None = tt
  invokes place event (Some on) (Some m) = tt

  ends : (said : Invocation) (event : AnEvent) (moment : Option Moment) → StepWithdrawsNothing (ok_step feeder said event moment)
  ends said event None = tt
  ends said event (Some m) = tt

  event_withdraws_nothing : (u : Option Invocation) (place : ℕ) (event : AnEvent) (stage : Stage) → stage ≢ stages.Fail → StepWithdrawsNothing (event_step feeder u place event stage)
  event_withdraws_nothing u place event stages.Invoke n = invokes place event event.register event.moment
  event_withdraws_nothing None place event stages.Ok n = tt
  event_withdraws_nothing (Some said) place event stages.Ok n = ends said event event.moment
  event_withdraws_nothing u place event stages.Fail n = absurd (n refl)
  event_withdraws_nothing u place event stages.Info n = tt

  one_element : (before : List (Result Item RefusedForm)) (one : Result Item RefusedForm) → EditsNothing one → IsNoFail one → AllByRecursion WithdrawsNothing (edit_list register (step_after feeder before one))
  one_element before (Err fault) plain n = tt
  one_element before (Ok (Event event)) plain n =
      let u : Option Invocation = unanswered_of (accepted (placed before)) event.process in
      let answer = step_of feeder (accepted (placed before)) (length before) (Event event) in
      subst (AllByRecursion WithdrawsNothing) (sym (list_answered register (about_after feeder before (gist_of_item (Event event))) answer))
      (on_step (event_fault u event event.answer) (event_step feeder u (length before) event event.answer) (event_withdraws_nothing u (length before) event event.answer n))
  one_element before (Ok (Amend of change)) plain n = absurd plain
  one_element before (Ok (Withdraw of)) plain n = absurd plain
  one_element before (Ok (Claim on kind)) plain n = absurd plain
  one_element before (Ok (Ask on)) plain n = tt
  one_element before (Ok Skipped) plain n = tt

  pub withdraw_nothing : (before items : List (Result Item RefusedForm)) → All EditsNothing items → All IsNoFail items → AllByRecursion WithdrawsNothing (edit_lists register (steps_after feeder before items))
  withdraw_nothing before [] plain n = tt
  withdraw_nothing before (one ∷ items) plain n =
      both (edit_list register (step_after feeder before one)) (edit_lists register (steps_after feeder (before ++ one ∷ []) items))
      (one_element before one (All-head EditsNothing one items plain) (All-head IsNoFail one items n))
      (withdraw_nothing (before ++ one ∷ []) items (All-tail EditsNothing one items plain) (All-tail IsNoFail one items n))
