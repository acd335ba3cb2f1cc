-- A register that fails after some elements of a plain trace never holds again.
use Rattle.std.proofs.Common.{◌≡◌, ℕ, true, List, [], ◌∷◌, ◌++◌, refl, sym, ap, ◌∙◌, subst, append-nil, append_assoc}
use Rattle.std.specs.Prelude.{All, Result}
use Rattle.std.proofs.lemmas.List.Elements.{All-tail}
use Rattle.intervals.specs.declared.operation.RegId.{RegId}
use Rattle.intervals.specs.declared.edit.Edit.{Edit as AnEdit}
use Rattle.intervals.specs.Terms.{ClaimModel, unedited}
use Rattle.intervals.specs.Kind.{Holds}
use Rattle.intervals.specs.Refusal.{standing}
use Rattle.jepsen_form.specs.declared.gist.RefusedForm.{RefusedForm}
use Rattle.jepsen_form.specs.declared.item.Item.{Item}
use Rattle.logs.specs.Steps.{StepResult, edits_among, placed, step_after, steps_after, steps_of}
use Rattle.watch.specs.Coming.{ComeInOrder, LeaveReadValues}
use Rattle.watch.specs.Trace.{EditsNothing, IsNoFail, IsPlainTrace}
use Rattle.watch.proofs.Placing.{edit_list, edit_lists, plain_placed, edits_are, among_lists}
use Rattle.watch.proofs.Failing.{fails_again_known, fails_again_unread}
use Rattle.watch.proofs.Unfailed.{leave_all, withdraw_nothing}
use Rattle.watch.proofs.Plain.{plain_in_order, come_rest}

lists_in_order : (claim : ClaimModel) (feeder : ℕ) (register : RegId) (items : List (Result Item RefusedForm)) → IsPlainTrace items → ComeInOrder (unedited claim) (edit_lists register (steps_of feeder items))
lists_in_order claim feeder register items trace =
    subst (ComeInOrder (unedited claim)) (sym (edits_are feeder register items)) (plain_in_order feeder register claim (placed items) (plain_placed items trace))

steps_append : (feeder : ℕ) (before items more : List (Result Item RefusedForm)) → steps_after feeder before (items ++ more) ≡ steps_after feeder before items ++ steps_after feeder (before ++ items) more
steps_append feeder before [] more = ap (λ (b : List (Result Item RefusedForm)). steps_after feeder b more) (sym (append-nil before))
steps_append feeder before (one ∷ items) more =
    ap (λ (rest : List StepResult). step_after feeder before one ∷ rest)
    (steps_append feeder (before ++ one ∷ []) items more
    ∙ ap (λ (b : List (Result Item RefusedForm)). steps_after feeder (before ++ one ∷ []) items ++ steps_after feeder b more) (append_assoc before (one ∷ []) items))

among_append : (register : RegId) (steps more : List StepResult) → edit_lists register (steps ++ more) ≡ edit_lists register steps ++ edit_lists register more
among_append register [] more = refl
among_append register (step ∷ steps) more =
    ap (λ (es : List AnEdit). edit_list register step ++ es) (among_append register steps more)
    ∙ sym (append_assoc (edit_list register step) (edit_lists register steps) (edit_lists register more))

all_later : (items more : List (Result Item RefusedForm)) → All EditsNothing (items ++ more) → All EditsNothing more
all_later [] more all = all
all_later (one ∷ items) more all = all_later items more (All-tail EditsNothing one (items ++ more) all)

module _ (claim : ClaimModel) (feeder : ℕ) (register : RegId) (items more : List (Result Item RefusedForm)) (trace : IsPlainTrace (items ++ more)) where
  abbrev early : List AnEdit
  early = edit_lists register (steps_of feeder items)

  abbrev late : List AnEdit
  late = edit_lists register (steps_after feeder items more)

  all_is : edit_lists register (steps_of feeder (items ++ more)) ≡ early ++ late
  all_is = ap (edit_lists register) (steps_append feeder [] items more) ∙ among_append register (steps_of feeder items) (steps_after feeder items more)

  late_in_order : ComeInOrder (standing (unedited claim) early) late
  late_in_order = come_rest (unedited claim) early late (subst (ComeInOrder (unedited claim)) all_is (lists_in_order claim feeder register (items ++ more) trace))

  abbrev FailsAfter : List AnEdit → Type 0
  FailsAfter es = ¬ Holds (standing (unedited claim) es)

  lists_fail_known : claim.known ≡ true → FailsAfter (edit_lists register (steps_of feeder items)) → FailsAfter (edit_lists register (steps_of feeder (items ++ more)))
  lists_fail_known t fails = subst FailsAfter (sym all_is) (fails_again_known claim early late t late_in_order fails)

  lists_fail_unread : LeaveReadValues (standing (unedited claim) (edit_lists register (steps_of feeder items))) (edit_lists register (steps_after feeder items more))
      → FailsAfter (edit_lists register (steps_of feeder items)) → FailsAfter (edit_lists register (steps_of feeder (items ++ more)))
  lists_fail_unread leave fails = subst FailsAfter (sym all_is) (fails_again_unread claim early late late_in_order leave fails)

  lists_fail_unfailed : All IsNoFail more → FailsAfter (edit_lists register (steps_of feeder items)) → FailsAfter (edit_lists register (steps_of feeder (items ++ more)))
  lists_fail_unfailed n = lists_fail_unread (leave_all (standing (unedited claim) early) late (withdraw_nothing feeder register items more (all_later items more trace.unedited) n))

-- the same of the edits of the register of a number
pub elements_in_order : (claim : ClaimModel) (feeder register : ℕ) (items : List (Result Item RefusedForm)) → IsPlainTrace items → ComeInOrder (unedited claim) (edits_among register (steps_of feeder items))
elements_in_order claim feeder register items trace =
    subst (ComeInOrder (unedited claim)) (sym (among_lists register (steps_of feeder items))) (lists_in_order claim feeder (record { 0 = register }) items trace)

module _ (claim : ClaimModel) (feeder register : ℕ) (items more : List (Result Item RefusedForm)) (trace : IsPlainTrace (items ++ more)) where
  abbrev FailAfter : List StepResult → Type 0
  FailAfter taken = ¬ Holds (standing (unedited claim) (edits_among register taken))

  abbrev Fail : List AnEdit → Type 0
  Fail list = ¬ Holds (standing (unedited claim) list)

  fail_lists : (taken : List StepResult) → FailAfter taken → Fail (edit_lists (record { 0 = register }) taken)
  fail_lists taken h = subst Fail (among_lists register taken) h

  fail_among : (taken : List StepResult) → Fail (edit_lists (record { 0 = register }) taken) → FailAfter taken
  fail_among taken h = subst Fail (sym (among_lists register taken)) h

  pub trace_fails_known : claim.known ≡ true → FailAfter (steps_of feeder items) → FailAfter (steps_of feeder (items ++ more))
  trace_fails_known t h =
      fail_among (steps_of feeder (items ++ more)) (lists_fail_known claim feeder (record { 0 = register }) items more trace t (fail_lists (steps_of feeder items) h))

  pub trace_fails_unfailed : All IsNoFail more → FailAfter (steps_of feeder items) → FailAfter (steps_of feeder (items ++ more))
  trace_fails_unfailed n h =
      fail_among (steps_of feeder (items ++ more)) (lists_fail_unfailed claim feeder (record { 0 = register }) items more trace n (fail_lists (steps_of feeder items) h))

  pub trace_fails_unread : LeaveReadValues (standing (unedited claim) (edits_among register (steps_of feeder items))) (edits_among register (steps_after feeder items more))
      → FailAfter (steps_of feeder items) → FailAfter (steps_of feeder (items ++ more))
  trace_fails_unread leave h =
      fail_among (steps_of feeder (items ++ more))
      (lists_fail_unread claim feeder (record { 0 = register }) items more trace
      (subst (λ (list : List AnEdit). LeaveReadValues (standing (unedited claim) list) (edit_lists (record { 0 = register }) (steps_after feeder items more))) (among_lists register (steps_of feeder items))
      (subst (LeaveReadValues (standing (unedited claim) (edits_among register (steps_of feeder items)))) (among_lists register (steps_after feeder items more)) leave))
      (fail_lists (steps_of feeder items) h))
