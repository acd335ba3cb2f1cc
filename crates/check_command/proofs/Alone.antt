-- What a run of one trace over the one register says of the trace.
use Rattle.std.proofs.Common.{◌≡◌, ◌↔◌, ◌<◌, ℕ, Bool, List, [], ◌∷◌, map, length, Option, Some, refl, sym, ap, subst, ◌∙◌, IsTrue, All, Any, arith}
use Rattle.std.specs.List.{list_any, slice_get, slice_index_or, AllByRecursion}
use Rattle.std.proofs.lemmas.List.Elements.{All-weaker, recursion_from_All}
use Rattle.intervals.specs.declared.edit.Edit.{Edit}
use Rattle.intervals.specs.Terms.{ClaimModel, RegisterState, unedited}
use Rattle.intervals.specs.Bare.{bare_edit, bare_held}
use Rattle.intervals.specs.Kind.{Holds}
use Rattle.intervals.specs.Refusal.{reply_to, standing}
use Rattle.jepsen_form.specs.declared.item.MomentField.TheVariants.{Index}
use Rattle.tower_file.specs.Alone.{alone_claim, alone_tower}
use Rattle.shards.specs.declared.entry.Entry.{Entry}
use Rattle.shards.specs.Plan.{Plan}
use Rattle.shards.specs.Journal.{IsLegalJournal, edits_of, left_by}
use Rattle.shards.specs.Pass.{PassModel, IsPassOf}
use Rattle.shards.specs.Closing.{ClosedShard, IsClosed, IsSettledJournal, book_of, journal_of}
use Rattle.logs.specs.declared.log.Broken.{Broken}
use Rattle.logs.specs.declared.log.Log.{Log}
use Rattle.logs.specs.Steps.{AreItemsOfTrace, StepResult, edits_among, steps_of}
use Rattle.logs.specs.Doings.{taken_of, lines_from}
use Rattle.feeders.specs.Readers.{AreReadOf, IsReadOf}
use Rattle.logs.specs.Run.{IsTraced, IsRun}
use Rattle.check_command.specs.declared.one_register.Audit.{Audit}
use Rattle.report.specs.Refused.{is_refused_line}
use Rattle.command_parts.specs.Status.{has_refused}
use Rattle.check_command.specs.Verdict.{HasRefused, standing_after}
use Rattle.check_command.specs.Audit.{IsAudit, IsAuditOf}
use Rattle.check_command.proofs.AloneRefusals.{refusals}
use Rattle.check_command.proofs.AloneJournal.{alone_plan, Runs, runs_alone}

joined : (P Q R : Type 0) → P ↔ Q → Q ↔ R → P ↔ R
joined P Q R a b = ((λ p. b.0 (a.0 p)), (λ r. a.1 (b.1 r)))

-- a pass of the only feeder
alone_feeder : (passes : List PassModel) → All (IsPassOf alone_plan) passes → (entry : Entry) → Any (λ pass. pass.feeder ≡ entry.feeder) passes → entry.feeder ≡ 0
alone_feeder passes all entry any =
    let pass : PassModel = any.1 in
    let of_plan : IsPassOf alone_plan (slice_index_or passes any.0 pass) = all any.0 pass any.2 in
    let is : IsPassOf alone_plan pass = subst (IsPassOf alone_plan) any.3 of_plan in
    let few : pass.feeder < 1 = is.2 in
    let same : pass.feeder ≡ entry.feeder = any.4 in
    omega arith

-- all entries are the only feeder's
pub of_one_feeder : (passes : List PassModel) (closed : List ClosedShard) → IsClosed alone_plan passes closed → AllByRecursion (λ entry. entry.feeder ≡ 0) (journal_of closed 0)
of_one_feeder passes closed finished =
    let many : length closed ≡ 1 = finished.many in
    let settled : IsSettledJournal alone_plan passes 0 (journal_of closed 0) = finished.finished 0 (omega arith) in
    recursion_from_All (λ entry. entry.feeder ≡ 0) (journal_of closed 0)
    (All-weaker (λ entry. Any (λ pass. pass.feeder ≡ entry.feeder) passes) (λ entry. entry.feeder ≡ 0) (alone_feeder passes finished.of_plan.each) (journal_of closed 0) settled.merge.of_all)

-- what is said of the register as the run leaves it, and of its log
pub record Says (closed : List ClosedShard) (logs : List Log) (audit : Audit) : Type 0 where
  pub kind : (held : RegisterState) → book_of closed 0 ≡ Some held → audit.kind ≡ held.claim.kind
  pub holds : (held : RegisterState) → book_of closed 0 ≡ Some held → IsTrue audit.holds ↔ Holds held
  pub operations : (held : RegisterState) → book_of closed 0 ≡ Some held → audit.operations ≡ length held.ops
  pub refused : (log : Log) → logs ≡ log ∷ [] → audit.refused ≡ has_refused log
  pub broken : (log : Log) → logs ≡ log ∷ [] → audit.broken ≡ log.broken

module _
    (present : (plan : Plan) (at register : ℕ) (claim : ClaimModel) (journal : List Entry) → IsLegalJournal plan at journal → slice_get plan.claims register ≡ Some claim
    → left_by journal register claim ≡ standing (unedited claim) (edits_of register journal))
    (reply_is : (held : RegisterState) (edit : Edit) → reply_to (bare_held held) (bare_edit edit) ≡ reply_to held edit)
    (stood : (claim : ClaimModel) (edits : List Edit) → bare_held (standing (unedited claim) (map bare_edit edits)) ≡ bare_held (standing (unedited claim) edits))
    (alike : (claim : ClaimModel) (edits others : List Edit) → map bare_edit edits ≡ map bare_edit others
    → let one = standing (unedited claim) edits in let other = standing (unedited claim) others in
    (one.claim ≡ other.claim) × (Holds one ↔ Holds other) × (length one.ops ≡ length other.ops)) where
  present_alone : (journal : List Entry) → IsLegalJournal alone_plan 0 journal → left_by journal 0 alone_claim ≡ standing (unedited alone_claim) (edits_of 0 journal)
  present_alone journal legal = present alone_plan 0 0 alone_claim journal legal refl

  audited_log : (trace : List ℕ) (passes : List PassModel) (closed : List ClosedShard) (log : Log) (audit : Audit) → IsClosed alone_plan passes closed → IsTraced alone_plan alone_tower Index closed 0 trace log
      → Says closed (log ∷ []) audit → IsAuditOf trace audit
  audited_log trace passes closed log audit finished traced says =
      let journal : List Entry = journal_of closed 0 in
      let many : length closed ≡ 1 = finished.many in
      let settled : IsSettledJournal alone_plan passes 0 journal = finished.finished 0 (omega arith) in
      let runs : Runs [] [] journal traced.doings =
      runs_alone present_alone reply_is (stood alone_claim) journal traced.doings settled.of_shard.legal (of_one_feeder passes closed finished) (traced.entries 0 (omega arith)) in
      let steps : map taken_of traced.doings ≡ steps_of 0 traced.items = traced.done.for_steps in
      let held : RegisterState = left_by journal 0 alone_claim in
      let edited : RegisterState = standing (unedited alone_claim) (edits_of 0 journal) in
      let told : RegisterState = standing_after (map taken_of traced.doings) in
      let held_is : held ≡ edited = present_alone journal settled.of_shard.legal in
      let book : book_of closed 0 ≡ Some held = finished.books 0 in
      let same = alike alone_claim (edits_of 0 journal) (edits_among 0 (map taken_of traced.doings)) runs.edits in
      let refused_is : audit.refused ≡ list_any is_refused_line (lines_from 0 traced.doings) = says.refused log refl ∙ ap (list_any is_refused_line) traced.done.noted in (
        traced.items,
        subst (λ (b : Option Broken). AreItemsOfTrace alone_tower Index trace b traced.items) (sym (says.broken log refl)) traced.are,
        record {
          kind_is = subst (λ (taken : List StepResult). audit.kind ≡ (standing_after taken).claim.kind) steps
              (says.kind held book ∙ ap (λ (h : RegisterState). h.claim.kind) held_is ∙ ap (λ (claim : ClaimModel). claim.kind) same.0);
          verdict = subst (λ (taken : List StepResult). IsTrue audit.holds ↔ Holds (standing_after taken)) steps
              (joined (IsTrue audit.holds) (Holds held) (Holds told) (says.holds held book)
              (subst (λ (h : RegisterState). Holds h ↔ Holds told) (sym held_is) same.1));
          count = subst (λ (taken : List StepResult). audit.operations ≡ length (standing_after taken).ops) steps
              (says.operations held book ∙ ap (λ (h : RegisterState). length h.ops) held_is ∙ same.2);
          refusals = subst (λ (taken : List StepResult). IsTrue audit.refused ↔ HasRefused taken) steps
              (subst (λ (b : Bool). IsTrue b ↔ HasRefused (map taken_of traced.doings)) (sym refused_is) (refusals traced.doings runs.replied));
        },
      )

  pub audited : (trace : List ℕ) (closed : List ClosedShard) (logs : List Log) (audit : Audit) → IsRun alone_tower Index 1 (trace ∷ []) closed logs → Says closed logs audit → IsAuditOf trace audit
  audited trace closed [] audit run says = absurd run.traced
  audited trace closed (log ∷ []) audit run says = audited_log trace run.passes closed log audit run.finished run.traced.0 says
  audited trace closed (log ∷ other ∷ more) audit run says = absurd run.traced.1

  pub audited_as_read : (left : Option (List ℕ)) (traces : List (List ℕ)) (closed : List ClosedShard) (logs : List Log) (audit : Audit) → AreReadOf (left ∷ []) logs traces → IsRun alone_tower Index 1 traces closed logs → Says closed logs audit → IsAudit left audit
  audited_as_read left [] closed [] audit read run says = absurd read
  audited_as_read left [] closed (log ∷ logs) audit read run says = absurd read
  audited_as_read left (trace ∷ traces) closed [] audit read run says = absurd read
  audited_as_read left (trace ∷ []) closed (log ∷ []) audit read run says =
      (trace, subst (λ (b : Option Broken). IsReadOf left b trace) (sym (says.broken log refl)) read.0, audited trace closed (log ∷ []) audit run says)
  audited_as_read left (trace ∷ other ∷ more) closed (log ∷ []) audit read run says = absurd read.1
  audited_as_read left (trace ∷ []) closed (log ∷ other ∷ more) audit read run says = absurd read.1
  audited_as_read left (trace ∷ second ∷ traces) closed (log ∷ other ∷ more) audit read run says = absurd read.1
