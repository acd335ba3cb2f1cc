-- Each text of an operation that stands after a run is an element of its feeder's trace.
use Rattle.std.proofs.Common.{◌≡◌, ◌≢◌, ℕ, zero, suc, ◌<◌, ◌%◌, ◌/◌, List, [], ◌∷◌, length, get_or, Option, Some, None, IfSome, All, refl, sym, ap, subst, ◌∙◌, arith}
use Rattle.std.specs.Prelude.{option_map, unwrap_or}
use Rattle.std.specs.Borrow.{Bor}
use Rattle.std.specs.List.{slice_get}
use Rattle.std.proofs.lemmas.List.Elements.{All-contains}
use Rattle.std.proofs.lemmas.Option.{slice_get-get_or, slice_get_within, get_or_from_slice_get}
use Rattle.intervals.specs.declared.operation.Op.{Op}
use Rattle.intervals.specs.declared.operation.OpId.{OpId}
use Rattle.intervals.specs.declared.edit.Edit.{Edit}
use Rattle.intervals.specs.declared.edit.Edit.TheVariants as edits
use Rattle.intervals.specs.declared.edit.Lent.{Lent}
use Rattle.intervals.specs.declared.edit.Lent.TheVariants as lents
use Rattle.intervals.specs.Edit.{edit_id}
use Rattle.intervals.specs.Terms.{ClaimModel, RegisterState}
use Rattle.tower_file.specs.Contents.{TowerModel}
use Rattle.jepsen_form.specs.declared.item.Item.{Item}
use Rattle.jepsen_form.specs.declared.item.MomentField.{MomentField}
use Rattle.shards.specs.declared.entry.Entry.{Entry}
use Rattle.shards.specs.Pass.{PassModel, IsPassOf}
use Rattle.shards.specs.Journal.{standing_of, left_by}
use Rattle.shards.specs.Closing.{ClosedShard, journal_of, book_of}
use Rattle.logs.specs.declared.log.Log.{Log}
use Rattle.logs.specs.Run.{IsTraced, IsRun, plan_of_run}
use Rattle.feeders.specs.Texts.{TextKind, invocation, answer, amendment, text_of, text_in, settled, IsLastSettled, brought, TraceReading, IsPlaced, IsOfStep, IsLentAt, IsLentBehind, IsLentByTrace}
use Rattle.feeders.proofs.TextsLists.{get_after, numbered_get}
use Rattle.feeders.proofs.TextsEntries.{of_entry}
use Rattle.feeders.proofs.TextsStanding.{last_settled}

-- what a shard has at a place is there only where there is such a shard
within_closed : {X : Type 0} (f : ClosedShard → List X) (closed : List ClosedShard) (at n : ℕ) (x : X) → slice_get (unwrap_or (option_map f (slice_get closed at)) []) n ≡ Some x → at < length closed
within_closed f [] at n x e = absurd (cc)
within_closed f (shard ∷ closed) zero n x e = omega arith
within_closed f (shard ∷ closed) (suc at) n x e = omega (arith, within_closed f closed at n x e)

none_of_lent : (lent : Lent) → text_in invocation lent ≡ None
none_of_lent (lents.Answer text) = refl
none_of_lent (lents.Amendment text) = refl

-- the edit that brings an invocation is an append, at the place of its operation
invoked_at : (edit : Edit) (id : OpId) (place : ℕ) (text : Bor (List ℕ)) → edit_id edit ≡ Some id → IsPlaced place edit → settled invocation edit ≡ Some (Some text) → place ≡ id.event
invoked_at (edits.Append op) id place text same placed settles = let one : op.id ≡ id = cc in sym placed ∙ ap (λ (i : OpId). i.event) one
invoked_at (edits.Amend other change) id place text same placed settles =
    let none = ap (λ (t : Option (Bor (List ℕ))). option_map (λ (x : Bor (List ℕ)). Some x) t) (none_of_lent change.lent) in absurd (cc)
invoked_at (edits.Withdraw other) id place text same placed settles = absurd (cc)
invoked_at (edits.Claim kind) id place text same placed settles = absurd (cc)

-- the edit that brings another text is at a place after the operation's
following : (edit : Edit) (id : OpId) (place : ℕ) (item : Item) (part : TextKind) → part ≢ invocation → edit_id edit ≡ Some id → IsPlaced place edit → brought item ≡ Some part
    → ((text : Bor (List ℕ)) → settled invocation edit ≡ Some (Some text) → brought item ≡ Some invocation) → id.event < place
following (edits.Append op) id place item part other same placed brings texts =
    let invokes = texts op.parts.invocation refl in absurd (other (cc))
following (edits.Amend one change) id place item part other same placed brings texts = let alike : one ≡ id = cc in subst (λ (i : OpId). i.event < place) alike placed
following (edits.Withdraw one) id place item part other same placed brings texts = let alike : one ≡ id = cc in subst (λ (i : OpId). i.event < place) alike placed
following (edits.Claim kind) id place item part other same placed brings texts = absurd (cc)

answer_is_other : answer ≢ invocation
answer_is_other e = absurd (cc)

amendment_is_other : amendment ≢ invocation
amendment_is_other e = absurd (cc)

module _ (tower : TowerModel) (chosen : MomentField) (shards : ℕ) (traces : List (List ℕ)) (closed : List ClosedShard) (logs : List Log) (run : IsRun tower chosen shards traces closed logs) where
  -- what the trace of a feeder comes to
  record Trace (feeder : ℕ) : Type 0 where
    trace : List ℕ
    log : Log
    trace_is : slice_get traces feeder ≡ Some trace
    log_is : slice_get logs feeder ≡ Some log
    traced : IsTraced (plan_of_run tower shards traces) tower chosen closed feeder trace log

  trace_of : (feeder : ℕ) → feeder < length traces → Trace feeder
  trace_of feeder lt =
      let is = slice_get-get_or traces feeder [] lt in
      let found = numbered_get (IsTraced (plan_of_run tower shards traces) tower chosen closed) 0 feeder traces logs feeder (get_or traces feeder []) (omega arith) run.traced is in
      record { trace = get_or traces feeder []; log = found.0; trace_is = is; log_is = found.1; traced = found.2 }

  abbrev reading_of : (feeder : ℕ) → Trace feeder → TraceReading tower chosen traces logs feeder
  reading_of feeder of = record { trace = of.trace; log = of.log; items = of.traced.items; trace_is = of.trace_is; log_is = of.log_is; are = of.traced.are }

  module _ (at n : ℕ) (entry : Entry) (there : slice_get (journal_of closed at) n ≡ Some entry) where
    here : at < length closed
    here = within_closed (λ shard. shard.journal) closed at n entry there

    feeder_within : entry.feeder < length traces
    feeder_within =
        let journal = journal_of closed at in
        let lt : n < length journal = slice_get_within journal n entry there in
        let owned = (run.finished.finished at here).merge.of_all n entry lt in
        let pass : PassModel = owned.1 in
        let of_plan : IsPassOf (plan_of_run tower shards traces) pass = All-contains (IsPassOf (plan_of_run tower shards traces)) run.passes pass run.finished.of_plan.each (owned.0, owned.2, owned.3) in
        let is : pass.feeder ≡ entry.feeder = owned.4 ∙ ap (λ (e : Entry). e.feeder) (get_or_from_slice_get journal n entry entry there) in
        subst (λ (f : ℕ). f < length traces) is of_plan.2

    of_step_in : (feeder : ℕ) (of : Trace feeder) → entry.feeder ≡ feeder → (place : ℕ) × IsOfStep feeder of.trace of.traced.are.pieces of.traced.items entry place
    of_step_in feeder of own =
        of_entry (plan_of_run tower shards traces) tower chosen closed feeder of.trace of.log of.traced at n entry (subst (λ (m : ℕ). at < m) run.finished.many here) there own

    pub of_step : (reading : TraceReading tower chosen traces logs entry.feeder) × (place : ℕ) × IsOfStep entry.feeder reading.trace reading.are.pieces reading.items entry place
    of_step =
        let of = trace_of entry.feeder feeder_within in
        let found = of_step_in entry.feeder of refl in
        (reading_of entry.feeder of, found.0, found.1)

    own_feeder : (id : OpId) → edit_id entry.edit ≡ Some id → entry.feeder ≡ id.feeder
    own_feeder id of_id = sym (subst (λ (found : Option OpId). IfSome found (λ one. one.feeder ≡ entry.feeder)) of_id of_step.2.own)

  module _ (register at : ℕ) (op : Op) where
    -- the entry that settles a text of the operation is of its feeder
    feeder_of : (part : TextKind) (text : Option (Bor (List ℕ))) → (last : IsLastSettled register (journal_of closed at) op.id part text) → slice_get (journal_of closed at) (length last.before) ≡ Some last.entry
    feeder_of part text last = ap (λ (all : List Entry). slice_get all (length last.before)) last.journal_is ∙ get_after last.before last.entry last.after

    is_its_feeder : (part : TextKind) (text : Option (Bor (List ℕ))) → (last : IsLastSettled register (journal_of closed at) op.id part text) → last.entry.feeder ≡ op.id.feeder
    is_its_feeder part text last = own_feeder at (length last.before) last.entry (feeder_of part text last) op.id last.of_it.of_id

    module _ (of : Trace op.id.feeder) where
      element_at : (part : TextKind) (text : Bor (List ℕ)) → IsLastSettled register (journal_of closed at) op.id part (Some text)
          → (place : ℕ) × IsLentAt of.trace of.traced.are.pieces of.traced.items register (journal_of closed at) op.id part place text
      element_at part text last =
          let found = of_step_in at (length last.before) last.entry (feeder_of part (Some text) last) op.id.feeder of (is_its_feeder part (Some text) last) in
          let brings = found.1.texts part text last.settles in
          (found.0, record { last = last; of_step = found.1; brings = brings.0; text_is = brings.1 })

      invoked : (text : Bor (List ℕ)) → IsLastSettled register (journal_of closed at) op.id invocation (Some text)
          → IsLentAt of.trace of.traced.are.pieces of.traced.items register (journal_of closed at) op.id invocation op.id.event text
      invoked text last =
          let found = element_at invocation text last in
          let is = found.1 in
          subst (λ (place : ℕ). IsLentAt of.trace of.traced.are.pieces of.traced.items register (journal_of closed at) op.id invocation place text)
          (invoked_at is.last.entry.edit op.id found.0 text is.last.of_it.of_id is.of_step.placed is.last.settles) is

      later : (part : TextKind) → part ≢ invocation → (text : Option (Bor (List ℕ))) → IsLastSettled register (journal_of closed at) op.id part text
          → IfSome text (IsLentBehind of.trace of.traced.are.pieces of.traced.items register (journal_of closed at) op.id part)
      later part other None last = tt
      later part other (Some text) last =
          let found = element_at part text last in
          let is = found.1 in
          (found.0, following is.last.entry.edit op.id found.0 is.of_step.item part other is.last.of_it.of_id is.of_step.placed is.brings (λ t s. (is.of_step.texts invocation t s).0), is)

    elements_of : ((part : TextKind) → IsLastSettled register (journal_of closed at) op.id part (text_of part op.parts)) → IsLentByTrace tower chosen traces logs register (journal_of closed at) op
    elements_of last =
        let first = last invocation in
        let lt : op.id.feeder < length traces =
        subst (λ (f : ℕ). f < length traces) (is_its_feeder invocation (Some op.parts.invocation) first) (feeder_within at (length first.before) first.entry (feeder_of invocation (Some op.parts.invocation) first)) in
        let of = trace_of op.id.feeder lt in
        record {
          reading = reading_of op.id.feeder of;
          invoked = invoked of op.parts.invocation first;
          answered = later of answer answer_is_other op.parts.answer (last answer);
          amended = later of amendment amendment_is_other op.parts.amendment (last amendment);
        }

  left : (register : ℕ) (journal : List Entry) (claim : Option ClaimModel) (held : RegisterState) → option_map (left_by journal register) claim ≡ Some held → held.ops ≡ standing_of register journal
  left register journal None held e = absurd (cc)
  left register journal (Some claim) held e = let same : left_by journal register claim ≡ held = cc in ap (λ (h : RegisterState). h.ops) (sym same)

  pub of_trace : (register : ℕ) (held : RegisterState) → book_of closed register ≡ Some held → All (IsLentByTrace tower chosen traces logs register (journal_of closed (register % length closed))) held.ops
  of_trace register held is =
      let at : ℕ = register % length closed in
      let lt : at < length closed = within_closed (λ shard. shard.books) closed at (register / length closed) held is in
      let present : held.ops ≡ standing_of register (journal_of closed at) =
      left register (journal_of closed at) (slice_get (plan_of_run tower shards traces).claims register) held
      (subst (λ (m : ℕ). option_map (left_by (journal_of closed (register % m)) register) (slice_get (plan_of_run tower shards traces).claims register) ≡ Some held) (sym run.finished.many) (sym (run.finished.books register) ∙ is)) in
      let last = last_settled (plan_of_run tower shards traces) at register (journal_of closed at) (run.finished.finished at lt).of_shard.legal in
      subst (All (IsLentByTrace tower chosen traces logs register (journal_of closed at))) (sym present)
      (λ k d l. elements_of register at (get_or (standing_of register (journal_of closed at)) k d) (last k d l))
