-- A watch of one plain trace: a register's edits in the journal of its shard are those of the trace, but for their texts,
-- so that it never holds again once it failed.
use Rattle.std.proofs.Common.{◌≡◌, ◌+◌, ◌<◌, ◌%◌, ◌==◌, ◌⊎◌, inl, inr, ℕ, Bool, true, false, List, [], ◌∷◌, ◌++◌, map, length, Option, Some, None, refl, sym, ap, subst, ◌∙◌, append_assoc, arith, All}
use Rattle.std.specs.Prelude.{◌↔◌, IsSomeAnd, Result, filter, filter_map, if◌then◌else◌}
use Rattle.std.specs.List.{AllByRecursion, cons_option, slice_get}
use Rattle.std.proofs.lemmas.Bool.{eq-eqb}
use Rattle.std.proofs.lemmas.List.{map-append}
use Rattle.std.proofs.lemmas.List.Elements.{All-head, All-tail, filter-append, filter_map-append}
use Rattle.intervals.specs.declared.operation.RegId.{RegId}
use Rattle.intervals.specs.declared.edit.Edit.{Edit}
use Rattle.intervals.specs.declared.edit.Edit.TheVariants.{Append, Amend, Withdraw, Claim}
use Rattle.intervals.specs.declared.edit.Lent.TheVariants.{Answer}
use Rattle.intervals.specs.Bare.{bare_edit, no_parts, no_text}
use Rattle.intervals.specs.Kind.{Holds}
use Rattle.intervals.specs.Refusal.{after_edit, standing}
use Rattle.intervals.specs.Terms.{ClaimModel, RegisterState, unedited}
use Rattle.intervals.proofs.Standing.{kind_alone_changes, standing_apart}
use Rattle.register_book.specs.declared.reply.Reply.{Reply}
use Rattle.jepsen_form.specs.declared.gist.RefusedForm.{RefusedForm}
use Rattle.jepsen_form.specs.declared.item.Item.{Item}
use Rattle.jepsen_form.specs.declared.item.MomentField.{MomentField}
use Rattle.tower_file.specs.Contents.{TowerModel}
use Rattle.shards.specs.declared.entry.Entry.{Entry}
use Rattle.shards.specs.declared.entry.NumberedEntry.{NumberedEntry}
use Rattle.shards.specs.declared.entry.VerdictChange.{VerdictChange}
use Rattle.shards.specs.Plan.{Plan, claims_of}
use Rattle.shards.specs.Plain.{PlainEdit, PlainEntry, append, amend, withdraw, claim_to, plain_edit, plain_numbered}
use Rattle.shards.specs.Journal.{HoldsAfter, IsLegalJournal, edits_of, is_of, left_by}
use Rattle.shards.specs.Merge.{is_numbered_by, numbered}
use Rattle.shards.specs.Closing.{ClosedShard, changes_of, journal_of}
use Rattle.logs.specs.declared.log.Log.{Log}
use Rattle.logs.specs.Doings.{Doing, refused, nothing, entered, answered, entered_in, taken_of}
use Rattle.logs.specs.Run.{IsRun, IsTraced, plan_of_run}
use Rattle.logs.specs.Steps.{AreItemsOfTrace, StepResult, edits_among, steps_of}
use Rattle.watch.specs.Trace.{IsPlainTrace}
use Rattle.watch.specs.declared.run.Terms.{Terms}
use Rattle.watch.specs.Coming.{ComeInOrder, LeaveReadValues}
use Rattle.watch.specs.Final.{FailsLast, HasNoFail, IsPlainText}
use Rattle.watch.specs.Noted.{IsToldOf}
use Rattle.watch.specs.Settling.{IsSettled, change_fails, changes_on, notices_of}
use Rattle.watch.specs.Watched.{IsWatched, changes_in}
use Rattle.logs.specs.declared.notice.Notice.{Notice}
use Rattle.watch.proofs.Elements.{elements_in_order}
use Rattle.watch.proofs.Failing.{held_before, standing_append}
use Rattle.watch.proofs.FirstFailure.{NeverHealsIn, changes_final, fails_last_front, fails_last_less}
use Rattle.watch.proofs.Placing.{among_lists}
use Rattle.watch.proofs.Plain.{come_rest}
use Rattle.watch.proofs.SettledAll.{AreChanges, are_changes, change_said, less_said, on_said, same_shard}
use Rattle.watch.proofs.Unfailed.{WithdrawsNothing, leave_all, withdraw_nothing}

-- the edit of an entry as it reads, where it is of the register
abbrev read_of : ℕ → ℕ × PlainEntry → Option PlainEdit
read_of register known = if known.1.register.0 == register then Some known.1.edit else None

journal_reads : (register number : ℕ) (journal : List Entry) → filter_map (read_of register) (map plain_numbered (numbered number journal)) ≡ map plain_edit (edits_of register journal)
journal_reads register number [] = refl
journal_reads register number (entry ∷ journal) = by_test (entry.register.0 == register) (journal_reads register (number + 1) journal)
  where
    by_test : (b : Bool) → filter_map (read_of register) (map plain_numbered (numbered (number + 1) journal)) ≡ map plain_edit (edits_of register journal)
        → cons_option (if b then Some (plain_edit entry.edit) else None) (filter_map (read_of register) (map plain_numbered (numbered (number + 1) journal)))
        ≡ map plain_edit (map (λ (e : Entry). e.edit) (if b then entry ∷ filter (is_of register) journal else filter (is_of register) journal))
    by_test true rest = ap (λ (edits : List PlainEdit). plain_edit entry.edit ∷ edits) rest
    by_test false rest = rest

entered_reads : (n register number : ℕ) (on : RegId) (edit : Edit) (reply : Reply) (doings : List Doing) (b t : Bool) → (on.0 == register) ≡ b → (on.0 % n == register % n) ≡ t → (b ≡ true → t ≡ true)
    → filter_map (read_of register) (map plain_numbered (entered_in n 0 (register % n) doings)) ≡ map plain_edit (edits_among register (map taken_of doings))
    → filter_map (read_of register) (map plain_numbered (entered_in n 0 (register % n) (entered on edit number reply ∷ doings))) ≡ map plain_edit (edits_among register (map taken_of (entered on edit number reply ∷ doings)))
entered_reads n register number on edit reply doings true true is within sub rest = rw (within, is) (ap (λ (edits : List PlainEdit). plain_edit edit ∷ edits) rest)
entered_reads n register number on edit reply doings true false is within sub rest = absurd (let no = sub refl in cc)
entered_reads n register number on edit reply doings false true is within sub rest = rw (within, is) rest
entered_reads n register number on edit reply doings false false is within sub rest = rw (within, is) rest

doings_read : (n register : ℕ) (doings : List Doing) → filter_map (read_of register) (map plain_numbered (entered_in n 0 (register % n) doings)) ≡ map plain_edit (edits_among register (map taken_of doings))
doings_read n register [] = refl
doings_read n register (refused left_out ∷ doings) = doings_read n register doings
doings_read n register (nothing ∷ doings) = doings_read n register doings
doings_read n register (entered on edit number reply ∷ doings) =
    entered_reads n register number on edit reply doings (on.0 == register) (on.0 % n == register % n) refl refl (same_shard on.0 register n) (doings_read n register doings)
doings_read n register (answered on answer ∷ doings) = doings_read n register doings

-- the entries of the only feeder are all entries
all_by_one : (number : ℕ) (journal : List Entry) → All (λ entry. entry.feeder < 1) journal → filter (is_numbered_by 0) (numbered number journal) ≡ numbered number journal
all_by_one number [] all = refl
all_by_one number (entry ∷ journal) all =
    let few : entry.feeder < 1 = All-head (λ (e : Entry). e.feeder < 1) entry journal all in
    ap (λ (by : Bool). if by then record { number = number; entry = entry } ∷ filter (is_numbered_by 0) (numbered (number + 1) journal) else filter (is_numbered_by 0) (numbered (number + 1) journal))
    (eq-eqb entry.feeder 0 (omega (arith, few)))
    ∙ ap (λ (rest : List NumberedEntry). record { number = number; entry = entry } ∷ rest) (all_by_one (number + 1) journal (All-tail (λ (e : Entry). e.feeder < 1) entry journal all))

-- the edit without its texts, of the edit as it reads
abbrev bare_of : PlainEdit → Edit
bare_of (append op) = Append (record { id = op.id; process = op.process; act = op.act; begin = op.begin; end = op.end; parts = no_parts })
bare_of (amend id change) = Amend id (record { value = change.value; begin = change.begin; end = change.end; lent = Answer no_text })
bare_of (withdraw id) = Withdraw id
bare_of (claim_to kind) = Claim kind

bare_as_read : (edit : Edit) → bare_edit edit ≡ bare_of (plain_edit edit)
bare_as_read (Append op) = refl
bare_as_read (Amend id change) = refl
bare_as_read (Withdraw id) = refl
bare_as_read (Claim kind) = refl

bares : (edits : List Edit) → map bare_edit edits ≡ map bare_of (map plain_edit edits)
bares [] = refl
bares (edit ∷ edits) = rw (bare_as_read edit) (ap (λ (rest : List Edit). bare_of (plain_edit edit) ∷ rest) (bares edits))

-- a front of one list, and the front of another that reads the same
record Split (first rest other : List Edit) : Type 0 where
  front : List Edit
  back : List Edit
  parts : other ≡ front ++ back
  fronts : map bare_edit first ≡ map bare_edit front
  backs : map bare_edit rest ≡ map bare_edit back

split : (first rest other : List Edit) → map bare_edit (first ++ rest) ≡ map bare_edit other → Split first rest other
split [] rest other same = record { front = []; back = other; parts = refl; fronts = refl; backs = same }
split (edit ∷ first) rest [] same = absurd (cc)
split (edit ∷ first) rest (one ∷ other) same =
    let next = split first rest other (cc) in
    let here : bare_edit edit ≡ bare_edit one = cc in
    record {
      front = one ∷ next.front;
      back = next.back;
      parts = ap (λ (edits : List Edit). one ∷ edits) next.parts;
      fronts = rw here (ap (λ (edits : List Edit). bare_edit one ∷ edits) next.fronts);
      backs = next.backs;
    }

come_front : (held : RegisterState) (first rest : List Edit) → ComeInOrder held (first ++ rest) → ComeInOrder held first
come_front held [] rest come = tt
come_front held (edit ∷ first) rest come = (come.0, come_front (after_edit held edit) first rest come.1)

part_of : (first mid rest : List Edit) → AllByRecursion WithdrawsNothing (first ++ (mid ++ rest)) → AllByRecursion WithdrawsNothing mid
part_of [] [] rest all = tt
part_of [] (edit ∷ mid) rest all = (all.0, part_of [] mid rest all.1)
part_of (edit ∷ first) mid rest all = part_of first mid rest all.1

-- the laws of the crates below
abbrev pub Stands : Type 0
Stands = (plan : Plan) (at register : ℕ) (claim : ClaimModel) (journal : List Entry) → IsLegalJournal plan at journal → slice_get plan.claims register ≡ Some claim
    → left_by journal register claim ≡ standing (unedited claim) (edits_of register journal)

abbrev pub FrontsAreLegal : Type 0
FrontsAreLegal = (plan : Plan) (at : ℕ) (front rest : List Entry) → IsLegalJournal plan at (front ++ rest) → IsLegalJournal plan at front

abbrev pub AreAlike : Type 0
AreAlike = (claim : ClaimModel) (edits others : List Edit) → map bare_edit edits ≡ map bare_edit others
    → let one = standing (unedited claim) edits in let other = standing (unedited claim) others in
    (one.claim ≡ other.claim) × (Holds one ↔ Holds other) × (length one.ops ≡ length other.ops)

-- the initial value is known, or the later edits leave the values that reads returned
abbrev MayGoOn : ClaimModel → List Edit → Type 0
MayGoOn claim all = (first mid rest : List Edit) → all ≡ first ++ (mid ++ rest) → ((standing (unedited claim) first).claim.known ≡ true) ⊎ LeaveReadValues (standing (unedited claim) first) mid

module _ (present : Stands) (fronts : FrontsAreLegal) (alike : AreAlike) (plan : Plan) (at register : ℕ) (claim : ClaimModel) (known : slice_get plan.claims register ≡ Some claim) where
  abbrev HoldsUnder : List Edit → Type 0
  HoldsUnder edits = Holds (standing (unedited claim) edits)

  abbrev HoldsWith : List Entry → Option ClaimModel → Type 0
  HoldsWith journal found = IsSomeAnd found (λ claim. Holds (left_by journal register claim))

  to_edits : (journal : List Entry) → IsLegalJournal plan at journal → HoldsAfter plan register journal → HoldsUnder (edits_of register journal)
  to_edits journal legal holds = subst Holds (present plan at register claim journal legal known) (subst (HoldsWith journal) known holds)

  of_edits : (journal : List Entry) → IsLegalJournal plan at journal → HoldsUnder (edits_of register journal) → HoldsAfter plan register journal
  of_edits journal legal holds = subst (HoldsWith journal) (sym known) (subst Holds (sym (present plan at register claim journal legal known)) holds)

  edits_append : (front rest : List Entry) → edits_of register (front ++ rest) ≡ edits_of register front ++ edits_of register rest
  edits_append front rest = ap (map (λ (e : Entry). e.edit)) (filter-append (is_of register) front rest) ∙ map-append (λ (e : Entry). e.edit) (filter (is_of register) front) (filter (is_of register) rest)

  pub never_heals : (journal : List Entry) (all : List Edit) → IsLegalJournal plan at journal → map bare_edit (edits_of register journal) ≡ map bare_edit all → ComeInOrder (unedited claim) all → MayGoOn claim all → NeverHealsIn plan register journal
  never_heals journal all legal same order may front mid rest is holds =
      let legal_all : IsLegalJournal plan at ((front ++ mid) ++ rest) = subst (IsLegalJournal plan at) is legal in
      let legal_both = fronts plan at (front ++ mid) rest legal_all in
      let legal_front = fronts plan at front mid legal_both in
      let parted : edits_of register journal ≡ edits_of register front ++ (edits_of register mid ++ edits_of register rest) =
      ap (edits_of register) (is ∙ append_assoc front mid rest) ∙ edits_append front (mid ++ rest) ∙ ap (λ (edits : List Edit). edits_of register front ++ edits) (edits_append mid rest) in
      let first = split (edits_of register front) (edits_of register mid ++ edits_of register rest) all (ap (map bare_edit) (sym parted) ∙ same) in
      let second = split (edits_of register mid) (edits_of register rest) first.back first.backs in
      let whole : all ≡ first.front ++ (second.front ++ second.back) = first.parts ∙ ap (λ (edits : List Edit). first.front ++ edits) second.parts in
      let both : map bare_edit (edits_of register (front ++ mid)) ≡ map bare_edit (first.front ++ second.front) =
      ap (map bare_edit) (edits_append front mid) ∙ map-append bare_edit (edits_of register front) (edits_of register mid)
      ∙ ap (λ (edits : List Edit). edits ++ map bare_edit (edits_of register mid)) first.fronts ∙ ap (λ (edits : List Edit). map bare_edit first.front ++ edits) second.fronts
      ∙ sym (map-append bare_edit first.front second.front) in
      let later : HoldsUnder (first.front ++ second.front) = (alike claim (edits_of register (front ++ mid)) (first.front ++ second.front) both).1.0 (to_edits (front ++ mid) legal_both holds) in
      let in_order : ComeInOrder (standing (unedited claim) first.front) second.front =
      come_front (standing (unedited claim) first.front) second.front second.back (come_rest (unedited claim) first.front (second.front ++ second.back) (subst (ComeInOrder (unedited claim)) whole order)) in
      let before : HoldsUnder first.front =
      held_before (standing (unedited claim) first.front) second.front (standing_apart claim first.front) in_order (may first.front second.front second.back whole)
      (subst Holds (standing_append (unedited claim) first.front second.front) later) in
      of_edits front legal_front ((alike claim (edits_of register front) first.front first.fronts).1.1 before)

  may_known : claim.known ≡ true → (all : List Edit) → MayGoOn claim all
  may_known is all first mid rest parts = inl (ap (λ (c : ClaimModel). c.known) (kind_alone_changes claim first) ∙ is)

  may_unread : (all : List Edit) → AllByRecursion WithdrawsNothing all → MayGoOn claim all
  may_unread all none first mid rest parts = inr (leave_all (standing (unedited claim) first) mid (part_of first mid rest (subst (AllByRecursion WithdrawsNothing) parts none)))

module _ (present : Stands) (fronts : FrontsAreLegal) (alike : AreAlike) (tower : TowerModel) (chosen : MomentField) (shards register : ℕ) (claim : ClaimModel) (known : slice_get (claims_of tower) register ≡ Some claim) where
  -- of a run of one plain trace the register's first change to `fails` is the last one
  run_final : (traces : List (List ℕ)) (closed : List ClosedShard) (log : Log) → IsRun tower chosen shards traces closed (log ∷ []) → 0 < shards → All (IsPlainText tower chosen log.broken) traces
      → (claim.known ≡ true) ⊎ All (HasNoFail tower chosen log.broken) traces → FailsLast change_fails (changes_on register (changes_of closed (register % shards)))
  run_final [] closed log run some plain either = absurd run.traced
  run_final (trace ∷ other ∷ more) closed log run some plain either = absurd run.traced.1
  run_final (trace ∷ []) closed log run some plain either =
      let plan = plan_of_run tower shards (trace ∷ []) in
      let at = register % shards in
      let journal = journal_of closed at in
      let many : length closed ≡ shards = run.finished.many in
      let traced : IsTraced plan tower chosen closed 0 trace log = run.traced.0 in
      let settled = run.finished.finished at (omega (arith, many, some)) in
      let edits = edits_among register (steps_of 0 traced.items) in
      let read : map plain_edit (edits_of register journal) ≡ map plain_edit edits =
      sym (journal_reads register 0 journal)
      ∙ ap (λ (known : List NumberedEntry). filter_map (read_of register) (map plain_numbered known)) (sym (all_by_one 0 journal settled.of_shard.feeders))
      ∙ ap (filter_map (read_of register)) (traced.entries at (omega (arith, some)))
      ∙ doings_read shards register traced.doings
      ∙ ap (λ (taken : List StepResult). map plain_edit (edits_among register taken)) traced.done.for_steps in
      let same : map bare_edit (edits_of register journal) ≡ map bare_edit edits = bares (edits_of register journal) ∙ ap (map bare_of) read ∙ sym (bares edits) in
      let is_plain = All-head (IsPlainText tower chosen log.broken) trace [] plain traced.items traced.are in
      let order : ComeInOrder (unedited claim) edits = elements_in_order claim 0 register traced.items is_plain in
      let may : MayGoOn claim edits = by_either traced.items is_plain traced.are either in
      (changes_final plan register journal (changes_of closed at) (run.finished.changes at (omega (arith, many, some)))
      (never_heals present fronts alike plan at register claim known journal edits settled.of_shard.legal same order may)).0
    where
      by_either : (items : List (Result Item RefusedForm)) → IsPlainTrace items → AreItemsOfTrace tower chosen trace log.broken items → (claim.known ≡ true) ⊎ All (HasNoFail tower chosen log.broken) (trace ∷ []) → MayGoOn claim (edits_among register (steps_of 0 items))
      by_either items plain are (inl is) = may_known present fronts alike (plan_of_run tower shards (trace ∷ [])) (register % shards) register claim known is (edits_among register (steps_of 0 items))
      by_either items plain are (inr none) =
          may_unread present fronts alike (plan_of_run tower shards (trace ∷ [])) (register % shards) register claim known (edits_among register (steps_of 0 items))
          (subst (AllByRecursion WithdrawsNothing) (sym (among_lists register (steps_of 0 items)))
          (withdraw_nothing 0 (record { 0 = register }) [] items plain.unedited (All-head (HasNoFail tower chosen log.broken) trace [] none items are)))

  told_final : (closed : List ClosedShard) (stopped : Bool) (told : List Notice) → FailsLast change_fails (changes_on register (changes_of closed (register % shards)))
      → IsToldOf stopped (changes_in shards (register % shards) told) (changes_of closed (register % shards)) → FailsLast change_fails (changes_on register (changes_in shards (register % shards) told))
  told_final closed false told final is = subst (λ (changes : List VerdictChange). FailsLast change_fails (changes_on register changes)) is final
  told_final closed true told final is =
      fails_last_front change_fails (changes_on register (changes_in shards (register % shards) told)) (changes_on register is.0)
      (subst (FailsLast change_fails) (ap (changes_on register) is.1 ∙ filter-append (λ (c : VerdictChange). c.register.0 == register) (changes_in shards (register % shards) told) is.0) final)

  abbrev Said : List Notice → Type 0
  Said notices = FailsLast change_fails (filter_map change_said notices)

  written_final : (stopped : Bool) (told written : List Notice) → AreChanges told → Said told → IsSettled stopped told written → Said written
  written_final false told written are final is = fails_last_less change_fails (filter_map change_said told) (filter_map change_said written) (less_said told written are is) final
  written_final true told written are final (held, is) =
      let parted : told ≡ is.settled ++ held = is.parts in
      fails_last_less change_fails (filter_map change_said is.settled) (filter_map change_said written) (less_said is.settled written (front_are is.settled held (subst AreChanges parted are)) is.less)
      (fails_last_front change_fails (filter_map change_said is.settled) (filter_map change_said held) (subst (FailsLast change_fails) (ap (filter_map change_said) parted ∙ filter_map-append change_said is.settled held) final))
    where
      front_are : (front back : List Notice) → AreChanges (front ++ back) → AreChanges front
      front_are [] back are = tt
      front_are (notice ∷ front) back are = (are.0, front_are front back are.1)

pub first_failure_is_final : Stands → FrontsAreLegal → AreAlike → (tower : TowerModel) (terms : Terms) (left : List (Option (List ℕ))) (closed : List ClosedShard) (log : Log) (stopped : Bool) (old new : Option (List ℕ))
    → (watched : IsWatched tower terms left closed (log ∷ []) stopped old new) → 0 < terms.shards → All (IsPlainText tower terms.field log.broken) watched.traces
    → (register : ℕ) (claim : ClaimModel) → slice_get (claims_of tower) register ≡ Some claim → (claim.known ≡ true) ⊎ All (HasNoFail tower terms.field log.broken) watched.traces
    → FailsLast change_fails (changes_on register (changes_in terms.shards (register % terms.shards) watched.notices))
first_failure_is_final present fronts alike tower terms left closed log stopped old new watched some plain register claim known either =
    let n = terms.shards in
    let run = run_final present fronts alike tower terms.field n register claim known watched.traces closed log watched.run some plain either in
    let told = told_final present fronts alike tower terms.field n register claim known closed stopped watched.told run (watched.are_told (register % n) (omega (arith, some))) in
    subst (FailsLast change_fails) (sym (on_said n register watched.notices))
    (written_final present fronts alike tower terms.field n register claim known stopped (notices_of register watched.told) (notices_of register watched.notices) (are_changes register watched.told)
    (subst (FailsLast change_fails) (on_said n register watched.told) told) (watched.settled.by_register register))
