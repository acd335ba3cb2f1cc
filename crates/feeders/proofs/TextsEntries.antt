-- Each entry of a feeder is the edit of a step of its trace.
use Rattle.std.proofs.Common.{◌≡◌, ℕ, ◌<◌, ◌%◌, ◌==◌, Bool, true, false, List, Option, Some, None, IfSome, Result, Ok, map, refl, sym, ap, subst, ◌∙◌}
use Rattle.std.specs.Prelude.{option_map, if◌then◌else◌}
use Rattle.std.specs.Borrow.{Bor}
use Rattle.std.specs.List.{slice_get}
use Rattle.std.proofs.lemmas.Bool.{eq-eqb}
use Rattle.intervals.specs.declared.operation.OpId.{OpId}
use Rattle.intervals.specs.declared.operation.RegId.{RegId}
use Rattle.intervals.specs.declared.operation.OpParts.{OpParts}
use Rattle.intervals.specs.declared.edit.Edit.{Edit}
use Rattle.intervals.specs.declared.edit.Edit.TheVariants as edits
use Rattle.intervals.specs.declared.edit.Lent.{Lent}
use Rattle.intervals.specs.declared.edit.Lent.TheVariants as lents
use Rattle.intervals.specs.Edit.{edit_id}
use Rattle.register_book.specs.declared.reply.Reply.{Reply}
use Rattle.tower_file.specs.Contents.{TowerModel}
use Rattle.jepsen_form.specs.declared.gist.RefusedForm.{RefusedForm}
use Rattle.jepsen_form.specs.declared.item.Item.{Item}
use Rattle.jepsen_form.specs.declared.item.MomentField.{MomentField}
use Rattle.jepsen_form.specs.Item.{IsItem}
use Rattle.pairing.specs.declared.step.Step.TheVariants as steps
use Rattle.shards.specs.declared.entry.Entry.{Entry}
use Rattle.shards.specs.declared.entry.NumberedEntry.{NumberedEntry}
use Rattle.shards.specs.Plan.{Plan}
use Rattle.shards.specs.Plain.{PlainParts, PlainLent, PlainEdit, PlainEntry, answer as plain_answer, amendment as plain_amendment, append, amend, withdraw, claim_to, plain_parts, plain_lent, plain_edit, plain_entry, plain_numbered}
use Rattle.shards.specs.Merge.{numbered, is_numbered_by, entries_of}
use Rattle.shards.specs.Steps.{entry_of, numbered_entry}
use Rattle.shards.specs.Closing.{ClosedShard, journal_of}
use Rattle.logs.specs.declared.log.Log.{Log}
use Rattle.logs.specs.Steps.{StepResult, steps_of}
use Rattle.logs.specs.Doings.{Doing, refused, nothing, entered, answered, taken_of, entry_in, entered_in}
use Rattle.logs.specs.Run.{IsTraced}
use Rattle.feeders.specs.Texts.{TextKind, invocation, answer, amendment, text_of, text_in, settled, IsPlaced, IsSlice, IsOfStep}
use Rattle.feeders.proofs.TextsElements.{slices_of}
use Rattle.feeders.proofs.TextsItems.{item_carries}
use Rattle.feeders.proofs.TextsLists.{get_map, map_has, has_filter, filter_map_has, has_numbered, zip_get, all_get}
use Rattle.feeders.proofs.TextsSteps.{step_is_of_item}

-- edits that read alike have texts that read alike

abbrev plain_text_of : TextKind → PlainParts → Option (List ℕ)
plain_text_of invocation parts = Some parts.invocation
plain_text_of answer parts = parts.answer
plain_text_of amendment parts = parts.amendment

abbrev plain_text_in : TextKind → PlainLent → Option (List ℕ)
plain_text_in invocation (plain_answer text) = None
plain_text_in invocation (plain_amendment text) = None
plain_text_in answer (plain_answer text) = Some text
plain_text_in answer (plain_amendment text) = None
plain_text_in amendment (plain_answer text) = None
plain_text_in amendment (plain_amendment text) = Some text

abbrev plain_settled : TextKind → PlainEdit → Option (Option (List ℕ))
plain_settled part (append op) = Some (plain_text_of part op.parts)
plain_settled part (amend id change) = option_map Some (plain_text_in part change.lent)
plain_settled part (withdraw id) = Some None
plain_settled part (claim_to kind) = None

abbrev plain_id : PlainEdit → Option OpId
plain_id (append op) = Some op.id
plain_id (amend id change) = Some id
plain_id (withdraw id) = Some id
plain_id (claim_to kind) = None

abbrev IsPlainPlaced : ℕ → PlainEdit → Type 0
IsPlainPlaced place (append op) = op.id.event ≡ place
IsPlainPlaced place (amend id change) = id.event < place
IsPlainPlaced place (withdraw id) = id.event < place
IsPlainPlaced place (claim_to kind) = Unit {0}

-- the bytes of an optional text
abbrev bytes_of : Option (Bor (List ℕ)) → Option (List ℕ)
bytes_of text = option_map (λ t. t.now) text

text_reads : (part : TextKind) (parts : OpParts) → plain_text_of part (plain_parts parts) ≡ bytes_of (text_of part parts)
text_reads invocation parts = refl
text_reads answer parts = refl
text_reads amendment parts = refl

lent_reads : (part : TextKind) (lent : Lent) → option_map Some (plain_text_in part (plain_lent lent)) ≡ option_map bytes_of (option_map Some (text_in part lent))
lent_reads invocation (lents.Answer text) = refl
lent_reads invocation (lents.Amendment text) = refl
lent_reads answer (lents.Answer text) = refl
lent_reads answer (lents.Amendment text) = refl
lent_reads amendment (lents.Answer text) = refl
lent_reads amendment (lents.Amendment text) = refl

settled_reads : (part : TextKind) (edit : Edit) → plain_settled part (plain_edit edit) ≡ option_map bytes_of (settled part edit)
settled_reads part (edits.Append op) = ap (λ (o : Option (List ℕ)). Some o) (text_reads part op.parts)
settled_reads part (edits.Amend id change) = lent_reads part change.lent
settled_reads part (edits.Withdraw id) = refl
settled_reads part (edits.Claim kind) = refl

id_reads : (edit : Edit) → plain_id (plain_edit edit) ≡ edit_id edit
id_reads (edits.Append op) = refl
id_reads (edits.Amend id change) = refl
id_reads (edits.Withdraw id) = refl
id_reads (edits.Claim kind) = refl

placed_reads : (place : ℕ) (edit : Edit) → IsPlaced place edit → IsPlainPlaced place (plain_edit edit)
placed_reads place (edits.Append op) is = is
placed_reads place (edits.Amend id change) is = is
placed_reads place (edits.Withdraw id) is = is
placed_reads place (edits.Claim kind) is = is

reads_placed : (place : ℕ) (edit : Edit) → IsPlainPlaced place (plain_edit edit) → IsPlaced place edit
reads_placed place (edits.Append op) is = is
reads_placed place (edits.Amend id change) is = is
reads_placed place (edits.Withdraw id) is = is
reads_placed place (edits.Claim kind) is = is

read_text : (found : Option (Option (Bor (List ℕ)))) (text : Bor (List ℕ)) → option_map bytes_of found ≡ Some (Some text.now) → (other : Bor (List ℕ)) × (found ≡ Some (Some other)) × (other.now ≡ text.now)
read_text None text e = absurd (cc)
read_text (Some None) text e = absurd (cc)
read_text (Some (Some other)) text e = (other, refl, cc)

module _ (edit other : Edit) (same : plain_edit edit ≡ plain_edit other) where
  alike_id : edit_id edit ≡ edit_id other
  alike_id = sym (id_reads edit) ∙ ap plain_id same ∙ id_reads other

  alike_placed : (place : ℕ) → IsPlaced place other → IsPlaced place edit
  alike_placed place is = reads_placed place edit (subst (IsPlainPlaced place) (sym same) (placed_reads place other is))

  alike_text : (part : TextKind) (text : Bor (List ℕ)) → settled part edit ≡ Some (Some text) → (found : Bor (List ℕ)) × (settled part other ≡ Some (Some found)) × (found.now ≡ text.now)
  alike_text part text is = read_text (settled part other) text (sym (settled_reads part other) ∙ ap (plain_settled part) (sym same) ∙ settled_reads part edit ∙ ap (option_map bytes_of) is)

-- a doing that entered an edit in a journal

record IsEntered (feeder : ℕ) (doing : Doing) (known : NumberedEntry) : Type 0 where
  register : RegId
  edit : Edit
  number : ℕ
  reply : Reply
  taken : taken_of doing ≡ Ok (Some (steps.Edit register edit))
  known_is : numbered_entry number (entry_of feeder register edit reply) ≡ known

only_there : (t : Bool) (one known : NumberedEntry) → (if t then Some one else None) ≡ Some known → one ≡ known
only_there true one known e = cc
only_there false one known e = absurd (cc)

entered_by : (shards feeder at : ℕ) (doing : Doing) (known : NumberedEntry) → entry_in shards feeder at doing ≡ Some known → IsEntered feeder doing known
entered_by shards feeder at (refused code) known e = absurd (cc)
entered_by shards feeder at nothing known e = absurd (cc)
entered_by shards feeder at (entered register edit number reply) known e =
    record { register = register; edit = edit; number = number; reply = reply; taken = refl; known_is = only_there (register.0 % shards == at) (numbered_entry number (entry_of feeder register edit reply)) known e }
entered_by shards feeder at (answered register reply) known e = absurd (cc)

-- an entry that reads as one that was entered for a step
record IsDone (feeder : ℕ) (items : List (Result Item RefusedForm)) (entry : Entry) : Type 0 where
  place : ℕ
  edit : Edit
  step : slice_get (steps_of feeder items) place ≡ Some (Ok (Some (steps.Edit entry.register edit)))
  reads : plain_edit entry.edit ≡ plain_edit edit

module _ (plan : Plan) (tower : TowerModel) (chosen : MomentField) (closed : List ClosedShard) (feeder : ℕ) (trace : List ℕ) (log : Log) (traced : IsTraced plan tower chosen closed feeder trace log) where
  done_for : (k : ℕ) (doing : Doing) (known : NumberedEntry) (entry : Entry) → slice_get traced.doings k ≡ Some doing → IsEntered feeder doing known → plain_entry known.entry ≡ plain_entry entry → IsDone feeder traced.items entry
  done_for k doing known entry there is same =
      let plain : plain_entry (entry_of feeder is.register is.edit is.reply) ≡ plain_entry entry = ap (λ (n : NumberedEntry). plain_entry n.entry) is.known_is ∙ same in
      let register : is.register ≡ entry.register = ap (λ (p : PlainEntry). p.register) plain in
      let step : slice_get (steps_of feeder traced.items) k ≡ Some (Ok (Some (steps.Edit is.register is.edit))) =
      ap (λ (all : List StepResult). slice_get all k) (sym traced.done.for_steps) ∙ get_map taken_of traced.doings k doing there ∙ ap (λ (t : StepResult). Some t) is.taken in
      record {
        place = k;
        edit = is.edit;
        step = step ∙ ap (λ (r : RegId). Some (Ok (Some (steps.Edit r is.edit)))) register;
        reads = sym (ap (λ (p : PlainEntry). p.edit) plain);
      }

  -- an entry of the journal, by the numbered entry that it reads as
  known_in : (at : ℕ) (known : NumberedEntry) (k : ℕ) (entry : Entry) → at < plan.shards → slice_get (entries_of feeder (journal_of closed at)) k ≡ Some known → known.entry ≡ entry → IsDone feeder traced.items entry
  known_in at known k entry lt there same =
      let read : slice_get (map plain_numbered (entered_in plan.shards feeder at traced.doings)) k ≡ Some (plain_numbered known) =
      subst (λ (all : List (ℕ × PlainEntry)). slice_get all k ≡ Some (plain_numbered known)) (traced.entries at lt) (get_map plain_numbered (entries_of feeder (journal_of closed at)) k known there) in
      let other = map_has plain_numbered (entered_in plan.shards feeder at traced.doings) (plain_numbered known) k read in
      let from = filter_map_has (entry_in plan.shards feeder at) traced.doings other.0 other.1.0 other.1.1 in
      let reads : plain_entry known.entry ≡ plain_entry entry = ap plain_entry same in
      done_for from.0 from.1 other.0 entry from.2 (entered_by plan.shards feeder at from.1 other.0 from.3) (ap (λ (p : ℕ × PlainEntry). p.1) other.2 ∙ reads)

  done_in : (at n : ℕ) (entry : Entry) → at < plan.shards → slice_get (journal_of closed at) n ≡ Some entry → entry.feeder ≡ feeder → IsDone feeder traced.items entry
  done_in at n entry lt there own =
      let mine = has_numbered 0 (journal_of closed at) entry n there in
      let by : is_numbered_by feeder mine.0 ≡ true = eq-eqb mine.0.entry.feeder feeder (ap (λ (e : Entry). e.feeder) mine.2 ∙ own) in
      let kept = has_filter (is_numbered_by feeder) (numbered 0 (journal_of closed at)) mine.0 mine.1.0 mine.1.1 by in
      known_in at mine.0 kept.0 entry lt kept.1 mine.2

  of_done : (entry : Entry) → IsDone feeder traced.items entry → (place : ℕ) × IsOfStep feeder trace traced.are.pieces traced.items entry place
  of_done entry done =
      let from = step_is_of_item feeder traced.items done.place entry.register done.edit done.step in
      let read = zip_get (IsItem tower chosen) traced.are.pieces traced.items done.place (Ok from.item) traced.are.read from.item_is in
      let is = from.edit_is read.0.text (item_carries tower chosen read.0 from.item read.2) in (
        done.place,
        record {
          edit = done.edit;
          step = done.step;
          reads = done.reads;
          own = subst (λ (found : Option OpId). IfSome found (λ id. id.feeder ≡ feeder)) (sym (alike_id entry.edit done.edit done.reads)) is.own;
          placed = alike_placed entry.edit done.edit done.reads done.place is.placed;
          item = from.item;
          item_is = from.item_is;
          piece = read.0;
          element = read.1;
          slice = all_get (IsSlice trace) traced.are.pieces done.place read.0 (slices_of trace log.broken traced.are.pieces traced.are.elements) read.1;
          texts = λ part text settles.
              let found = alike_text entry.edit done.edit done.reads part text settles in
              let brings = is.texts part found.0 found.1 in
              (brings.0, sym found.2 ∙ brings.1);
        },
      )

  -- an entry of this feeder in the journal of a shard
  pub of_entry : (at n : ℕ) (entry : Entry) → at < plan.shards → slice_get (journal_of closed at) n ≡ Some entry → entry.feeder ≡ feeder → (place : ℕ) × IsOfStep feeder trace traced.are.pieces traced.items entry place
  of_entry at n entry lt there own = of_done entry (done_in at n entry lt there own)
