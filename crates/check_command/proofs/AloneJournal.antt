-- A journal whose entries read as those of a feeder's doings, of one register in one shard.
use Rattle.std.proofs.Common.{◌≡◌, ◌↔◌, ◌+◌, ◌%◌, ℕ, zero, suc, Bool, not, List, [], ◌∷◌, ◌++◌, map, Option, Some, None, Ok, Err, refl, sym, ap, subst, ◌∙◌, IsTrue, arith}
use Rattle.std.specs.Prelude.{filter, is_some, if◌then◌else◌}
use Rattle.std.specs.List.{slice_get, AllByRecursion, cons_option}
use Rattle.std.proofs.lemmas.List.{append-nil, append_assoc, map-append}
use Rattle.std.proofs.lemmas.List.Elements.{filter-append, filter_map-append}
use Rattle.std.proofs.lemmas.Bool.{eq-eqb}
use Rattle.std.proofs.lemmas.Option.{none-some, same_Some}
use Rattle.intervals.specs.declared.operation.RegId.{RegId}
use Rattle.intervals.specs.declared.edit.Edit.{Edit}
use Rattle.intervals.specs.Terms.{ClaimModel, RegisterState, unedited}
use Rattle.intervals.specs.Bare.{bare_edit, bare_held}
use Rattle.intervals.specs.Refusal.{reply_to, standing}
use Rattle.register_book.specs.declared.reply.Reply.{Reply}
use Rattle.register_book.specs.Reply.{IsReply}
use Rattle.pairing.specs.declared.step.Step.TheVariants as steps
use Rattle.tower_file.specs.Alone.{alone_claim, alone_tower}
use Rattle.shards.specs.declared.entry.Entry.{Entry}
use Rattle.shards.specs.declared.entry.NumberedEntry.{NumberedEntry}
use Rattle.shards.specs.Plan.{Plan, plan_of}
use Rattle.shards.specs.Plain.{PlainEntry, plain_numbered}
use Rattle.shards.specs.Journal.{IsAnswered, IsLegalJournal, edits_of, is_of, is_accepted, left_by}
use Rattle.shards.specs.Merge.{numbered, is_numbered_by, entries_of}
use Rattle.shards.specs.Steps.{entry_of, numbered_entry}
use Rattle.logs.specs.Steps.{StepResult, edit_on, edits_among}
use Rattle.logs.specs.Doings.{Doing, refused, nothing, entered, answered, taken_of, entered_in}
use Rattle.check_command.specs.Verdict.{standing_after, IsRefused}
use Rattle.check_command.proofs.AloneReplies.{same_bare, refusal_of, one_reply, after_front, front_of}
use Rattle.check_command.proofs.AloneRefusals.{AreReplied, is_refusing}

-- the plan of one feeder, one shard and the one register
abbrev pub alone_plan : Plan
alone_plan = plan_of 0 alone_tower 1 1

-- all are of the one register
known_is : (n : ℕ) (claim : ClaimModel) → slice_get alone_plan.claims n ≡ Some claim → (n ≡ 0) × (claim ≡ alone_claim)
known_is zero claim known = (refl, sym (same_Some alone_claim claim known))
known_is (suc n) claim known = absurd (none-some claim known)

-- a remainder by 1 is 0
left_by_one : (n : ℕ) → n % 1 ≡ 0
left_by_one n = omega arith

-- the entries of the only feeder are all entries
pub all_entries : (number : ℕ) (journal : List Entry) → AllByRecursion (λ entry. entry.feeder ≡ 0) journal → filter (is_numbered_by 0) (numbered number journal) ≡ numbered number journal
all_entries number [] all = refl
all_entries number (entry ∷ journal) all =
    ap (λ (by : Bool). if by then record { number = number; entry = entry } ∷ filter (is_numbered_by 0) (numbered (number + 1) journal) else filter (is_numbered_by 0) (numbered (number + 1) journal)) (eq-eqb entry.feeder 0 all.0)
    ∙ ap (λ (rest : List NumberedEntry). record { number = number; entry = entry } ∷ rest) (all_entries (number + 1) journal all.1)

-- an entry of the register adds its edit
edits_pushed : (front : List Entry) (entry : Entry) → entry.register.0 ≡ 0 → edits_of 0 (front ++ entry ∷ []) ≡ edits_of 0 front ++ entry.edit ∷ []
edits_pushed front entry own =
    ap (map (λ (e : Entry). e.edit)) (filter-append (is_of 0) front (entry ∷ []))
    ∙ map-append (λ (e : Entry). e.edit) (filter (is_of 0) front) (filter (is_of 0) (entry ∷ []))
    ∙ ap (λ (same : Bool). edits_of 0 front ++ map (λ (e : Entry). e.edit) (if same then entry ∷ [] else [])) (eq-eqb entry.register.0 0 own)

-- a step without an edit adds none
edits_kept : (before : List StepResult) (step : StepResult) → edit_on 0 step ≡ None → edits_among 0 (before ++ step ∷ []) ≡ edits_among 0 before
edits_kept before step none =
    filter_map-append (edit_on 0) before (step ∷ [])
    ∙ ap (λ (o : Option Edit). edits_among 0 before ++ cons_option o []) none
    ∙ append-nil (edits_among 0 before)

edits_more : (before : List StepResult) (step : StepResult) (edit : Edit) → edit_on 0 step ≡ Some edit → edits_among 0 (before ++ step ∷ []) ≡ edits_among 0 before ++ edit ∷ []
edits_more before step edit some =
    filter_map-append (edit_on 0) before (step ∷ [])
    ∙ ap (λ (o : Option Edit). edits_among 0 before ++ cons_option o []) some

entered_first : (register : RegId) (edit : Edit) (number : ℕ) (reply : Reply) (doings : List Doing)
    → entered_in 1 0 0 (entered register edit number reply ∷ doings) ≡ numbered_entry number (entry_of 0 register edit reply) ∷ entered_in 1 0 0 doings
entered_first register edit number reply doings =
    ap (λ (here : Bool). cons_option (if here then Some (numbered_entry number (entry_of 0 register edit reply)) else None) (entered_in 1 0 0 doings)) (eq-eqb (register.0 % 1) 0 (left_by_one register.0))

edit_here : (register : RegId) (edit : Edit) → register.0 ≡ 0 → edit_on 0 (Ok (Some (steps.Edit register edit))) ≡ Some edit
edit_here register edit own = ap (λ (here : Bool). if here then Some edit else None) (eq-eqb register.0 0 own)

-- what an entry of a journal and the doing that it reads as say of each other
record IsOne (entry : Entry) (register : RegId) (edit : Edit) (reply : Reply) : Type 0 where
  own : entry.register.0 ≡ 0
  own' : register.0 ≡ 0
  alike : bare_edit entry.edit ≡ bare_edit edit
  replies : entry.reply ≡ reply

is_one : (place number : ℕ) (entry : Entry) (register : RegId) (edit : Edit) (reply : Reply) → plain_numbered (record { number = place; entry = entry }) ≡ plain_numbered (numbered_entry number (entry_of 0 register edit reply))
    → entry.register.0 ≡ 0 → IsOne entry register edit reply
is_one place number entry register edit reply same own = record {
  own = own;
  own' = sym (ap (λ (p : ℕ × PlainEntry). p.1.register.0) same) ∙ own;
  alike = same_bare entry.edit edit (ap (λ (p : ℕ × PlainEntry). p.1.edit) same);
  replies = ap (λ (p : ℕ × PlainEntry). p.1.reply) same;
}

-- an entry of a legal journal is of the register
own_entry : (front : List Entry) (entry : Entry) (rest : List Entry) → IsLegalJournal alone_plan 0 (front ++ entry ∷ rest) → entry.register.0 ≡ 0
own_entry front entry rest legal =
    let is : IsAnswered alone_plan 0 front entry = after_front (IsAnswered alone_plan 0) [] front entry rest legal in
    (known_is entry.register.0 is.claim is.known).0

-- the edits of the journal are those of the steps, but for their texts; and each doing is a refusal where its
-- step is refused
pub record Runs (before : List StepResult) (front journal : List Entry) (doings : List Doing) : Type 0 where
  pub edits : map bare_edit (edits_of 0 (front ++ journal)) ≡ map bare_edit (edits_among 0 (before ++ map taken_of doings))
  pub replied : AreReplied before doings

later : (before : List StepResult) (step : StepResult) (steps : List StepResult) → (before ++ step ∷ []) ++ steps ≡ before ++ step ∷ steps
later before step steps = append_assoc before (step ∷ []) steps

without : (before : List StepResult) (front journal : List Entry) (doing : Doing) (doings : List Doing) → (IsTrue (is_refusing doing) ↔ IsRefused before (taken_of doing))
    → Runs (before ++ taken_of doing ∷ []) front journal doings → Runs before front journal (doing ∷ doings)
without before front journal doing doings here runs = record {
  edits = runs.edits ∙ ap (λ (t : List StepResult). map bare_edit (edits_among 0 t)) (later before (taken_of doing) (map taken_of doings));
  replied = (here, runs.replied);
}

pushed : (before : List StepResult) (front : List Entry) (entry : Entry) (register : RegId) (edit : Edit) (number : ℕ) (reply : Reply)
    → map bare_edit (edits_of 0 front) ≡ map bare_edit (edits_among 0 before) → IsOne entry register edit reply
    → map bare_edit (edits_of 0 (front ++ entry ∷ [])) ≡ map bare_edit (edits_among 0 (before ++ taken_of (entered register edit number reply) ∷ []))
pushed before front entry register edit number reply edits one =
    ap (map bare_edit) (edits_pushed front entry one.own)
    ∙ map-append bare_edit (edits_of 0 front) (entry.edit ∷ [])
    ∙ ap (λ (l : List Edit). l ++ bare_edit entry.edit ∷ []) edits
    ∙ ap (λ (e : Edit). map bare_edit (edits_among 0 before) ++ e ∷ []) one.alike
    ∙ sym (map-append bare_edit (edits_among 0 before) (edit ∷ []))
    ∙ ap (map bare_edit) (sym (edits_more before (taken_of (entered register edit number reply)) edit (edit_here register edit one.own')))

module _
    (present : (journal : List Entry) → IsLegalJournal alone_plan 0 journal → left_by journal 0 alone_claim ≡ standing (unedited alone_claim) (edits_of 0 journal))
    (reply_is : (held : RegisterState) (edit : Edit) → reply_to (bare_held held) (bare_edit edit) ≡ reply_to held edit)
    (stood : (edits : List Edit) → bare_held (standing (unedited alone_claim) (map bare_edit edits)) ≡ bare_held (standing (unedited alone_claim) edits)) where
  replied_entry : (front : List Entry) (entry : Entry) (rest : List Entry) → IsLegalJournal alone_plan 0 (front ++ entry ∷ rest)
      → not (is_accepted entry.reply) ≡ is_some (reply_to (standing (unedited alone_claim) (edits_of 0 front)) entry.edit)
  replied_entry front entry rest legal =
      let is : IsAnswered alone_plan 0 front entry = after_front (IsAnswered alone_plan 0) [] front entry rest legal in
      let known : (entry.register.0 ≡ 0) × (is.claim ≡ alone_claim) = known_is entry.register.0 is.claim is.known in
      let here : IsReply (left_by front entry.register.0 alone_claim) entry.edit entry.reply = subst (λ (c : ClaimModel). IsReply (left_by front entry.register.0 c) entry.edit entry.reply) known.1 is.reply in
      let zero_here : IsReply (left_by front 0 alone_claim) entry.edit entry.reply = subst (λ (n : ℕ). IsReply (left_by front n alone_claim) entry.edit entry.reply) known.0 here in
      refusal_of (left_by front 0 alone_claim) entry.edit entry.reply zero_here
      ∙ ap (λ (held : RegisterState). is_some (reply_to held entry.edit)) (present front (front_of (IsAnswered alone_plan 0) [] front (entry ∷ rest) legal))

  entering : (before : List StepResult) (front : List Entry) (entry : Entry) (journal : List Entry) (register : RegId) (edit : Edit) (number : ℕ) (reply : Reply) (doings : List Doing)
      → IsLegalJournal alone_plan 0 (front ++ entry ∷ journal) → map bare_edit (edits_of 0 front) ≡ map bare_edit (edits_among 0 before) → IsOne entry register edit reply
      → Runs (before ++ taken_of (entered register edit number reply) ∷ []) (front ++ entry ∷ []) journal doings
      → Runs before front (entry ∷ journal) (entered register edit number reply ∷ doings)
  entering before front entry journal register edit number reply doings legal edits one rest =
      let same : not (is_accepted reply) ≡ is_some (reply_to (standing_after before) edit) =
      ap (λ (r : Reply). not (is_accepted r)) (sym one.replies)
      ∙ replied_entry front entry journal legal
      ∙ ap is_some (one_reply alone_claim reply_is stood (edits_of 0 front) (edits_among 0 before) entry.edit edit edits one.alike) in
      record {
        edits = ap (λ (l : List Entry). map bare_edit (edits_of 0 l)) (sym (append_assoc front (entry ∷ []) journal))
            ∙ rest.edits
            ∙ ap (λ (t : List StepResult). map bare_edit (edits_among 0 t)) (later before (taken_of (entered register edit number reply)) (map taken_of doings));
        replied = (((λ is. sym same ∙ is), (λ is. same ∙ is)), rest.replied);
      }

  runs : (place : ℕ) (before : List StepResult) (front journal : List Entry) (doings : List Doing) → IsLegalJournal alone_plan 0 (front ++ journal)
      → map bare_edit (edits_of 0 front) ≡ map bare_edit (edits_among 0 before)
      → map plain_numbered (numbered place journal) ≡ map plain_numbered (entered_in 1 0 0 doings)
      → Runs before front journal doings
  runs place before front [] [] legal edits same = record {
    edits = ap (λ (l : List Entry). map bare_edit (edits_of 0 l)) (append-nil front) ∙ edits ∙ ap (λ (t : List StepResult). map bare_edit (edits_among 0 t)) (sym (append-nil before));
    replied = tt;
  }
  runs place before front (entry ∷ journal) [] legal edits same = cc
  runs place before front journal (refused code ∷ doings) legal edits same =
      without before front journal (refused code) doings ((λ is. tt), (λ is. refl))
      (runs place (before ++ Err code ∷ []) front journal doings legal (edits ∙ ap (map bare_edit) (sym (edits_kept before (Err code) refl))) same)
  runs place before front journal (nothing ∷ doings) legal edits same =
      without before front journal nothing doings ((λ is. cc), (λ is. absurd is))
      (runs place (before ++ Ok None ∷ []) front journal doings legal (edits ∙ ap (map bare_edit) (sym (edits_kept before (Ok None) refl))) same)
  runs place before front journal (answered register answer ∷ doings) legal edits same =
      without before front journal (answered register answer) doings ((λ is. cc), (λ is. absurd is))
      (runs place (before ++ taken_of (answered register answer) ∷ []) front journal doings legal (edits ∙ ap (map bare_edit) (sym (edits_kept before (taken_of (answered register answer)) refl))) same)
  runs place before front [] (entered register edit number reply ∷ doings) legal edits same =
      let first : [] ≡ plain_numbered (numbered_entry number (entry_of 0 register edit reply)) ∷ map plain_numbered (entered_in 1 0 0 doings) = same ∙ ap (map plain_numbered) (entered_first register edit number reply doings) in
      cc
  runs place before front (entry ∷ journal) (entered register edit number reply ∷ doings) legal edits same =
      let both : map plain_numbered (numbered place (entry ∷ journal)) ≡ plain_numbered (numbered_entry number (entry_of 0 register edit reply)) ∷ map plain_numbered (entered_in 1 0 0 doings) =
      same ∙ ap (map plain_numbered) (entered_first register edit number reply doings) in
      let first : plain_numbered (record { number = place; entry = entry }) ≡ plain_numbered (numbered_entry number (entry_of 0 register edit reply)) = cc in
      let rest : map plain_numbered (numbered (place + 1) journal) ≡ map plain_numbered (entered_in 1 0 0 doings) = cc in
      let one : IsOne entry register edit reply = is_one place number entry register edit reply first (own_entry front entry journal legal) in
      entering before front entry journal register edit number reply doings legal edits one
      (runs (place + 1) (before ++ taken_of (entered register edit number reply) ∷ []) (front ++ entry ∷ []) journal doings
      (subst (λ (l : List Entry). IsLegalJournal alone_plan 0 l) (sym (append_assoc front (entry ∷ []) journal)) legal)
      (pushed before front entry register edit number reply edits one) rest)

  -- a journal of one feeder
  pub runs_alone : (journal : List Entry) (doings : List Doing) → IsLegalJournal alone_plan 0 journal → AllByRecursion (λ entry. entry.feeder ≡ 0) journal
      → map plain_numbered (entries_of 0 journal) ≡ map plain_numbered (entered_in 1 0 0 doings) → Runs [] [] journal doings
  runs_alone journal doings legal all same = runs 0 [] [] journal doings legal refl (sym (ap (map plain_numbered) (all_entries 0 journal all)) ∙ same)
