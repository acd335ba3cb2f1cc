-- A journal one entry longer: what it leaves of each register, and its entries by each feeder.
use Rattle.std.proofs.Common.{◌≡◌, ◌≢◌, ℕ, ◌+◌, ◌≤◌, ◌&&◌, Bool, true, false, List, [], ◌∷◌, ◌++◌, map, length, Option, refl, sym, ap, subst, ◌∙◌, arith}
use Rattle.std.specs.Prelude.{filter, is_some, if◌then◌else◌}
use Rattle.std.proofs.lemmas.List.{append-nil, append_assoc, map-append, length-append}
use Rattle.std.proofs.lemmas.List.Elements.{filter-append}
use Rattle.std.proofs.lemmas.Bool.{eq-eqb, ne_eqb}
use Rattle.intervals.specs.declared.operation.Op.{Op}
use Rattle.intervals.specs.declared.edit.Edit.{Edit}
use Rattle.intervals.specs.declared.refusal.Refusal.{Refusal}
use Rattle.intervals.specs.Terms.{ClaimModel, RegisterState, unedited}
use Rattle.intervals.specs.Edit.{edited, claim_after}
use Rattle.intervals.specs.Refusal.{carried_out, after_edit}
use Rattle.register_book.specs.declared.reply.Reply.{Reply}
use Rattle.register_book.specs.declared.reply.Reply.TheVariants.{Accepted, Refused}
use Rattle.register_book.specs.Reply.{IsReply}
use Rattle.shards.specs.declared.entry.Entry.{Entry}
use Rattle.shards.specs.Journal.{EachAfter, stand, accepted_edits, is_accepted, is_accepted_of, claim_by, left_by, is_by, count_by}

pub each_after_push : {X : Type 0} (R : List X → X → Type 0) (before xs : List X) (x : X) → EachAfter R before xs → R (before ++ xs) x → EachAfter R before (xs ++ x ∷ [])
each_after_push {X = X} R before [] x each is = (subst (λ (front : List X). R front x) (append-nil before) is, tt)
each_after_push {X = X} R before (y ∷ ys) x each is = (each.0, each_after_push R (before ++ y ∷ []) ys x each.1 (subst (λ (front : List X). R front x) (sym (append_assoc before (y ∷ []) ys)) is))

stand_append : (ops : List Op) (edits more : List Edit) → stand ops (edits ++ more) ≡ stand (stand ops edits) more
stand_append ops [] more = refl
stand_append ops (edit ∷ edits) more = stand_append (edited ops edit) edits more

claim_append : (claim : ClaimModel) (edits more : List Edit) → claim_by claim (edits ++ more) ≡ claim_by (claim_by claim edits) more
claim_append claim [] more = refl
claim_append claim (edit ∷ edits) more = claim_append (claim_after claim edit) edits more

accepted_push : (register : ℕ) (journal : List Entry) (entry : Entry) → accepted_edits register (journal ++ entry ∷ []) ≡ accepted_edits register journal ++ accepted_edits register (entry ∷ [])
accepted_push register journal entry =
    ap (map (λ (e : Entry). e.edit)) (filter-append (is_accepted_of register) journal (entry ∷ []))
    ∙ map-append (λ (e : Entry). e.edit) (filter (is_accepted_of register) journal) (filter (is_accepted_of register) (entry ∷ []))

-- an entry of another register changes nothing of this one
accepted_of_other : (register : ℕ) (entry : Entry) → entry.register.0 ≢ register → accepted_edits register (entry ∷ []) ≡ []
accepted_of_other register entry other = ap (λ (same : Bool). map (λ (e : Entry). e.edit) (if same && is_accepted entry.reply then entry ∷ [] else [])) (ne_eqb entry.register.0 register other)

-- a register after accepted edits
abbrev pub left_after : RegisterState → List Edit → RegisterState
left_after held edits = record { claim = claim_by held.claim edits; ops = stand held.ops edits }

pub left_after_append : (held : RegisterState) (edits more : List Edit) → left_after held (edits ++ more) ≡ left_after (left_after held edits) more
left_after_append held edits more = λ i. record { claim = claim_append held.claim edits more i; ops = stand_append held.ops edits more i }

by_reply : (held : RegisterState) (entry : Entry) (reply : Reply) → IsReply held entry.edit reply → left_after held (map (λ (e : Entry). e.edit) (if is_accepted reply then entry ∷ [] else [])) ≡ after_edit held entry.edit
by_reply held entry (Accepted holds) is = sym (ap (λ (refusal : Option Refusal). if is_some refusal then held else carried_out held entry.edit) is.0)
by_reply held entry (Refused refusal) is = sym (ap (λ (refusal : Option Refusal). if is_some refusal then held else carried_out held entry.edit) is)

-- an entry of this register leaves it as its edit does, accepted or refused
pub left_after_own : (held : RegisterState) (register : ℕ) (entry : Entry) → entry.register.0 ≡ register → IsReply held entry.edit entry.reply → left_after held (accepted_edits register (entry ∷ [])) ≡ after_edit held entry.edit
left_after_own held register entry own is =
    ap (λ (same : Bool). left_after held (map (λ (e : Entry). e.edit) (if same && is_accepted entry.reply then entry ∷ [] else []))) (eq-eqb entry.register.0 register own)
    ∙ by_reply held entry entry.reply is

pub left_push : (register : ℕ) (claim : ClaimModel) (journal : List Entry) (entry : Entry) → left_by (journal ++ entry ∷ []) register claim ≡ left_after (left_by journal register claim) (accepted_edits register (entry ∷ []))
left_push register claim journal entry =
    ap (left_after (unedited claim)) (accepted_push register journal entry)
    ∙ left_after_append (unedited claim) (accepted_edits register journal) (accepted_edits register (entry ∷ []))

pub left_push_other : (register : ℕ) (claim : ClaimModel) (journal : List Entry) (entry : Entry) → entry.register.0 ≢ register → left_by (journal ++ entry ∷ []) register claim ≡ left_by journal register claim
left_push_other register claim journal entry other = left_push register claim journal entry ∙ ap (left_after (left_by journal register claim)) (accepted_of_other register entry other)

pub left_push_own : (claim : ClaimModel) (journal : List Entry) (entry : Entry) → IsReply (left_by journal entry.register.0 claim) entry.edit entry.reply
    → left_by (journal ++ entry ∷ []) entry.register.0 claim ≡ after_edit (left_by journal entry.register.0 claim) entry.edit
left_push_own claim journal entry is = left_push entry.register.0 claim journal entry ∙ left_after_own (left_by journal entry.register.0 claim) entry.register.0 entry refl is

count_push : (feeder : ℕ) (journal : List Entry) (entry : Entry) → count_by feeder (journal ++ entry ∷ []) ≡ count_by feeder journal + count_by feeder (entry ∷ [])
count_push feeder journal entry = ap length (filter-append (is_by feeder) journal (entry ∷ [])) ∙ length-append (filter (is_by feeder) journal) (filter (is_by feeder) (entry ∷ []))

pub count_push_own : (feeder : ℕ) (journal : List Entry) (entry : Entry) → entry.feeder ≡ feeder → count_by feeder (journal ++ entry ∷ []) ≡ count_by feeder journal + 1
count_push_own feeder journal entry own =
    count_push feeder journal entry
    ∙ ap (λ (by : Bool). count_by feeder journal + length (if by then entry ∷ [] else [])) (eq-eqb entry.feeder feeder own)

pub count_push_other : (feeder : ℕ) (journal : List Entry) (entry : Entry) → entry.feeder ≢ feeder → count_by feeder (journal ++ entry ∷ []) ≡ count_by feeder journal
count_push_other feeder journal entry other =
    count_push feeder journal entry
    ∙ ap (λ (by : Bool). count_by feeder journal + length (if by then entry ∷ [] else [])) (ne_eqb entry.feeder feeder other)
    ∙ omega arith

pub count_at_most : (feeder : ℕ) (journal : List Entry) → count_by feeder journal ≤ length journal
count_at_most feeder [] = omega arith
count_at_most feeder (entry ∷ journal) =
    elim (is_by feeder entry) as (λ (by : Bool). length (if by then entry ∷ filter (is_by feeder) journal else filter (is_by feeder) journal) ≤ length (entry ∷ journal)) [
      | true ↦ omega (arith, count_at_most feeder journal)
      | false ↦ omega (arith, count_at_most feeder journal)
    ]
