-- Legal journals: their prefixes are legal, they leave what all edits leave, and their replies are determined.
use Rattle.std.proofs.Common.{◌≡◌, ◌≢◌, ℕ, Bool, true, false, List, [], ◌∷◌, ◌++◌, map, Some, refl, sym, ap, subst, ◌∙◌, inl, inr}
use Rattle.std.specs.Prelude.{◌↔◌, IsTrue, filter, if◌then◌else◌}
use Rattle.std.specs.List.{slice_get}
use Rattle.std.proofs.lemmas.Bool.{cases_eq, eq-eqb, ne_eqb}
use Rattle.std.proofs.lemmas.Option.{none-some, same_Some}
use Rattle.std.proofs.lemmas.List.{map-append}
use Rattle.std.proofs.lemmas.List.Elements.{filter-append}
use Rattle.intervals.specs.declared.operation.RegId.{RegId}
use Rattle.intervals.specs.declared.edit.Edit.{Edit}
use Rattle.intervals.specs.Terms.{ClaimModel, RegisterState, unedited}
use Rattle.intervals.specs.Refusal.{after_edit, standing}
use Rattle.intervals.specs.Kind.{Holds}
use Rattle.register_book.specs.declared.reply.Reply.{Reply}
use Rattle.register_book.specs.declared.reply.Reply.TheVariants.{Accepted, Refused}
use Rattle.register_book.specs.Reply.{IsReply}
use Rattle.shards.specs.declared.entry.Entry.{Entry}
use Rattle.shards.specs.Plan.{Plan}
use Rattle.shards.specs.Journal.{EachAfter, IsAnswered, accepted_edits, is_accepted_of, edits_of, is_of, asked_in, left_by}
use Rattle.shards.proofs.Journals.{left_after, left_after_append, left_after_own, left_push, left_push_other}

pub each_front : {X : Type 0} (R : List X → X → Type 0) (before front rest : List X) → EachAfter R before (front ++ rest) → EachAfter R before front
each_front R before [] rest each = tt
each_front R before (x ∷ front) rest each = (each.0, each_front R (before ++ x ∷ []) front rest each.1)

accepted_first : (register : ℕ) (entry : Entry) (rest : List Entry) → accepted_edits register (entry ∷ rest) ≡ accepted_edits register (entry ∷ []) ++ accepted_edits register rest
accepted_first register entry rest =
    ap (map (λ (e : Entry). e.edit)) (filter-append (is_accepted_of register) (entry ∷ []) rest)
    ∙ map-append (λ (e : Entry). e.edit) (filter (is_accepted_of register) (entry ∷ [])) (filter (is_accepted_of register) rest)

edits_of_own : (register : ℕ) (entry : Entry) (rest : List Entry) → entry.register.0 ≡ register → edits_of register (entry ∷ rest) ≡ entry.edit ∷ edits_of register rest
edits_of_own register entry rest own = ap (λ (same : Bool). map (λ (e : Entry). e.edit) (if same then entry ∷ filter (is_of register) rest else filter (is_of register) rest)) (eq-eqb entry.register.0 register own)

edits_of_other : (register : ℕ) (entry : Entry) (rest : List Entry) → entry.register.0 ≢ register → edits_of register (entry ∷ rest) ≡ edits_of register rest
edits_of_other register entry rest other = ap (λ (same : Bool). map (λ (e : Entry). e.edit) (if same then entry ∷ filter (is_of register) rest else filter (is_of register) rest)) (ne_eqb entry.register.0 register other)

same_claim : (plan : Plan) (n m : ℕ) (claim other : ClaimModel) → n ≡ m → slice_get plan.claims n ≡ Some claim → slice_get plan.claims m ≡ Some other → claim ≡ other
same_claim plan n m claim other same known known' = same_Some claim other (sym known ∙ ap (slice_get plan.claims) same ∙ known')

-- the reply to an entry of this register is that of the register under this claim
reply_of : (plan : Plan) (at register : ℕ) (claim : ClaimModel) (before : List Entry) (entry : Entry) → entry.register.0 ≡ register → slice_get plan.claims register ≡ Some claim → IsAnswered plan at before entry
    → IsReply (left_by before register claim) entry.edit entry.reply
reply_of plan at register claim before entry own known answered =
    subst (λ (n : ℕ). IsReply (left_by before n claim) entry.edit entry.reply) own
    (subst (λ (c : ClaimModel). IsReply (left_by before entry.register.0 c) entry.edit entry.reply) (same_claim plan entry.register.0 register answered.claim claim own answered.known known) answered.reply)

left_from : (plan : Plan) (at register : ℕ) (claim : ClaimModel) → slice_get plan.claims register ≡ Some claim → (before journal : List Entry) → EachAfter (IsAnswered plan at) before journal
    → left_after (left_by before register claim) (accepted_edits register journal) ≡ standing (left_by before register claim) (edits_of register journal)
left_from plan at register claim known before [] each = refl
left_from plan at register claim known before (entry ∷ rest) each =
    let held : RegisterState = left_by before register claim in
    let longer : List Entry = before ++ entry ∷ [] in
    ap (left_after held) (accepted_first register entry rest)
    ∙ left_after_append held (accepted_edits register (entry ∷ [])) (accepted_edits register rest)
    ∙ ap (λ (left : RegisterState). left_after left (accepted_edits register rest)) (sym (left_push register claim before entry))
    ∙ left_from plan at register claim known longer rest each.1
    ∙ elim (cases_eq entry.register.0 register) as (λ either. standing (left_by longer register claim) (edits_of register rest) ≡ standing held (edits_of register (entry ∷ rest))) [
      | inl own ↦
          ap (λ (left : RegisterState). standing left (edits_of register rest)) (left_push register claim before entry ∙ left_after_own held register entry own (reply_of plan at register claim before entry own known each.0))
          ∙ sym (ap (standing held) (edits_of_own register entry rest own))
      | inr other ↦
          ap (λ (left : RegisterState). standing left (edits_of register rest)) (left_push_other register claim before entry other)
          ∙ sym (ap (standing held) (edits_of_other register entry rest other))
    ]

pub left_as_edited : (plan : Plan) (at register : ℕ) (claim : ClaimModel) (journal : List Entry) → EachAfter (IsAnswered plan at) [] journal → slice_get plan.claims register ≡ Some claim
    → left_by journal register claim ≡ standing (unedited claim) (edits_of register journal)
left_as_edited plan at register claim journal legal known = left_from plan at register claim known [] journal legal

same_truth : (P : Type 0) (a b : Bool) → IsTrue a ↔ P → IsTrue b ↔ P → a ≡ b
same_truth P true true is is' = refl
same_truth P true false is is' = sym (is'.1 (is.0 refl))
same_truth P false true is is' = is.1 (is'.0 refl)
same_truth P false false is is' = refl

one_reply : (held : RegisterState) (edit : Edit) (reply other : Reply) → IsReply held edit reply → IsReply held edit other → reply ≡ other
one_reply held edit (Accepted holds) (Accepted holds') is is' = ap Accepted (same_truth (Holds (after_edit held edit)) holds holds' is.1 is'.1)
one_reply held edit (Accepted holds) (Refused refusal') is is' = absurd (none-some refusal' (sym is.0 ∙ is'))
one_reply held edit (Refused refusal) (Accepted holds') is is' = absurd (none-some refusal (sym is'.0 ∙ is))
one_reply held edit (Refused refusal) (Refused refusal') is is' = ap Refused (same_Some refusal refusal' (sym is ∙ is'))

-- two entries after the same entries that ask alike are equal
one_entry : (plan : Plan) (at : ℕ) (before : List Entry) (entry other : Entry) → asked_in entry ≡ asked_in other → IsAnswered plan at before entry → IsAnswered plan at before other → entry ≡ other
one_entry plan at before entry other same answered answered' =
    let register_is : entry.register.0 ≡ other.register.0 = ap (λ (asked : ℕ × RegId × Edit). asked.1.0) same in
    let reply_is : entry.reply ≡ other.reply =
    one_reply (left_by before other.register.0 answered'.claim) other.edit entry.reply other.reply
    (subst (λ (edit : Edit). IsReply (left_by before other.register.0 answered'.claim) edit entry.reply) (ap (λ (asked : ℕ × RegId × Edit). asked.2) same)
    (reply_of plan at other.register.0 answered'.claim before entry register_is answered'.known answered)) answered'.reply in
    ap (λ (asked : ℕ × RegId × Edit). record { feeder = asked.0; register = asked.1; edit = asked.2; reply = entry.reply }) same
    ∙ ap (λ (reply : Reply). record { feeder = other.feeder; register = other.register; edit = other.edit; reply = reply }) reply_is

pub one_journal : (plan : Plan) (at : ℕ) (before journal other : List Entry) → EachAfter (IsAnswered plan at) before journal → EachAfter (IsAnswered plan at) before other → map asked_in journal ≡ map asked_in other → journal ≡ other
one_journal plan at before [] [] each each' same = refl
one_journal plan at before [] (entry' ∷ rest') each each' same = cc
one_journal plan at before (entry ∷ rest) [] each each' same = cc
one_journal plan at before (entry ∷ rest) (entry' ∷ rest') each each' same =
    let first : entry ≡ entry' = one_entry plan at before entry entry' (cc) each.0 each'.0 in
    let left : rest ≡ rest' = one_journal plan at (before ++ entry' ∷ []) rest rest' (subst (λ (e : Entry). EachAfter (IsAnswered plan at) (before ++ e ∷ []) rest) first each.1) each'.1 (cc) in
    cc
