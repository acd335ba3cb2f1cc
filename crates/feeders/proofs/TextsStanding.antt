-- Each text of an operation that stands after a legal journal is what the last edit to settle it makes of it.
use Rattle.std.proofs.Common.{◌≡◌, ℕ, ◌&&◌, ◌==◌, Bool, true, false, not, cond, List, [], ◌∷◌, ◌++◌, map, Option, Some, None, refl, sym, ap, subst, ◌∙◌, ◌⊎◌, inl, inr, append_assoc, append-nil, eqb-true}
use Rattle.std.proofs.lemmas.List.{map-append}
use Rattle.std.specs.Prelude.{All, IsTrue, filter, get_or}
use Rattle.std.specs.Borrow.{Bor}
use Rattle.std.proofs.lemmas.List.Elements.{All-nil, All-push, All-map, All-filter, All-weaker, filter_passes, filter-append}
use Rattle.intervals.specs.declared.operation.Op.{Op}
use Rattle.intervals.specs.declared.operation.OpId.{OpId}
use Rattle.intervals.specs.declared.operation.OpParts.{OpParts}
use Rattle.intervals.specs.declared.edit.Change.{Change}
use Rattle.intervals.specs.declared.edit.Edit.{Edit}
use Rattle.intervals.specs.declared.edit.Edit.TheVariants as edits
use Rattle.intervals.specs.declared.edit.Lent.{Lent}
use Rattle.intervals.specs.declared.edit.Lent.TheVariants as lents
use Rattle.intervals.specs.Operation.{same_id}
use Rattle.intervals.specs.Edit.{op_of, edit_id, parts_with, changed, amended, edited}
use Rattle.intervals.specs.Refusal.{first_refusal, moments_refusal}
use Rattle.intervals.specs.Terms.{RegisterState}
use Rattle.intervals.proofs.Ids.{Decides-same_id_is, not_taken}
use Rattle.intervals.proofs.Accepted.{edit_accepted}
use Rattle.intervals.proofs.Found.{find-None}
use Rattle.register_book.specs.declared.reply.Reply.{Reply}
use Rattle.register_book.specs.declared.reply.Reply.TheVariants.{Accepted, Refused}
use Rattle.register_book.specs.Reply.{IsReply}
use Rattle.shards.specs.declared.entry.Entry.{Entry}
use Rattle.shards.specs.Plan.{Plan}
use Rattle.shards.specs.Journal.{EachAfter, IsAnswered, is_accepted, is_accepted_of, accepted_edits, stand, standing_of, left_by}
use Rattle.feeders.specs.Texts.{TextKind, invocation, answer, amendment, text_of, text_in, settled, IsEditOf, IsLastSettled}

-- a change brings a text of this kind, or leaves the operation's as it was
brought_or_left : (part : TextKind) (parts : OpParts) (lent : Lent) → ((text : Bor (List ℕ)) × (text_in part lent ≡ Some text) × (text_of part (parts_with parts lent) ≡ Some text)) ⊎ ((text_in part lent ≡ None) × (text_of part (parts_with parts lent) ≡ text_of part parts))
brought_or_left invocation parts (lents.Answer text) = inr (refl, refl)
brought_or_left invocation parts (lents.Amendment text) = inr (refl, refl)
brought_or_left answer parts (lents.Answer text) = inl (text, refl, refl)
brought_or_left answer parts (lents.Amendment text) = inr (refl, refl)
brought_or_left amendment parts (lents.Answer text) = inr (refl, refl)
brought_or_left amendment parts (lents.Amendment text) = inl (text, refl, refl)

both : (a b : Bool) → (a && b) ≡ true → (a ≡ true) × (b ≡ true)
both true b e = (refl, e)
both false b e = absurd (cc)

stand_append : (ops : List Op) (edits more : List Edit) → stand ops (edits ++ more) ≡ stand (stand ops edits) more
stand_append ops [] more = refl
stand_append ops (edit ∷ edits) more = stand_append (edited ops edit) edits more

-- the operations that stand after one entry more
standing_push : (register : ℕ) (journal : List Entry) (entry : Entry) → standing_of register (journal ++ entry ∷ []) ≡ stand (standing_of register journal) (accepted_edits register (entry ∷ []))
standing_push register journal entry =
    ap (λ (kept : List Entry). stand [] (map (λ (e : Entry). e.edit) kept)) (filter-append (is_accepted_of register) journal (entry ∷ []))
    ∙ ap (stand []) (map-append (λ (e : Entry). e.edit) (filter (is_accepted_of register) journal) (filter (is_accepted_of register) (entry ∷ [])))
    ∙ stand_append [] (accepted_edits register journal) (accepted_edits register (entry ∷ []))

-- each text of the operation is what the last edit to settle it makes of it
abbrev AreLast : ℕ → List Entry → Op → Type 0
AreLast register journal op = (part : TextKind) → IsLastSettled register journal op.id part (text_of part op.parts)

module _ (register : ℕ) (journal : List Entry) (entry : Entry) where
  -- an entry that makes nothing of a text of this kind
  stays : (id : OpId) (part : TextKind) (text : Option (Bor (List ℕ))) → (IsEditOf register id entry → settled part entry.edit ≡ None) → IsLastSettled register journal id part text → IsLastSettled register (journal ++ entry ∷ []) id part text
  stays id part text none last = record {
    before = last.before;
    entry = last.entry;
    after = last.after ++ entry ∷ [];
    journal_is = ap (λ (all : List Entry). all ++ entry ∷ []) last.journal_is ∙ append_assoc last.before (last.entry ∷ last.after) (entry ∷ []);
    of_it = last.of_it;
    settles = last.settles;
    last = All-push (λ later. IsEditOf register id later → settled part later.edit ≡ None) last.after entry last.last none;
  }

  -- an entry of another operation
  stays_of_other : (op : Op) → (IsEditOf register op.id entry → ⊥) → AreLast register journal op → AreLast register (journal ++ entry ∷ []) op
  stays_of_other op other last part = stays op.id part (text_of part op.parts) (λ is. absurd (other is)) (last part)

  -- an entry that settles a text
  settles_now : (id : OpId) (part : TextKind) (text : Option (Bor (List ℕ))) → IsEditOf register id entry → settled part entry.edit ≡ Some text → IsLastSettled register (journal ++ entry ∷ []) id part text
  settles_now id part text of_it settles = record {
    before = journal;
    entry = entry;
    after = [];
    journal_is = refl;
    of_it = of_it;
    settles = settles;
    last = All-nil (λ later. IsEditOf register id later → settled part later.edit ≡ None);
  }

  other_id : (edit : Edit) (op : Op) (id : OpId) → entry.edit ≡ edit → edit_id edit ≡ Some id → same_id op.id id ≡ false → IsEditOf register op.id entry → ⊥
  other_id edit op id is of_edit differs of_it =
      let both : Some op.id ≡ Some id = sym of_it.of_id ∙ ap edit_id is ∙ of_edit in
      let same : op.id ≡ id = cc in
      let t = (Decides-same_id_is op.id id).1 same in
      absurd (cc)

  module _ (accepted : IsTrue (is_accepted_of register entry)) where
    of_id : (edit : Edit) (id : OpId) → entry.edit ≡ edit → edit_id edit ≡ Some id → IsEditOf register id entry
    of_id edit id is same = record { accepted = accepted; of_id = ap edit_id is ∙ same }

    after_append : (new : Op) (ops : List Op) → entry.edit ≡ edits.Append new → op_of ops new.id ≡ None → All (AreLast register journal) ops → All (AreLast register (journal ++ entry ∷ [])) (ops ++ new ∷ [])
    after_append new ops is free last =
        All-push (AreLast register (journal ++ entry ∷ [])) ops new
        (λ k d lt. stays_of_other (get_or ops k d) (other_id (edits.Append new) (get_or ops k d) new.id is refl (find-None (λ op. same_id op.id new.id) ops free k d lt)) (last k d lt))
        (λ part. settles_now new.id part (text_of part new.parts) (of_id (edits.Append new) new.id is refl) (ap (settled part) is))

    after_change : (id : OpId) (change : Change) (op : Op) → entry.edit ≡ edits.Amend id change → op.id ≡ id → AreLast register journal op → AreLast register (journal ++ entry ∷ []) (changed op change)
    after_change id change op is same last part =
        elim (brought_or_left part op.parts change.lent) [
          | inl (text, brings, text_is) ↦
              subst (IsLastSettled register (journal ++ entry ∷ []) op.id part) (sym text_is)
              (settles_now op.id part (Some text) (of_id (edits.Amend id change) op.id is (ap Some (sym same)))
              (ap (settled part) is ∙ ap (λ (t : Option (Bor (List ℕ))). elim t as (λ _. Option (Option (Bor (List ℕ)))) [ None ↦ None | Some x ↦ Some (Some x) ]) brings))
          | inr (none, left) ↦
              subst (IsLastSettled register (journal ++ entry ∷ []) op.id part) (sym left)
              (stays op.id part (text_of part op.parts) (λ _. ap (settled part) is ∙ ap (λ (t : Option (Bor (List ℕ))). elim t as (λ _. Option (Option (Bor (List ℕ)))) [ None ↦ None | Some x ↦ Some (Some x) ]) none) (last part))
        ]

    after_amend : (id : OpId) (change : Change) (op : Op) → entry.edit ≡ edits.Amend id change → AreLast register journal op → AreLast register (journal ++ entry ∷ []) (amended id change op)
    after_amend id change op is last = by_id (same_id op.id id) refl
      where
        by_id : (t : Bool) → same_id op.id id ≡ t → AreLast register (journal ++ entry ∷ []) (cond t (changed op change) op)
        by_id true e = after_change id change op is ((Decides-same_id_is op.id id).0 e) last
        by_id false e = stays_of_other op (other_id (edits.Amend id change) op id is refl e) last

    not_true : (b : Bool) → not b ≡ true → b ≡ false
    not_true true e = absurd (cc)
    not_true false e = refl

    after_edit : (edit : Edit) (ops : List Op) → entry.edit ≡ edit → first_refusal ops edit ≡ None → All (AreLast register journal) ops → All (AreLast register (journal ++ entry ∷ [])) (edited ops edit)
    after_edit (edits.Append new) ops is none last = after_append new ops is (not_taken (op_of ops new.id) (moments_refusal ops new) none) last
    after_edit (edits.Amend id change) ops is none last =
        All-map (AreLast register (journal ++ entry ∷ [])) (amended id change) ops
        (All-weaker (AreLast register journal) (λ op. AreLast register (journal ++ entry ∷ []) (amended id change op)) (λ op l. after_amend id change op is l) ops last)
    after_edit (edits.Withdraw id) ops is none last =
        let keep : Op → Bool = (λ op. not (same_id op.id id)) in
        let kept : List Op = filter keep ops in
        λ k d lt. stays_of_other (get_or kept k d)
        (other_id (edits.Withdraw id) (get_or kept k d) id is refl (not_true (same_id (get_or kept k d).id id) (filter_passes keep ops k d lt)))
        (All-filter keep (AreLast register journal) ops last k d lt)
    after_edit (edits.Claim kind) ops is none last =
        All-weaker (AreLast register journal) (AreLast register (journal ++ entry ∷ []))
        (λ op last part. stays op.id part (text_of part op.parts) (λ _. ap (settled part) is) (last part)) ops last

  not_refused : (held : RegisterState) (edit : Edit) (reply : Reply) → is_accepted reply ≡ true → IsReply held edit reply → first_refusal held.ops edit ≡ None
  not_refused held edit (Accepted holds) e is = edit_accepted held edit is.0
  not_refused held edit (Refused refusal) e is = absurd (cc)

  after_entry : (plan : Plan) (at : ℕ) → IsAnswered plan at journal entry → All (AreLast register journal) (standing_of register journal)
      → All (AreLast register (journal ++ entry ∷ [])) (standing_of register (journal ++ entry ∷ []))
  after_entry plan at answered last = subst (All (AreLast register (journal ++ entry ∷ []))) (sym (standing_push register journal entry)) (by_test (is_accepted_of register entry) refl)
    where
      by_test : (t : Bool) → is_accepted_of register entry ≡ t → All (AreLast register (journal ++ entry ∷ [])) (stand (standing_of register journal) (map (λ (e : Entry). e.edit) (cond t (entry ∷ []) [])))
      by_test true e =
          let two = both (entry.register.0 == register) (is_accepted entry.reply) e in
          let same : entry.register.0 ≡ register = eqb-true entry.register.0 register two.0 in
          after_edit e entry.edit (standing_of register journal) refl
          (subst (λ (n : ℕ). first_refusal (standing_of n journal) entry.edit ≡ None) same (not_refused (left_by journal entry.register.0 answered.claim) entry.edit entry.reply two.1 answered.reply))
          last
      by_test false e = All-weaker (AreLast register journal) (AreLast register (journal ++ entry ∷ [])) (λ op l. stays_of_other op (λ is. let t = is.accepted in absurd (cc)) l) (standing_of register journal) last

module _ (plan : Plan) (at register : ℕ) where
  after_more : (journal rest : List Entry) → EachAfter (IsAnswered plan at) journal rest → All (AreLast register journal) (standing_of register journal)
      → All (AreLast register (journal ++ rest)) (standing_of register (journal ++ rest))
  after_more journal [] each last = subst (λ (all : List Entry). All (AreLast register all) (standing_of register all)) (sym (append-nil journal)) last
  after_more journal (entry ∷ rest) each last =
      subst (λ (all : List Entry). All (AreLast register all) (standing_of register all)) (append_assoc journal (entry ∷ []) rest)
      (after_more (journal ++ entry ∷ []) rest each.1 (after_entry register journal entry plan at each.0 last))

  pub last_settled : (journal : List Entry) → EachAfter (IsAnswered plan at) [] journal → All (λ op. (part : TextKind) → IsLastSettled register journal op.id part (text_of part op.parts)) (standing_of register journal)
  last_settled journal legal = after_more [] journal legal (All-nil (AreLast register []))
