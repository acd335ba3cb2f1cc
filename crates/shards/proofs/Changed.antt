-- The changes of verdicts by the entries of a journal that is one entry longer.
use Rattle.std.proofs.Common.{◌≡◌, ◌/◌, ◌%◌, ◌<◌, List, [], ◌∷◌, ◌++◌, length, get_or, Option, Some, None, Bool, true, false, refl, sym, ap, subst, ◌∙◌, append-nil}
use Rattle.std.specs.Prelude.{◌↔◌, IfSome, IsNone, IsTrue, option_map, option_to_list}
use Rattle.std.specs.Option.{option_map_or}
use Rattle.std.specs.List.{slice_get}
use Rattle.intervals.specs.declared.operation.Value.{Value}
use Rattle.intervals.specs.Terms.{ClaimModel, RegisterState}
use Rattle.intervals.specs.Refusal.{after_edit}
use Rattle.intervals.specs.Kind.{Holds}
use Rattle.register_book.specs.BookModel.{BookModel, claimed_of}
use Rattle.register_book.specs.Reply.{IsReply}
use Rattle.register_book.specs.declared.fault.Fault.{Fault}
use Rattle.register_book.specs.declared.fault.Witness.{Witness}
use Rattle.register_book.specs.Fault.{IsWitness, ids_of, values_shown}
use Rattle.shards.specs.declared.entry.VerdictChange.{VerdictChange}
use Rattle.shards.specs.declared.entry.Entry.{Entry}
use Rattle.shards.specs.declared.shard.Shard.{Shard}
use Rattle.shards.specs.Plan.{Plan}
use Rattle.shards.specs.Journal.{HoldsAfter, left_by}
use Rattle.shards.specs.VerdictChange.{AreVerdictChanges, IsChangeIfAny, IsFaultShown, IsVerdictChangeBy, as_before, one_changed}
use Rattle.shards.specs.Shard.{IsVerdictChangeTo, IsShardOf}
use Rattle.shards.proofs.Journals.{left_push_own}
use Rattle.shards.proofs.Kept.{HasBook, has_book, holds_by, same_book}

-- two tests of one thing are the same
same_tests : (a b : Bool) (P : Type 0) → IsTrue a ↔ P → IsTrue b ↔ P → a ≡ b
same_tests true true P first second = refl
same_tests false false P first second = refl
same_tests true false P first second = sym (second.1 (first.0 refl))
same_tests false true P first second = first.1 (second.0 refl)

-- a test of one thing and another that agree
through : {a : Bool} {P Q : Type 0} → IsTrue a ↔ P → IsTrue a ↔ Q → P ↔ Q
through {a = a} {P = P} {Q = Q} first second = (λ p. second.0 (first.1 p), λ q. first.0 (second.1 q))

both : {a : Bool} {P Q : Type 0} → IsTrue a ↔ P → P ↔ Q → IsTrue a ↔ Q
both {a = a} {P = P} {Q = Q} test same = (λ t. same.0 (test.0 t), λ q. test.1 (same.1 q))

-- why a register fails, as it is told of a witness
pub shown_by : (state : RegisterState) (witness : Option Witness) (fault : Option Fault) (values : List (Option Value)) → IfSome witness (IsWitness state.claim state.ops)
    → fault ≡ option_map ids_of witness → values ≡ option_map_or values_shown witness (None ∷ None ∷ []) → IsFaultShown state fault values
shown_by state None fault values is ids own = rw ids own
shown_by state (Some witness) fault values is ids own = rw ids (witness, is, refl, sym own)

pub none_shown : (witness : Option Witness) (fault : Option Fault) (P : Type 0) → fault ≡ option_map ids_of witness → IsNone witness ↔ P → IsNone fault ↔ P
none_shown None fault P ids same = rw ids same
none_shown (Some witness) fault P ids same = rw ids ((λ no. same.0 (absurd (cc))), (λ p. let no = same.1 p in absurd (cc)))

-- a change to the verdict of a book that an entry leaves is one by the entry
changed_by : (plan : Plan) (before : List Entry) (entry : Entry) (claim : ClaimModel) (edited : BookModel) (held : Bool) (change : VerdictChange)
    → slice_get plan.claims entry.register.0 ≡ Some claim
    → claimed_of edited ≡ left_by (before ++ entry ∷ []) entry.register.0 claim
    → IsTrue held ↔ HoldsAfter plan entry.register.0 before
    → IsVerdictChangeTo edited entry.register (length before) held change
    → IsVerdictChangeBy plan before entry change
changed_by plan before entry claim edited held change known left was is = record {
  number = is.number_is;
  register = is.register_is;
  differs = λ same. is.differs (same_tests change.holds held (HoldsAfter plan entry.register.0 (before ++ entry ∷ []))
      (holds_by plan (before ++ entry ∷ []) entry.register.0 claim (claimed_of edited) change.holds known left is.verdict)
      (both was same));
  claim = claim;
  known = known;
  kind = is.kind ∙ ap (λ (s : RegisterState). s.claim.kind) left;
  verdict = subst (λ (s : RegisterState). IsTrue change.holds ↔ Holds s) left is.verdict;
  operations = is.operations ∙ ap (λ (s : RegisterState). length s.ops) left;
  fault = subst (λ (s : RegisterState). IsFaultShown s change.fault change.values) left is.fault;
  none = subst (λ (s : RegisterState). IsNone change.fault ↔ Holds s) left is.none;
}

any_change : (plan : Plan) (journal : List Entry) (entry : Entry) (claim : ClaimModel) (edited : BookModel) (held : Bool) (change : Option VerdictChange)
    → slice_get plan.claims entry.register.0 ≡ Some claim
    → claimed_of edited ≡ left_by (journal ++ entry ∷ []) entry.register.0 claim
    → IsTrue held ↔ HoldsAfter plan entry.register.0 journal
    → IfSome change (IsVerdictChangeTo edited entry.register (length journal) held)
    → (IsNone change → IsTrue held ↔ Holds (claimed_of edited))
    → IsChangeIfAny plan journal entry change
any_change plan journal entry claim edited held None known left was some none =
    through was (holds_by plan (journal ++ entry ∷ []) entry.register.0 claim (claimed_of edited) held known left (none refl))
any_change plan journal entry claim edited held (Some change) known left was some none = changed_by plan journal entry claim edited held change known left was some

-- the change of the verdict by an entry of a shard, where it makes one
pub change_of : (plan : Plan) (shard : Shard) (entry : Entry) (book edited : BookModel) (held : Bool) (change : Option VerdictChange)
    → IsShardOf plan shard → entry.register.0 % plan.shards ≡ shard.at → entry.register.0 < length plan.claims
    → book ≡ get_or shard.books.items (entry.register.0 / shard.shards) book → IsReply (claimed_of book) entry.edit entry.reply → claimed_of edited ≡ after_edit (claimed_of book) entry.edit
    → IsTrue held ↔ Holds (claimed_of book)
    → IfSome change (IsVerdictChangeTo edited entry.register (length shard.entries) held)
    → (IsNone change → IsTrue held ↔ Holds (claimed_of edited))
    → IsChangeIfAny plan shard.entries entry change
change_of plan shard entry book edited held change kept here known is reply edited_to was some none =
    let has : HasBook plan shard entry.register.0 = has_book plan shard entry.register.0 kept here known in
    let left : claimed_of book ≡ left_by shard.entries entry.register.0 has.claim = same_book plan shard entry.register.0 book has is in
    let replied : IsReply (left_by shard.entries entry.register.0 has.claim) entry.edit entry.reply = subst (λ (state : RegisterState). IsReply state entry.edit entry.reply) left reply in
    let after : claimed_of edited ≡ left_by (shard.entries ++ entry ∷ []) entry.register.0 has.claim =
    edited_to ∙ ap (λ (state : RegisterState). after_edit state entry.edit) left ∙ sym (left_push_own has.claim shard.entries entry replied) in
    any_change plan shard.entries entry has.claim edited held change has.known after
    (holds_by plan shard.entries entry.register.0 has.claim (claimed_of book) held has.known left was)
    some none

changes_more : (plan : Plan) (journal : List Entry) (told : List VerdictChange) (entry : Entry) (change : Option VerdictChange)
    → IsChangeIfAny plan journal entry change → AreVerdictChanges plan journal told
    → AreVerdictChanges plan (journal ++ entry ∷ []) (told ++ option_to_list change)
changes_more plan journal told entry None is are = subst (AreVerdictChanges plan (journal ++ entry ∷ [])) (sym (append-nil told)) (as_before journal told entry are is)
changes_more plan journal told entry (Some change) is are = one_changed journal told entry change are is

-- the changes of a journal with one more entry
pub changes_push : (plan : Plan) (old : List Entry) (changes : List VerdictChange) (entry : Entry) (change : Option VerdictChange) (journal : List Entry) (told : List VerdictChange)
    → IsChangeIfAny plan old entry change → AreVerdictChanges plan old changes
    → journal ≡ old ++ entry ∷ [] → told ≡ changes ++ option_to_list change
    → AreVerdictChanges plan journal told
changes_push plan old changes entry change journal told is are longer more =
    subst (λ (entries : List Entry). AreVerdictChanges plan entries told) (sym longer)
    (subst (AreVerdictChanges plan (old ++ entry ∷ [])) (sym more) (changes_more plan old changes entry change is are))
