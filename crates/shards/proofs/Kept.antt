-- A shard one entry later is still one of the plan, and its replies and answers are those of its journal.
use Rattle.std.proofs.Common.{◌≡◌, ℕ, zero, suc, ◌+◌, ◌*◌, ◌/◌, ◌%◌, ◌<◌, List, [], ◌∷◌, ◌++◌, set, length, get_or, Option, Some, None, Bool, refl, sym, ap, subst, ◌∙◌, inl, inr, arith}
use Rattle.std.specs.Prelude.{map, ◌↔◌, option_map, IfSome, IsNone, IsSomeAnd, IsTrue}
use Rattle.std.specs.List.{slice_get}
use Rattle.std.proofs.lemmas.Bool.{cases_eq}
use Rattle.std.proofs.lemmas.Option.{slice_get_within, get_or_from_slice_get}
use Rattle.std.proofs.lemmas.List.{length-set, length-map, length_push, get_or-map}
use Rattle.std.proofs.lemmas.List.Elements.{All-push}
use Rattle.intervals.specs.Terms.{ClaimModel, RegisterState}
use Rattle.intervals.specs.Refusal.{after_edit}
use Rattle.intervals.specs.Kind.{Holds}
use Rattle.register_book.specs.BookModel.{BookModel, claimed_of}
use Rattle.register_book.specs.Reply.{IsReply}
use Rattle.register_book.specs.Fault.{IsWitness, ids_of}
use Rattle.shards.specs.declared.entry.Answer.{Answer}
use Rattle.shards.specs.declared.entry.Entry.{Entry}
use Rattle.shards.specs.declared.shard.Shard.{Shard}
use Rattle.shards.specs.Plan.{Plan}
use Rattle.shards.specs.Journal.{HoldsAfter, IsAnswered, IsJournalOf, left_by, count_by}
use Rattle.shards.specs.VerdictChange.{AreVerdictChanges}
use Rattle.shards.specs.Steps.{IsStanding}
use Rattle.shards.specs.Shard.{AreBooks, AreEntryCounts, IsShardOf, NotesFeeders}
use Rattle.shards.proofs.KeptJournals.{feeders_more, kept_more}
use Rattle.shards.proofs.Slots.{register_of, slot_of, some_within, get_set_same, get_set_other}
use Rattle.shards.proofs.Journals.{each_after_push, left_push_own, left_push_other, count_push_own, count_push_other}

-- the book of a register of the shard is what the journal leaves
book_is : (plan : Plan) (at : ℕ) (journal : List Entry) (books : List RegisterState) (register : ℕ) (claim : ClaimModel) → AreBooks plan at journal books → register % plan.shards ≡ at → slice_get plan.claims register ≡ Some claim
    → slice_get books (register / plan.shards) ≡ Some (left_by journal register claim)
book_is plan at journal books register claim are here known =
    are (register / plan.shards)
    ∙ ap (λ (n : ℕ). option_map (left_by journal n) (slice_get plan.claims n)) (register_of register plan.shards at here)
    ∙ ap (option_map (left_by journal register)) known

-- a register of the shard has a claim and a book
pub record HasBook (plan : Plan) (shard : Shard) (register : ℕ) : Type 0 where
  pub claim : ClaimModel
  pub known : slice_get plan.claims register ≡ Some claim
  pub book : slice_get (map claimed_of shard.books.items) (register / shard.shards) ≡ Some (left_by shard.entries register claim)

pub has_book : (plan : Plan) (shard : Shard) (register : ℕ) → IsShardOf plan shard → register % plan.shards ≡ shard.at → register < length plan.claims → HasBook plan shard register
has_book plan shard register kept here known =
    let found : (claim : ClaimModel) × (slice_get plan.claims register ≡ Some claim) = some_within plan.claims register known in
    record {
      claim = found.0;
      known = found.1;
      book = ap (λ (many : ℕ). slice_get (map claimed_of shard.books.items) (register / many)) kept.shards ∙ book_is plan shard.at shard.entries (map claimed_of shard.books.items) register found.0 kept.books here found.1;
    }

pub slot_within : (plan : Plan) (shard : Shard) (register : ℕ) → IsShardOf plan shard → register % plan.shards ≡ shard.at → register < length plan.claims → register / shard.shards < length shard.books.items
slot_within plan shard register kept here known =
    let has : HasBook plan shard register = has_book plan shard register kept here known in
    omega (arith, length-map shard.books.items claimed_of, slice_get_within (map claimed_of shard.books.items) (register / shard.shards) (left_by shard.entries register has.claim) has.book)

pub same_book : (plan : Plan) (shard : Shard) (register : ℕ) (book : BookModel) (has : HasBook plan shard register) → book ≡ get_or shard.books.items (register / shard.shards) book → claimed_of book ≡ left_by shard.entries register has.claim
same_book plan shard register book has is =
    ap claimed_of is
    ∙ sym (get_or-map claimed_of shard.books.items (register / shard.shards) book (claimed_of book) (omega (arith, length-map shard.books.items claimed_of, slice_get_within (map claimed_of shard.books.items) (register / shard.shards) (left_by shard.entries register has.claim) has.book)))
    ∙ get_or_from_slice_get (map claimed_of shard.books.items) (register / shard.shards) (left_by shard.entries register has.claim) (claimed_of book) has.book

mapped_set : {X Y : Type 0} (f : X → Y) (xs : List X) (i : ℕ) (x : X) → map f (set xs i x) ≡ set (map f xs) i (f x)
mapped_set f [] i x = refl
mapped_set f (y ∷ ys) zero x = refl
mapped_set f (y ∷ ys) (suc i) x = ap (λ zs. f y ∷ zs) (mapped_set f ys i x)

left_same : (journal longer : List Entry) (register : ℕ) (claim : Option ClaimModel) → ((c : ClaimModel) → left_by longer register c ≡ left_by journal register c) → option_map (left_by journal register) claim ≡ option_map (left_by longer register) claim
left_same journal longer register None same = refl
left_same journal longer register (Some claim) same = ap Some (sym (same claim))

books_push : (plan : Plan) (at : ℕ) (journal : List Entry) (books : List RegisterState) (entry : Entry) (claim : ClaimModel) (book : RegisterState)
    → AreBooks plan at journal books → at < plan.shards → entry.register.0 % plan.shards ≡ at → slice_get plan.claims entry.register.0 ≡ Some claim
    → IsReply (left_by journal entry.register.0 claim) entry.edit entry.reply
    → book ≡ after_edit (left_by journal entry.register.0 claim) entry.edit
    → AreBooks plan at (journal ++ entry ∷ []) (set books (entry.register.0 / plan.shards) book)
books_push plan at journal books entry claim book are below here known reply is slot =
    let own : ℕ = entry.register.0 / plan.shards in
    let there : slice_get books own ≡ Some (left_by journal entry.register.0 claim) = book_is plan at journal books entry.register.0 claim are here known in
    elim (cases_eq slot own) [
      | inl same ↦
          ap (slice_get (set books own book)) same
          ∙ get_set_same books own book (slice_get_within books own (left_by journal entry.register.0 claim) there)
          ∙ ap Some (is ∙ sym (left_push_own claim journal entry reply))
          ∙ sym (ap (option_map (left_by (journal ++ entry ∷ []) entry.register.0)) known)
          ∙ sym (ap (λ (n : ℕ). option_map (left_by (journal ++ entry ∷ []) n) (slice_get plan.claims n)) (ap (λ (k : ℕ). k * plan.shards + at) same ∙ register_of entry.register.0 plan.shards at here))
      | inr other ↦
          get_set_other books own slot book other
          ∙ are slot
          ∙ left_same journal (journal ++ entry ∷ []) (slot * plan.shards + at) (slice_get plan.claims (slot * plan.shards + at))
          (λ c. left_push_other (slot * plan.shards + at) c journal entry (λ is_own. other (slot_of entry.register.0 plan.shards at slot below (sym is_own))))
    ]

counts_push : (plan : Plan) (journal : List Entry) (counts : List ℕ) (entry : Entry) (count : ℕ)
    → AreEntryCounts plan journal counts → entry.feeder < plan.feeders → count ≡ count_by entry.feeder journal + 1
    → AreEntryCounts plan (journal ++ entry ∷ []) (set counts entry.feeder count)
counts_push plan journal counts entry count are feeder is = (
  length-set counts entry.feeder count ∙ are.0,
  λ other below. elim (cases_eq other entry.feeder) [
    | inl same ↦
        ap (slice_get (set counts entry.feeder count)) same
        ∙ get_set_same counts entry.feeder count (omega (arith, are.0, feeder))
        ∙ ap Some (is ∙ ap (λ (f : ℕ). count_by f journal + 1) (sym same) ∙ sym (count_push_own other journal entry (sym same)))
    | inr apart ↦
        get_set_other counts entry.feeder other count apart
        ∙ are.1 other below
        ∙ ap Some (sym (count_push_other other journal entry (λ same. apart (sym same))))
  ],
)

pub journal_push : (plan : Plan) (at : ℕ) (journal : List Entry) (entry : Entry) → IsJournalOf plan at journal → IsAnswered plan at journal entry → entry.feeder < plan.feeders → IsJournalOf plan at (journal ++ entry ∷ [])
journal_push plan at journal entry of_shard answered feeder = record {
  legal = each_after_push (IsAnswered plan at) [] journal entry of_shard.legal answered;
  feeders = All-push (λ (e : Entry). e.feeder < plan.feeders) journal entry of_shard.feeders feeder;
}

-- the reply of a book is that of the register as the journal leaves it
pub answered_by : (plan : Plan) (shard : Shard) (entry : Entry) (book : BookModel) → IsShardOf plan shard → entry.register.0 % plan.shards ≡ shard.at → entry.register.0 < length plan.claims
    → book ≡ get_or shard.books.items (entry.register.0 / shard.shards) book → IsReply (claimed_of book) entry.edit entry.reply
    → IsAnswered plan shard.at shard.entries entry
answered_by plan shard entry book kept here known is reply =
    let has : HasBook plan shard entry.register.0 = has_book plan shard entry.register.0 kept here known in
    record {
      here = here;
      claim = has.claim;
      known = has.known;
      reply = subst (λ (held : RegisterState). IsReply held entry.edit entry.reply) (same_book plan shard entry.register.0 book has is) reply;
    }

pub count_of_feeder : (plan : Plan) (shard : Shard) (feeder count : ℕ) → IsShardOf plan shard → feeder < plan.feeders → count ≡ get_or shard.counts.items feeder count → count ≡ count_by feeder shard.entries
count_of_feeder plan shard feeder count kept below is = is ∙ get_or_from_slice_get shard.counts.items feeder (count_by feeder shard.entries) count (kept.counts.1 feeder below)

-- the shard with one more entry is one of the plan
pub kept_push : (plan : Plan) (old new : Shard) (entry : Entry) (book edited : BookModel) (count : ℕ) → IsShardOf plan old → entry.register.0 % plan.shards ≡ old.at → entry.register.0 < length plan.claims → entry.feeder < plan.feeders
    → book ≡ get_or old.books.items (entry.register.0 / old.shards) book → IsReply (claimed_of book) entry.edit entry.reply → count ≡ get_or old.counts.items entry.feeder count
    → new.at ≡ old.at → new.shards ≡ old.shards → new.entries ≡ old.entries ++ entry ∷ []
    → claimed_of edited ≡ after_edit (claimed_of book) entry.edit → new.books.items ≡ set old.books.items (entry.register.0 / old.shards) edited
    → new.counts.items ≡ set old.counts.items entry.feeder (count + 1)
    → AreVerdictChanges plan new.entries new.changes.items → new.many ≡ old.many + 1
    → new.keeps ≡ old.keeps → (IsTrue old.keeps → new.journal.items ≡ old.journal.items ++ entry ∷ [])
    → (NotesFeeders old → new.by.items ≡ old.by.items ++ entry.feeder ∷ [])
    → IsShardOf plan new
kept_push plan old new entry book edited count kept here known feeder is reply count_is at_is shards_is journal_is edited_to books_are counts_are changes many_is keeps_is kept_is by_is =
    let has : HasBook plan old entry.register.0 = has_book plan old entry.register.0 kept here known in
    let held : claimed_of book ≡ left_by old.entries entry.register.0 has.claim = same_book plan old entry.register.0 book has is in
    let answered : IsAnswered plan old.at old.entries entry = answered_by plan old entry book kept here known is reply in
    let edited_is : claimed_of edited ≡ after_edit (left_by old.entries entry.register.0 has.claim) entry.edit =
    edited_to ∙ ap (λ (b : RegisterState). after_edit b entry.edit) held in
    let books_set : map claimed_of new.books.items ≡ set (map claimed_of old.books.items) (entry.register.0 / plan.shards) (claimed_of edited) =
    ap (map claimed_of) (books_are ∙ ap (λ (many : ℕ). set old.books.items (entry.register.0 / many) edited) kept.shards) ∙ mapped_set claimed_of old.books.items (entry.register.0 / plan.shards) edited in
    let longer : List Entry = old.entries ++ entry ∷ [] in
    record {
      shards = shards_is ∙ kept.shards;
      here = subst (λ (at : ℕ). at < plan.shards) (sym at_is) kept.here;
      of_shard = subst (λ (at : ℕ). IsJournalOf plan at new.entries) (sym at_is) (subst (IsJournalOf plan old.at) (sym journal_is) (journal_push plan old.at old.entries entry kept.of_shard answered feeder));
      books = subst (λ (at : ℕ). AreBooks plan at new.entries (map claimed_of new.books.items)) (sym at_is)
          (subst (λ (journal : List Entry). AreBooks plan old.at journal (map claimed_of new.books.items)) (sym journal_is)
          (subst (AreBooks plan old.at longer) (sym books_set)
          (books_push plan old.at old.entries (map claimed_of old.books.items) entry has.claim (claimed_of edited) kept.books kept.here here has.known
          (subst (λ (b : RegisterState). IsReply b entry.edit entry.reply) held reply) edited_is)));
      counts = subst (λ (journal : List Entry). AreEntryCounts plan journal new.counts.items) (sym journal_is)
          (subst (AreEntryCounts plan longer) (sym counts_are) (counts_push plan old.entries old.counts.items entry (count + 1) kept.counts feeder (ap (λ (n : ℕ). n + 1) (count_of_feeder plan old entry.feeder count kept feeder count_is))));
      changes = changes;
      many = many_is ∙ ap (λ (n : ℕ). n + 1) kept.many ∙ sym (ap length journal_is ∙ length_push old.entries entry);
      kept = kept_more old new entry kept.kept keeps_is journal_is kept_is;
      by = feeders_more old new entry kept.by keeps_is (ap length counts_are ∙ length-set old.counts.items entry.feeder (count + 1)) journal_is by_is;
    }

-- the answer from a book is that of the register as the journal leaves it
pub answer_by : (plan : Plan) (shard : Shard) (register : ℕ) (book : BookModel) (answer : Answer) → IsShardOf plan shard → register % plan.shards ≡ shard.at → register < length plan.claims
    → book ≡ get_or shard.books.items (register / shard.shards) book
    → IsTrue answer.holds ↔ Holds (claimed_of book) → answer.operations ≡ length book.ops → IfSome answer.witness (IsWitness book.claim book.ops) → IsNone answer.witness ↔ Holds (claimed_of book)
    → answer.fault ≡ option_map ids_of answer.witness → answer.number ≡ length shard.entries
    → IsStanding plan register shard.entries answer
answer_by plan shard register book answer kept here known is verdict operations witness none fault number =
    let has : HasBook plan shard register = has_book plan shard register kept here known in
    let held : claimed_of book ≡ left_by shard.entries register has.claim = same_book plan shard register book has is in
    record {
      claim = has.claim;
      known = has.known;
      verdict = subst (λ (b : RegisterState). IsTrue answer.holds ↔ Holds b) held verdict;
      operations = operations ∙ ap (λ (b : RegisterState). length b.ops) held;
      witness = subst (λ (b : RegisterState). IfSome answer.witness (IsWitness b.claim b.ops)) held witness;
      none = subst (λ (b : RegisterState). IsNone answer.witness ↔ Holds b) held none;
      fault = fault;
      number = number;
    }

-- a verdict on what a journal leaves of a register
pub holds_by : (plan : Plan) (journal : List Entry) (register : ℕ) (claim : ClaimModel) (left : RegisterState) (verdict : Bool) → slice_get plan.claims register ≡ Some claim → left ≡ left_by journal register claim
    → IsTrue verdict ↔ Holds left
    → IsTrue verdict ↔ HoldsAfter plan register journal
holds_by plan journal register claim left verdict known is holds =
    subst (λ (found : Option ClaimModel). IsTrue verdict ↔ IsSomeAnd found (λ terms. Holds (left_by journal register terms))) (sym known)
    (subst (λ (state : RegisterState). IsTrue verdict ↔ Holds state) is holds)
