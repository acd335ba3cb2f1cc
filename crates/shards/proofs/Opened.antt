-- The books of a shard before any edit.
use Rattle.std.proofs.Common.{◌≡◌, ℕ, zero, suc, ◌+◌, ◌*◌, ◌<◌, ◌≤◌, List, [], ◌∷◌, ◌++◌, length, replicate, Option, Some, None, refl, sym, ap, subst, ◌∙◌, inl, inr, arith}
use Rattle.std.specs.Prelude.{map, option_map, option_to_list}
use Rattle.std.specs.List.{slice_get}
use Rattle.std.proofs.lemmas.Bool.{cases_lt}
use Rattle.std.proofs.lemmas.List.{length_push, length-replicate, get_or-replicate}
use Rattle.std.proofs.lemmas.List.Elements.{All-nil}
use Rattle.std.proofs.lemmas.Nat.{mul-le}
use Rattle.std.proofs.lemmas.Option.{none-some, slice_get_past, slice_get-get_or}
use Rattle.intervals.specs.Terms.{ClaimModel, RegisterState, unedited}
use Rattle.register_book.specs.BookModel.{claimed_of}
use Rattle.shards.specs.declared.entry.Entry.{Entry}
use Rattle.shards.specs.declared.shard.Shard.{Shard}
use Rattle.shards.specs.Plan.{Plan}
use Rattle.shards.specs.Journal.{IsJournalOf}
use Rattle.shards.specs.VerdictChange.{AreVerdictChanges, no_entries}
use Rattle.shards.specs.Shard.{AreBooks, AreEntryCounts, IsShardOf}
use Rattle.shards.proofs.Slots.{get_push_below, get_push_at}

-- each book so far is that of its register without operations
abbrev pub AreOpened : List ClaimModel → ℕ → ℕ → List RegisterState → Type 0
AreOpened claims shards at books = (slot : ℕ) → slot < length books → slice_get books slot ≡ option_map unedited (slice_get claims (slot * shards + at))

none_past : {X : Type 0} (xs : List X) (i : ℕ) → slice_get xs i ≡ None → length xs ≤ i
none_past [] i none = omega arith
none_past (x ∷ xs) zero none = absurd (none-some x (sym none))
none_past (x ∷ xs) (suc i) none = omega (arith, none_past xs i none)

-- the books so far are opened, and the next register is that of the next book
pub record AreOpenedTo (claims : List ClaimModel) (shards at register : ℕ) (books : List RegisterState) : Type 0 where
  pub next : register ≡ length books * shards + at
  pub books_are : AreOpened claims shards at books

pub none_opened : (claims : List ClaimModel) (shards at : ℕ) (books : List RegisterState) → books ≡ [] → AreOpenedTo claims shards at at books
none_opened claims shards at books none = subst (AreOpenedTo claims shards at at) (sym none) (record { next = omega arith; books_are = λ slot below. absurd (omega arith) })

opened_push : (claims : List ClaimModel) (shards at register : ℕ) (books : List RegisterState) (claim : Option ClaimModel) → slice_get claims register ≡ claim → register < length claims → AreOpenedTo claims shards at register books
    → AreOpenedTo claims shards at (register + shards) (books ++ option_to_list (option_map unedited claim))
opened_push claims shards at register books None is within are = absurd (omega (arith, within, none_past claims register is))
opened_push claims shards at register books (Some claim) is within are = record {
  next = rw (length_push books (unedited claim)) (omega (arith, are.next));
  books_are = λ slot below. elim (cases_lt slot (length books)) [
    | inl earlier ↦ get_push_below books (unedited claim) slot earlier ∙ are.books_are slot earlier
    | inr later ↦
        let last : slot ≡ length books = omega (arith, below, length_push books (unedited claim)) in
        ap (slice_get (books ++ unedited claim ∷ [])) last
        ∙ get_push_at books (unedited claim)
        ∙ ap (option_map unedited) (sym is ∙ ap (slice_get claims) (are.next ∙ ap (λ (k : ℕ). k * shards + at) (sym last)))
  ];
}

pub one_opened : (claims : List ClaimModel) (shards at register : ℕ) (books more : List RegisterState) → register < length claims → more ≡ books ++ option_to_list (option_map unedited (slice_get claims register)) → AreOpenedTo claims shards at register books
    → AreOpenedTo claims shards at (register + shards) more
one_opened claims shards at register books more within is are = subst (AreOpenedTo claims shards at (register + shards)) (sym is) (opened_push claims shards at register books (slice_get claims register) refl within are)

-- after the last register each register of the shard has its book
pub all_opened : (plan : Plan) (at register : ℕ) (books : List RegisterState) → AreOpenedTo plan.claims plan.shards at register books → length plan.claims ≤ register → AreBooks plan at [] books
all_opened plan at register books are past slot = elim (cases_lt slot (length books)) [
  | inl below ↦ are.books_are slot below
  | inr beyond ↦
      slice_get_past books slot beyond
      ∙ sym (ap (option_map unedited) (slice_get_past plan.claims (slot * plan.shards + at) (omega (arith, past, are.next, mul-le (length books) plan.shards slot plan.shards beyond (omega arith)))))
]

get_replicate : (n i x : ℕ) → i < n → slice_get (replicate n x) i ≡ Some x
get_replicate n i x below = slice_get-get_or (replicate n x) i x (omega (arith, below, length-replicate n x)) ∙ ap Some (get_or-replicate n i x x below)

-- a shard with these books, no entries and counts of 0 is one of the plan
pub opened : (plan : Plan) (shard : Shard) → shard.shards ≡ plan.shards → shard.at < plan.shards → shard.entries ≡ [] → shard.many ≡ 0 → shard.journal.items ≡ [] → shard.by.items ≡ [] → AreBooks plan shard.at [] (map claimed_of shard.books.items) → shard.counts.items ≡ replicate plan.feeders 0 → shard.changes.items ≡ [] → IsShardOf plan shard
opened plan shard shards here empty none unkept unnoted books counts unchanged = record {
  shards = shards;
  here = here;
  many = none ∙ sym (ap length empty);
  kept = λ keeps. unkept ∙ sym empty;
  by = λ notes. unnoted ∙ sym (ap (map (λ (entry : Entry). entry.feeder)) empty);
  of_shard = subst (IsJournalOf plan shard.at) (sym empty) (record { legal = tt; feeders = All-nil (λ (entry : Entry). entry.feeder < plan.feeders) });
  books = subst (λ (journal : List Entry). AreBooks plan shard.at journal (map claimed_of shard.books.items)) (sym empty) books;
  counts = subst (λ (journal : List Entry). AreEntryCounts plan journal shard.counts.items) (sym empty)
      (subst (AreEntryCounts plan []) (sym counts) (length-replicate plan.feeders 0, λ feeder below. get_replicate plan.feeders feeder 0 below));
  changes = subst (λ (journal : List Entry). AreVerdictChanges plan journal shard.changes.items) (sym empty) (subst (AreVerdictChanges plan []) (sym unchanged) no_entries);
}
