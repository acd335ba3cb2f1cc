-- The shards that an auditor leaves: closed, with the book of each register, or unfinished with a fault.
use Rattle.std.specs.Prelude.{◌≡◌, ◌<◌, ◌%◌, ◌/◌, ◌+◌, ◌*◌, ◌++◌, ℕ, List, [], length, map, slice_index_or, Option, Some, option_map, unwrap_or, All}
use Rattle.std.specs.List.{slice_get}
use Rattle.std.proofs.Common.{ap, subst, ◌∙◌, arith, inl, inr}
use Rattle.std.proofs.lemmas.List.{length-map}
use Rattle.std.proofs.lemmas.List.Elements.{All-map, All-weaker}
use Rattle.std.proofs.lemmas.Nat.{div-add-mod', mod_below}
use Rattle.std.proofs.lemmas.Option.{slice_get-map, slice_get_cases}
use Rattle.shards.specs.declared.fault.ShardFault.{ShardFault}
use Rattle.shards.specs.declared.shard.Shard.{Shard}
use Rattle.register_book.specs.BookModel.{claimed_of}
use Rattle.shards.specs.Plan.{Plan}
use Rattle.shards.specs.Journal.{IsJournalOf, left_by}
use Rattle.shards.specs.Pass.{PassModel}
use Rattle.shards.specs.Closing.{AreComplete, AreItsPasses, ShardModel, ClosedShard, IsClosed, IsClosedWithSome, IsClosingFault, IsSettledJournal, IsUnfinished, books_of, changes_of, journal_of}
use Rattle.shards.specs.Shard.{IsShardOf, IsSettledFor, ended_of, held_of}
use Rattle.shards.proofs.Others.{all_passes}

-- the element at a place of a list
record At {X : Type 0} (xs : List X) (place : ℕ) : Type 0 where
  one : X
  is : slice_get xs place ≡ Some one
  read : slice_index_or xs place one ≡ one

one_at : {X : Type 0} (xs : List X) (place : ℕ) → place < length xs → At xs place
one_at xs place within =
    elim (slice_get_cases xs place).1 as (λ _. At xs place) [
      | inl found ↦ record { one = found.0; is = found.2; read = found.3 }
      | inr past ↦ absurd (omega (arith, past.0))
    ]

ended_at : (shards : List Shard) (place : ℕ) (shard : Shard) → slice_get shards place ≡ Some shard → slice_get (map ended_of shards) place ≡ Some (ended_of shard)
ended_at shards place shard e = slice_get-map ended_of shards place ∙ ap (option_map ended_of) e

journal_at : (shards : List Shard) (place : ℕ) (shard : Shard) → slice_get shards place ≡ Some shard → journal_of (map ended_of shards) place ≡ shard.entries
journal_at shards place shard e = ap (λ (found : Option ClosedShard). unwrap_or (option_map (λ one. one.journal) found) []) (ended_at shards place shard e)

changes_at : (shards : List Shard) (place : ℕ) (shard : Shard) → slice_get shards place ≡ Some shard → changes_of (map ended_of shards) place ≡ shard.changes.items
changes_at shards place shard e = ap (λ (found : Option ClosedShard). unwrap_or (option_map (λ one. one.changes) found) []) (ended_at shards place shard e)

books_at : (shards : List Shard) (place : ℕ) (shard : Shard) → slice_get shards place ≡ Some shard → books_of (map ended_of shards) place ≡ map claimed_of shard.books.items
books_at shards place shard e = ap (λ (found : Option ClosedShard). unwrap_or (option_map (λ one. one.books) found) []) (ended_at shards place shard e)

-- the book of a register is at one slot of its shard
book_at : (plan : Plan) (shard : Shard) (register : ℕ) → IsShardOf plan shard → shard.at ≡ register % plan.shards
    → slice_get (map claimed_of shard.books.items) (register / plan.shards) ≡ option_map (left_by shard.entries register) (slice_get plan.claims register)
book_at plan shard register kept here =
    let number : (register / plan.shards) * plan.shards + shard.at ≡ register =
    ap (λ (at : ℕ). (register / plan.shards) * plan.shards + at) here ∙ div-add-mod' register plan.shards in
    kept.books (register / plan.shards)
    ∙ ap (λ (one : ℕ). option_map (left_by shard.entries one) (slice_get plan.claims one)) number

-- shards with settled journals for the passes of all feeders are closed
pub closed : (plan : Plan) (passes : List PassModel) (shards : List Shard) → length shards ≡ plan.shards → 0 < plan.shards → All (IsShardOf plan) shards
    → AreItsPasses plan passes × AreComplete plan.feeders passes
    → ((place : ℕ) (shard : ShardModel) → slice_get (map held_of shards) place ≡ Some shard → (shard.at ≡ place) × IsSettledJournal plan passes place shard.journal)
    → IsClosed plan passes (map ended_of shards)
closed plan passes shards many some kept whole finished =
    let many' : length (map ended_of shards) ≡ plan.shards = length-map shards ended_of ∙ many in
    let held : (place : ℕ) (there : At shards place) → (there.one.at ≡ place) × IsSettledJournal plan passes place there.one.entries =
    λ place there. finished place (held_of there.one) (slice_get-map held_of shards place ∙ ap (option_map held_of) there.is) in
    record {
      of_plan = whole.0;
      complete = whole.1;
      many = many';
      finished = λ place within.
          let there = one_at shards place (omega (arith, many, many')) in
          rw (journal_at shards place there.one there.is) ((held place there).1);
      changes = λ place within.
          let below : place < length shards = omega (arith, many, many') in
          let there = one_at shards place below in
          rw (journal_at shards place there.one there.is, changes_at shards place there.one there.is)
          ((subst (IsShardOf plan) there.read (kept place there.one below)).changes);
      books = λ register.
          let place = register % plan.shards in
          let within : place < length shards = omega (arith, many, mod_below register plan.shards some) in
          let there = one_at shards place within in
          rw (many', books_at shards place there.one there.is, journal_at shards place there.one there.is)
          (book_at plan there.one register (subst (IsShardOf plan) there.read (kept place there.one within)) ((held place there).0));
    }

-- shards that are settled for some passes are closed with them
pub closed_with_some : (plan : Plan) (passes : List PassModel) (shards : List Shard) → length shards ≡ plan.shards → 0 < plan.shards → All (IsShardOf plan) shards
    → AreItsPasses plan passes
    → ((place : ℕ) (shard : ShardModel) → slice_get (map held_of shards) place ≡ Some shard → (shard.at ≡ place) × IsSettledFor plan passes place shard.journal)
    → IsClosedWithSome plan passes (map ended_of shards)
closed_with_some plan passes shards many some kept its settled =
    let all = all_passes plan passes (map held_of shards) (length-map shards held_of ∙ many) its settled in
    (all.others, closed plan (passes ++ all.others) shards many some kept (all.its, all.complete) all.finished)

-- shards with a closing fault are unfinished with it
pub unfinished : (plan : Plan) (wanted : ℕ) (passes : List PassModel) (shards : List Shard) (fault : ShardFault) → length shards ≡ plan.shards → All (IsShardOf plan) shards
    → IsClosingFault plan wanted passes (map held_of shards) fault
    → IsUnfinished plan wanted passes fault
unfinished plan wanted passes shards fault many kept fault_is = record {
  shards = map held_of shards;
  many = length-map shards held_of ∙ many;
  of_plan = All-map (λ held. (held.at < plan.shards) × IsJournalOf plan held.at held.journal) held_of shards
      (All-weaker (IsShardOf plan) (λ shard. (shard.at < plan.shards) × IsJournalOf plan shard.at shard.entries) (λ shard is. (is.here, is.of_shard)) shards kept);
  fault_is = fault_is;
}
