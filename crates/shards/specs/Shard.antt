-- The fields of a shard, passes in step, and what closing has gone through; for private clauses alone.
use Rattle.std.specs.Prelude.{◌≡◌, ◌≢◌, ◌↔◌, ◌⊎◌, ◌<◌, ◌≤◌, ◌+◌, ◌*◌, ◌^◌, ℕ, Bool, false, List, [], ◌∷◌, length, Option, Some, option_map, map, unwrap_or, slice_index_or, All, IfSome, IsNone, IsSomeAnd, IsTrue}
use Rattle.std.specs.List.{AllByRecursion, AllWithin, slice_get}
use Rattle.intervals.specs.Terms.{RegisterState}
use Rattle.intervals.specs.declared.operation.RegId.{RegId}
use Rattle.intervals.specs.Kind.{Holds}
use Rattle.register_book.specs.BookModel.{BookModel, claimed_of}
use Rattle.shards.specs.declared.entry.VerdictChange.{VerdictChange}
use Rattle.shards.specs.declared.entry.Entry.{Entry}
use Rattle.shards.specs.declared.entry.NumberedEntry.{NumberedEntry}
use Rattle.shards.specs.declared.shard.Shard.{Shard}
use Rattle.shards.specs.Plan.{Plan}
use Rattle.shards.specs.Journal.{left_by, IsJournalOf, count_by}
use Rattle.shards.specs.VerdictChange.{AreVerdictChanges, IsFaultShown}
use Rattle.shards.specs.Plain.{plain_numbered}
use Rattle.shards.specs.Pass.{HasFarthest, PassModel, farthest_in, last_in, own_entries}
use Rattle.shards.specs.Merge.{SubmittedAt, entries_of, numbered}
use Rattle.shards.specs.Closing.{ShardModel, ClosedShard}

-- each book of a shard is what the journal leaves of its register: book k is that of register k · n + at, n the
-- number of shards
abbrev pub AreBooks : Plan → ℕ → List Entry → List RegisterState → Type 0
AreBooks plan at journal books =
    (slot : ℕ) → slice_get books slot ≡ option_map (left_by journal (slot * plan.shards + at)) (slice_get plan.claims (slot * plan.shards + at))

-- for each feeder of the plan, the count is how many entries of the journal are by it
abbrev pub AreEntryCounts : Plan → List Entry → List ℕ → Type 0
AreEntryCounts plan journal counts = (length counts ≡ plan.feeders) × ((feeder : ℕ) → feeder < plan.feeders → slice_get counts feeder ≡ Some (count_by feeder journal))

-- a journal that a shard keeps has its entries
abbrev pub IsKeptJournal : Shard → Type 0
IsKeptJournal shard = IsTrue shard.keeps → shard.journal.items ≡ shard.entries

-- a shard that keeps no journal and has several feeders
abbrev pub NotesFeeders : Shard → Type 0
NotesFeeders shard = (shard.keeps ≡ false) × (1 < length shard.counts.items)

-- a shard that keeps no journal and has several feeders has the feeder of each entry
abbrev pub HasFeeders : Shard → Type 0
HasFeeders shard = NotesFeeders shard → shard.by.items ≡ map (λ entry. entry.feeder) shard.entries

-- a shard of the plan: its entries are a journal of that shard, its books are what they leave, its counts are those of
-- the entries and of the entries by feeder, its changes are those by the entries, a journal that it keeps has them, and
-- where it keeps none it has the feeder of each, if there are several
pub record IsShardOf (plan : Plan) (shard : Shard) : Type 0 where
  pub shards : shard.shards ≡ plan.shards
  pub here : shard.at < plan.shards
  pub of_shard : IsJournalOf plan shard.at shard.entries
  pub many : shard.many ≡ length shard.entries
  pub books : AreBooks plan shard.at shard.entries (map claimed_of shard.books.items)
  pub counts : AreEntryCounts plan shard.entries shard.counts.items
  pub changes : AreVerdictChanges plan shard.entries shard.changes.items
  pub kept : IsKeptJournal shard
  pub by : HasFeeders shard

-- a shard of the plan that keeps its journal
pub record IsKeptShardOf (plan : Plan) (shard : Shard) : Type 0 where
  pub of_plan : IsShardOf plan shard
  pub keeps : IsTrue shard.keeps

-- what is known of a shard at the end: how many entries it has, that a journal that it keeps has them, that it has the
-- feeder of each where it keeps none and there are several feeders, and that all are by feeder 0 where there are not
pub record IsEndedShard (shard : Shard) : Type 0 where
  pub many : shard.many ≡ length shard.entries
  pub kept : IsKeptJournal shard
  pub by : HasFeeders shard
  pub alone : length shard.counts.items ≤ 1 → All (λ entry. entry.feeder ≡ 0) shard.entries

-- the entries of each shard
abbrev pub entries_of_each : List Shard → List (List Entry)
entries_of_each shards = map (λ shard. shard.entries) shards

-- the shards of a plan, each at the place of its number
pub record AreShardsAlone (plan : Plan) (shards : List Shard) : Type 0 where
  pub many : length shards ≡ plan.shards
  pub some : 0 < plan.shards
  pub few : plan.shards < 2 ^ 32
  pub each : (place : ℕ) (shard : Shard) → slice_get shards place ≡ Some shard → (shard.at ≡ place) × IsShardOf plan shard

-- the model of a shard under its lock: its number and its entries
abbrev pub held_of : Shard → ShardModel
held_of shard = record { at = shard.at; journal = shard.entries }

-- the model of a closed shard: its entries, the claim and the operations of each book, and the changes
abbrev pub ended_of : Shard → ClosedShard
ended_of shard = record { journal = shard.entries; books = map claimed_of shard.books.items; changes = shard.changes.items }

-- the change has this register and number and is to the verdict of a book, which is another than before, where the
-- last value says what it was
pub record IsVerdictChangeTo (book : BookModel) (register : RegId) (number : ℕ) (held : Bool) (change : VerdictChange) : Type 0 where
  pub number_is : change.number ≡ number
  pub register_is : change.register ≡ register
  pub differs : change.holds ≢ held
  pub kind : change.kind ≡ book.claim.kind
  pub verdict : IsTrue change.holds ↔ Holds (claimed_of book)
  pub operations : change.operations ≡ length book.ops
  pub fault : IsFaultShown (claimed_of book) change.fault change.values
  pub none : IsNone change.fault ↔ Holds (claimed_of book)

-- the numbers of the entries rise
abbrev pub Rises : List NumberedEntry → Type 0
Rises [] = Unit {0}
Rises (a ∷ rest) = AllByRecursion (λ b. a.number < b.number) rest × Rises rest

-- the farthest entry known is there, and has a greater number than the pass's own one or reads the same, with its
-- number
abbrev pub IsReached : Option NumberedEntry → NumberedEntry → Type 0
IsReached farthest own = IsSomeAnd farthest (λ known. (own.number < known.number) ⊎ (plain_numbered own ≡ plain_numbered known))

-- what a pass has of one shard: its own entries have rising numbers, and the farthest entry known reaches the last of
-- them (`IsReached`)
pub record IsInStep (farthest : Option NumberedEntry) (own : List NumberedEntry) : Type 0 where
  pub rises : Rises own
  pub reached : IfSome (last_in own) (IsReached farthest)

-- what a pass has of each shard, own entries and the farthest one, is in step (`IsInStep`)
pub record AreInStep (own : List (List NumberedEntry)) (farthest : List (Option NumberedEntry)) : Type 0 where
  pub many : length own ≡ length farthest
  pub each : (at : ℕ) → IsInStep (farthest_in farthest at) (unwrap_or (slice_get own at) [])

-- the entries before this place have numbers below this one
abbrev pub AreNumberedBelow : List NumberedEntry → ℕ → ℕ → Type 0
AreNumberedBelow own number place = AllWithin (λ known. known.number < number) own 0 place

-- the start of each pass's feeder is a place before which the entries that the pass submitted in this shard have
-- numbers below this one
abbrev pub AreStarts : List PassModel → ℕ → ℕ → List ℕ → Type 0
AreStarts passes at number starts = All (λ pass. AreNumberedBelow (own_entries pass at) number (slice_index_or starts pass.feeder 0)) passes

-- each pass of the entry's feeder submitted the entry in this shard at its number
abbrev pub IsOwned : List PassModel → ℕ → NumberedEntry → Type 0
IsOwned passes at known = All (λ pass. pass.feeder ≡ known.entry.feeder → SubmittedAt pass at known) passes

-- each entry of a journal of this shard was submitted there at its number by each pass of its feeder: none is a
-- stranger
abbrev pub AreOwned : List PassModel → ℕ → List Entry → Type 0
AreOwned passes at journal = All (IsOwned passes at) (numbered 0 journal)

-- a journal of this shard in which the entries of each pass's feeder read as those that the pass submitted there, and
-- which has the farthest entry that each pass knows there
pub record IsSettledFor (plan : Plan) (passes : List PassModel) (at : ℕ) (journal : List Entry) : Type 0 where
  pub of_shard : IsJournalOf plan at journal
  pub of_each : All (λ pass. map plain_numbered (entries_of pass.feeder journal) ≡ map plain_numbered (own_entries pass at)) passes
  pub farthest : All (λ pass. HasFarthest at pass journal) passes
