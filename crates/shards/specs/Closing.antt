-- What an auditor leaves when it is closed, and why it refuses to be closed.
use Rattle.std.specs.Prelude.{◌≡◌, ◌≢◌, ◌⊎◌, ◌<◌, ◌%◌, ◌/◌, ℕ, List, [], ◌++◌, length, Option, Some, option_map, unwrap_or, All, Any, Contains, EachIndex}
use Rattle.std.specs.List.{slice_get, AllPairs}
use Rattle.intervals.specs.Terms.{RegisterState}
use Rattle.shards.specs.declared.entry.VerdictChange.{VerdictChange}
use Rattle.shards.specs.declared.entry.Entry.{Entry}
use Rattle.shards.specs.declared.entry.NumberedEntry.{NumberedEntry}
use Rattle.shards.specs.declared.fault.ShardFault.{ShardFault}
use Rattle.shards.specs.declared.fault.ShardFault.TheVariants.{UnknownRegister, Memory, JournalBehind, PassMissing, Stranger, ForeignPass}
use Rattle.shards.specs.Plan.{Plan}
use Rattle.shards.specs.Journal.{left_by, IsJournalOf}
use Rattle.shards.specs.VerdictChange.{AreVerdictChanges}
use Rattle.shards.specs.Pass.{PassModel, IsPassOf, IsInKeeping, IsBehind, HasFarthest}
use Rattle.shards.specs.Merge.{IsMerge, IsStranger, numbered}

-- the model of a `ShardState`: the number of the shard, and its journal
pub record ShardModel : Type 0 where
  pub at : ℕ
  pub journal : List Entry

-- a closed shard: its journal, the books of its registers in the order of their numbers, and the changes of verdicts
-- by the entries of its journal
pub record ClosedShard : Type 0 where
  pub journal : List Entry
  pub books : List RegisterState
  pub changes : List VerdictChange

-- the journal of the closed shard of this number, empty where there is no such shard
abbrev pub journal_of : List ClosedShard → ℕ → List Entry
journal_of shards at = unwrap_or (option_map (λ shard. shard.journal) (slice_get shards at)) []

-- the changes of verdicts in the closed shard of this number, none where there is no such shard
abbrev pub changes_of : List ClosedShard → ℕ → List VerdictChange
changes_of shards at = unwrap_or (option_map (λ shard. shard.changes) (slice_get shards at)) []

-- the books in the closed shard of this number, none where there is no such shard
abbrev pub books_of : List ClosedShard → ℕ → List RegisterState
books_of shards at = unwrap_or (option_map (λ shard. shard.books) (slice_get shards at)) []

-- an optional book, that of register r: at slot r / n of shard r % n, n the number of shards
abbrev pub book_of : List ClosedShard → ℕ → Option RegisterState
book_of shards register = slice_get (books_of shards (register % length shards)) (register / length shards)

-- a journal of this shard that is a merge of what the passes submitted there, and has the farthest entry that each
-- pass knows there at its number
pub record IsSettledJournal (plan : Plan) (passes : List PassModel) (at : ℕ) (journal : List Entry) : Type 0 where
  pub of_shard : IsJournalOf plan at journal
  pub merge : IsMerge at passes journal
  pub farthest : All (λ pass. HasFarthest at pass journal) passes

-- each pass is of an auditor of the plan (`IsPassOf`), and no two are of one feeder
pub record AreItsPasses (plan : Plan) (passes : List PassModel) : Type 0 where
  pub each : All (IsPassOf plan) passes
  pub apart : AllPairs (λ a b. a.feeder ≢ b.feeder) passes

-- one of the passes is of this feeder
abbrev pub HasPassOf : List PassModel → ℕ → Type 0
HasPassOf passes feeder = Any (λ pass. pass.feeder ≡ feeder) passes

-- each feeder below this number has one of the passes
abbrev pub AreComplete : ℕ → List PassModel → Type 0
AreComplete feeders passes = (feeder : ℕ) → feeder < feeders → HasPassOf passes feeder

-- the passes are the plan's, one for each feeder; there are as many shards as the plan has, each with a settled
-- journal (`IsSettledJournal`) and the changes of verdicts by its entries; and the book of each register is what its
-- shard's journal leaves of it
pub record IsClosed (plan : Plan) (passes : List PassModel) (shards : List ClosedShard) : Type 0 where
  pub of_plan : AreItsPasses plan passes
  pub complete : AreComplete plan.feeders passes
  pub many : length shards ≡ plan.shards
  pub finished : EachIndex shards (λ at. IsSettledJournal plan passes at (journal_of shards at))
  pub changes : EachIndex shards (λ at. AreVerdictChanges plan (journal_of shards at) (changes_of shards at))
  pub books : (register : ℕ) → book_of shards register ≡ option_map (left_by (journal_of shards (register % plan.shards)) register) (slice_get plan.claims register)

-- the shards are closed (`IsClosed`) with these passes and some others, which are of the feeders that have none here
abbrev pub IsClosedWithSome : Plan → List PassModel → List ClosedShard → Type 0
IsClosedWithSome plan passes shards = (others : List PassModel) × IsClosed plan (passes ++ others) shards

-- the shard has the number of its place, and its journal is in keeping with each pass
pub record Fits (passes : List PassModel) (place : ℕ) (shard : ShardModel) : Type 0 where
  pub in_place : shard.at ≡ place
  pub keeping : All (λ pass. IsInKeeping place pass shard.journal) passes

-- why a shard does not fit its place, with two numbers: it has another number, 0 and 0; or its journal is not in
-- keeping with a pass, and is with those of lesser feeders: the number of `IsBehind` and the journal's length
abbrev pub IsUnfit : List PassModel → ℕ → ShardModel → ℕ → ℕ → Type 0
IsUnfit passes place shard seen found =
    ((shard.at ≢ place) × (seen ≡ 0) × (found ≡ 0))
    ⊎ ((shard.at ≡ place)
    × ((pass : PassModel) × Contains passes pass × IsBehind place pass shard.journal seen × (found ≡ length shard.journal)
    × All (λ other. other.feeder < pass.feeder → IsInKeeping place other shard.journal) passes))

-- no entry of the journal of this shard is a stranger to the passes (`IsStranger`)
abbrev pub HasNoStranger : List PassModel → ℕ → List Entry → Type 0
HasNoStranger passes at journal = All (λ known. ¬ IsStranger passes at known) (numbered 0 journal)

-- the stranger of least number in the journal of this shard (`IsStranger`)
abbrev pub IsFirstStranger : List PassModel → ℕ → List Entry → NumberedEntry → Type 0
IsFirstStranger passes at journal known =
    Contains (numbered 0 journal) known
    × IsStranger passes at known
    × All (λ other. other.number < known.number → ¬ IsStranger passes at other) (numbered 0 journal)

-- the least feeder, of those below a number, that has none of the passes
abbrev pub IsFirstMissing : ℕ → List PassModel → ℕ → Type 0
IsFirstMissing feeders passes feeder = (feeder < feeders) × (¬ HasPassOf passes feeder) × ((lesser : ℕ) → lesser < feeder → HasPassOf passes lesser)

-- the least shard that does not fit the passes, with the two numbers of `IsUnfit`
abbrev pub IsFirstUnfit : List PassModel → List ShardModel → ℕ → ℕ → ℕ → Type 0
IsFirstUnfit passes shards at seen found =
    ((shard : ShardModel) × (slice_get shards at ≡ Some shard) × IsUnfit passes at shard seen found)
    × ((lesser : ℕ) (shard : ShardModel) → lesser < at → slice_get shards lesser ≡ Some shard → Fits passes lesser shard)

-- each shard fits the passes at its place (`Fits`)
abbrev pub AreFit : List PassModel → List ShardModel → Type 0
AreFit passes shards = (place : ℕ) (shard : ShardModel) → slice_get shards place ≡ Some shard → Fits passes place shard

-- the least shard whose journal has a stranger, and the first stranger there
abbrev pub IsFirstWithStranger : List PassModel → List ShardModel → ℕ → NumberedEntry → Type 0
IsFirstWithStranger passes shards at known =
    ((shard : ShardModel) × (slice_get shards at ≡ Some shard) × IsFirstStranger passes at shard.journal known)
    × ((lesser : ℕ) (shard : ShardModel) → lesser < at → slice_get shards lesser ≡ Some shard → HasNoStranger passes lesser shard.journal)

-- the first fault of closing: S6, the passes are not the plan's; S4, a feeder below the number wanted has none; S3, a
-- shard does not fit the passes; S5, a journal has a stranger
abbrev pub IsClosingFault : Plan → ℕ → List PassModel → List ShardModel → ShardFault → Type 0
IsClosingFault plan wanted passes shards ForeignPass = ¬ AreItsPasses plan passes
IsClosingFault plan wanted passes shards (PassMissing feeder) = AreItsPasses plan passes × IsFirstMissing wanted passes feeder
IsClosingFault plan wanted passes shards (JournalBehind at seen found) = AreItsPasses plan passes × AreComplete wanted passes × IsFirstUnfit passes shards at seen found
IsClosingFault plan wanted passes shards (Stranger at feeder number) =
    AreItsPasses plan passes
    × AreComplete wanted passes
    × AreFit passes shards
    × ((known : NumberedEntry) × IsFirstWithStranger passes shards at known × (known.entry.feeder ≡ feeder) × (known.number ≡ number))
IsClosingFault plan wanted passes shards UnknownRegister = ⊥
IsClosingFault plan wanted passes shards Memory = ⊥

-- of some shards with journals of the plan, as many as it has, this is the first fault of closing (`IsClosingFault`)
pub record IsUnfinished (plan : Plan) (wanted : ℕ) (passes : List PassModel) (fault : ShardFault) : Type 0 where
  pub shards : List ShardModel
  pub many : length shards ≡ plan.shards
  pub of_plan : All (λ shard. (shard.at < plan.shards) × IsJournalOf plan shard.at shard.journal) shards
  pub fault_is : IsClosingFault plan wanted passes shards fault
