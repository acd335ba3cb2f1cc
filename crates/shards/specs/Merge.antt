-- Journals as merges of what the feeders submitted.
use Rattle.std.specs.Prelude.{◌≡◌, ◌+◌, ℕ, Bool, List, [], ◌∷◌, map, filter, All, Any}
use Rattle.shards.specs.declared.entry.Entry.{Entry}
use Rattle.shards.specs.declared.entry.NumberedEntry.{NumberedEntry}
use Rattle.shards.specs.Plain.{plain_numbered}
use Rattle.shards.specs.Journal.{is_by}
use Rattle.shards.specs.Pass.{PassModel, own_entries}

-- the entries of a list with their numbers, counted up from a first one
abbrev pub numbered : ℕ → List Entry → List NumberedEntry
numbered number [] = []
numbered number (entry ∷ entries) = record { number = number; entry = entry } ∷ numbered (number + 1) entries

-- the test that a numbered entry is by this feeder
abbrev pub is_numbered_by : ℕ → NumberedEntry → Bool
is_numbered_by feeder known = is_by feeder known.entry

-- the entries of a journal that are by a feeder, with their numbers, in order
abbrev pub entries_of : ℕ → List Entry → List NumberedEntry
entries_of feeder journal = filter (is_numbered_by feeder) (numbered 0 journal)

-- the entries of each pass's feeder in a journal of this shard read as those that the pass submitted there, with the
-- numbers of their receipts, in order, each once; and every entry is by the feeder of one of the passes
pub record IsMerge (at : ℕ) (passes : List PassModel) (journal : List Entry) : Type 0 where
  pub of_each : All (λ pass. map plain_numbered (entries_of pass.feeder journal) ≡ map plain_numbered (own_entries pass at)) passes
  pub of_all : All (λ entry. Any (λ pass. pass.feeder ≡ entry.feeder) passes) journal

-- the pass submitted in this shard an entry of the same number that reads the same (`plain_numbered`)
abbrev pub SubmittedAt : PassModel → ℕ → NumberedEntry → Type 0
SubmittedAt pass at known = Any (λ own. plain_numbered own ≡ plain_numbered known) (own_entries pass at)

-- one of the passes is of the entry's feeder, and did not submit the entry in this shard at its number
abbrev pub IsStranger : List PassModel → ℕ → NumberedEntry → Type 0
IsStranger passes at known = Any (λ pass. (pass.feeder ≡ known.entry.feeder) × (¬ SubmittedAt pass at known)) passes
