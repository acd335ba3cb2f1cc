-- Shards that keep their journals, and those that have the feeders of their entries.
use Rattle.std.proofs.Common.{◌≡◌, ℕ, List, [], ◌∷◌, ◌++◌, length, map, sym, ap, ◌∙◌, arith}
use Rattle.std.specs.Prelude.{All, IsTrue}
use Rattle.std.proofs.lemmas.List.{map-append}
use Rattle.std.proofs.lemmas.List.Elements.{All-weaker}
use Rattle.shards.specs.declared.entry.Entry.{Entry}
use Rattle.shards.specs.declared.shard.Shard.{Shard}
use Rattle.shards.specs.Plan.{Plan}
use Rattle.shards.specs.Shard.{HasFeeders, IsKeptJournal, IsKeptShardOf, IsShardOf, NotesFeeders}

-- shards that keep their journals are of the plan
pub are_of_plan : (plan : Plan) (shards : List Shard) → All (IsKeptShardOf plan) shards → All (IsShardOf plan) shards
are_of_plan plan shards kept = All-weaker (IsKeptShardOf plan) (IsShardOf plan) (λ shard is. is.of_plan) shards kept

-- a journal that is kept has one more entry as the shard has
pub kept_more : (old new : Shard) (entry : Entry) → IsKeptJournal old → new.keeps ≡ old.keeps → new.entries ≡ old.entries ++ entry ∷ []
    → (IsTrue old.keeps → new.journal.items ≡ old.journal.items ++ entry ∷ []) → IsKeptJournal new
kept_more old new entry kept same entries_are journal_is keeps =
    let kept_before : IsTrue old.keeps = sym same ∙ keeps in
    journal_is kept_before ∙ ap (λ (journal : List Entry). journal ++ entry ∷ []) (kept kept_before) ∙ sym entries_are

-- the feeders that a shard has are one more as its entries are
pub feeders_more : (old new : Shard) (entry : Entry) → HasFeeders old → new.keeps ≡ old.keeps → length new.counts.items ≡ length old.counts.items → new.entries ≡ old.entries ++ entry ∷ []
    → (NotesFeeders old → new.by.items ≡ old.by.items ++ entry.feeder ∷ []) → HasFeeders new
feeders_more old new entry has same many entries_are by_is notes =
    let noted_before : NotesFeeders old = (sym same ∙ notes.0, omega (arith, notes.1, many)) in
    by_is noted_before
    ∙ ap (λ (feeders : List ℕ). feeders ++ entry.feeder ∷ []) (has noted_before)
    ∙ sym (ap (map (λ (one : Entry). one.feeder)) entries_are ∙ map-append (λ (one : Entry). one.feeder) old.entries (entry ∷ []))
