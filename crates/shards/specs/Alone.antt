-- What an auditor of one thread has: the journals of all shards, by number, and what its feeders submitted there.
use Rattle.std.specs.Prelude.{◌≡◌, ◌<◌, ◌≤◌, ◌%◌, ℕ, List, [], ◌∷◌, ◌++◌, length, map, slice_set, unwrap_or}
use Rattle.std.specs.List.{range_with_len, slice_get}
use Rattle.intervals.specs.declared.operation.RegId.{RegId}
use Rattle.intervals.specs.declared.edit.Edit.{Edit}
use Rattle.shards.specs.declared.entry.Entry.{Entry}
use Rattle.shards.specs.declared.entry.Receipt.{Receipt}
use Rattle.shards.specs.declared.fault.ShardFault.{ShardFault}
use Rattle.shards.specs.declared.fault.ShardFault.TheVariants.{UnknownRegister, Memory}
use Rattle.shards.specs.Plan.{Plan}
use Rattle.shards.specs.Journal.{IsAnswered, IsJournalOf}
use Rattle.shards.specs.VerdictChange.{IsChangeIfAny}
use Rattle.shards.specs.Pass.{PassModel}
use Rattle.shards.specs.Merge.{entries_of}
use Rattle.shards.specs.Steps.{entry_of, last_entry}

-- the journal of the shard of this number; empty where there is no such shard
abbrev pub journal_in : List (List Entry) → ℕ → List Entry
journal_in journals at = unwrap_or (slice_get journals at) []

-- the journals of a plan: a legal one of each shard, with entries by its feeders
pub record AreJournals (plan : Plan) (journals : List (List Entry)) : Type 0 where
  pub many : length journals ≡ plan.shards
  pub some : 0 < plan.shards
  pub each : (at : ℕ) → at < plan.shards → IsJournalOf plan at (journal_in journals at)

-- the edit of one of the plan's feeders was answered as the journal of the register's shard leaves the register, at the
-- number after all entries there; the receipt has the change of the verdict by that entry, where it makes one
pub record IsEnteredAlone (plan : Plan) (journals : List (List Entry)) (feeder : ℕ) (register : RegId) (edit : Edit) (receipt : Receipt) : Type 0 where
  pub known : feeder < plan.feeders
  pub shard : receipt.shard ≡ register.0 % plan.shards
  pub number : receipt.number ≡ length (journal_in journals receipt.shard)
  pub answered : IsAnswered plan receipt.shard (journal_in journals receipt.shard) (entry_of feeder register edit receipt.reply)
  pub change : IsChangeIfAny plan (journal_in journals receipt.shard) (entry_of feeder register edit receipt.reply) receipt.change

-- the journals after a feeder's edit was answered with a receipt: its entry is the last one of its shard, and nothing
-- else has changed
abbrev pub with_entry : List (List Entry) → ℕ → RegId → Edit → Receipt → List (List Entry)
with_entry journals feeder register edit receipt = slice_set journals receipt.shard (journal_in journals receipt.shard ++ entry_of feeder register edit receipt.reply ∷ [])

-- why an edit is refused: S1, no such register; S2, out of memory
abbrev pub IsRefusalAlone : Plan → ℕ → ShardFault → Type 0
IsRefusalAlone plan register UnknownRegister = length plan.claims ≤ register
IsRefusalAlone plan register Memory = register < length plan.claims
IsRefusalAlone plan register fault = ⊥

-- the pass that a feeder would have of an auditor with locks: its own entries are those of the journals that are by it,
-- and it has seen all
abbrev pub pass_alone : Plan → ℕ → List (List Entry) → PassModel
pass_alone plan feeder journals = record {
  feeder = feeder;
  own = map (entries_of feeder) journals;
  seen = record { auditor = plan.name; farthest = map last_entry journals };
}

-- those passes of all feeders of the plan, by number
abbrev pub passes_alone : Plan → List (List Entry) → List PassModel
passes_alone plan journals = map (λ feeder. pass_alone plan feeder journals) (range_with_len 0 plan.feeders)
