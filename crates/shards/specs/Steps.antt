-- What one call comes to: an edit that is entered in a journal, or a question that is answered from one.
use Rattle.std.specs.Prelude.{◌≡◌, ◌↔◌, ◌⊎◌, ◌%◌, ◌<◌, ◌≤◌, ◌-◌, ℕ, List, [], ◌∷◌, ◌++◌, length, Option, Some, option_map, IfSome, IsNone, IsTrue}
use Rattle.std.specs.List.{slice_get}
use Rattle.intervals.specs.declared.operation.RegId.{RegId}
use Rattle.intervals.specs.declared.edit.Edit.{Edit}
use Rattle.intervals.specs.Terms.{ClaimModel}
use Rattle.intervals.specs.Kind.{Holds}
use Rattle.register_book.specs.declared.reply.Reply.{Reply}
use Rattle.register_book.specs.Fault.{IsWitness, ids_of}
use Rattle.shards.specs.declared.entry.Answer.{Answer}
use Rattle.shards.specs.declared.entry.Entry.{Entry}
use Rattle.shards.specs.declared.entry.NumberedEntry.{NumberedEntry}
use Rattle.shards.specs.declared.entry.Receipt.{Receipt}
use Rattle.shards.specs.declared.fault.ShardFault.{ShardFault}
use Rattle.shards.specs.declared.fault.ShardFault.TheVariants.{UnknownRegister, Memory, JournalBehind, ForeignPass}
use Rattle.shards.specs.Plan.{Plan}
use Rattle.shards.specs.Journal.{left_by, IsJournalOf}
use Rattle.shards.specs.VerdictChange.{IsChangeIfAny}
use Rattle.shards.specs.Pass.{PassModel, IsPassOf, IsInKeeping, IsBehind, last_in, with_own, with_seen}

-- an entry by its parts: a feeder's edit of a register, with its reply
abbrev pub entry_of : ℕ → RegId → Edit → Reply → Entry
entry_of feeder register edit reply = record { feeder = feeder; register = register; edit = edit; reply = reply }

-- an entry with its number in a journal
abbrev pub numbered_entry : ℕ → Entry → NumberedEntry
numbered_entry number entry = record { number = number; entry = entry }

-- a pass after its edit was answered with a receipt: the entry is its last own one and the farthest known in the
-- receipt's shard
abbrev pub entered : PassModel → RegId → Edit → Receipt → PassModel
entered pass register edit receipt = with_own pass receipt.shard (numbered_entry receipt.number (entry_of pass.feeder register edit receipt.reply))

-- the last entry of a journal, with its number, or none
abbrev pub last_entry : List Entry → Option NumberedEntry
last_entry journal = option_map (numbered_entry (length journal - 1)) (last_in journal)

-- the answer is the verdict on the register as the journal leaves it, how many operations stand, why the register
-- fails where it does, and the journal's length
pub record IsStanding (plan : Plan) (register : ℕ) (journal : List Entry) (answer : Answer) : Type 0 where
  pub claim : ClaimModel
  pub known : slice_get plan.claims register ≡ Some claim
  pub verdict : IsTrue answer.holds ↔ Holds (left_by journal register claim)
  pub operations : answer.operations ≡ length (left_by journal register claim).ops
  pub witness : IfSome answer.witness (IsWitness (left_by journal register claim).claim (left_by journal register claim).ops)
  pub none : IsNone answer.witness ↔ Holds (left_by journal register claim)
  pub fault : answer.fault ≡ option_map ids_of answer.witness
  pub number : answer.number ≡ length journal

-- some journal of the register's shard has the edit with its reply as the last entry, at the receipt's number, and
-- without it is in keeping with the pass; the receipt has the change of the verdict by that entry, where it makes one;
-- pass and register are the plan's
pub record IsSubmitted (plan : Plan) (pass : PassModel) (register : RegId) (edit : Edit) (receipt : Receipt) : Type 0 where
  pub of_plan : IsPassOf plan pass
  pub known : register.0 < length plan.claims
  pub shard : receipt.shard ≡ register.0 % plan.shards
  pub before : List Entry
  pub of_shard : IsJournalOf plan receipt.shard (before ++ entry_of pass.feeder register edit receipt.reply ∷ [])
  pub number : receipt.number ≡ length before
  pub change : IsChangeIfAny plan before (entry_of pass.feeder register edit receipt.reply) receipt.change
  pub keeping : IsInKeeping receipt.shard pass before

-- some journal of the register's shard is in keeping with the pass, and this is the answer from it; afterwards the
-- pass has seen its last entry; the pass is the plan's
pub record IsLive (plan : Plan) (pass pass' : PassModel) (register : ℕ) (answer : Answer) : Type 0 where
  pub of_plan : IsPassOf plan pass
  pub journal : List Entry
  pub of_shard : IsJournalOf plan (register % plan.shards) journal
  pub keeping : IsInKeeping (register % plan.shards) pass journal
  pub standing : IsStanding plan register journal answer
  pub seen : pass' ≡ with_seen pass (register % plan.shards) (last_entry journal)

-- why a shard refuses a question: S3, its journal is not in keeping with the pass (`IsBehind`)
abbrev pub IsQuestionRefusal : ℕ → PassModel → List Entry → ShardFault → Type 0
IsQuestionRefusal at pass journal (JournalBehind shard seen found) = (shard ≡ at) × (found ≡ length journal) × IsBehind at pass journal seen
IsQuestionRefusal at pass journal fault = ⊥

-- why a shard refuses an edit: S2, out of memory where the journal is in keeping with the pass, else S3 as for a
-- question (`IsQuestionRefusal`)
abbrev pub IsStateRefusal : ℕ → PassModel → List Entry → ShardFault → Type 0
IsStateRefusal at pass journal Memory = IsInKeeping at pass journal
IsStateRefusal at pass journal fault = IsQuestionRefusal at pass journal fault

-- why an auditor refuses a call: S6, the pass is not the plan's; S1, no such register; S3, the lock guards another
-- shard (0, 0), or a journal there is not in keeping with the pass; S2, out of memory where one is
abbrev pub IsRefusal : Plan → PassModel → ℕ → ShardFault → Type 0
IsRefusal plan pass register ForeignPass = ¬ IsPassOf plan pass
IsRefusal plan pass register UnknownRegister = IsPassOf plan pass × (length plan.claims ≤ register)
IsRefusal plan pass register (JournalBehind shard seen found) =
    IsPassOf plan pass
    × (register < length plan.claims)
    × (shard ≡ register % plan.shards)
    × (((seen ≡ 0) × (found ≡ 0))
    ⊎ ((journal : List Entry) × IsJournalOf plan shard journal × (found ≡ length journal) × IsBehind shard pass journal seen))
IsRefusal plan pass register Memory =
    IsPassOf plan pass
    × (register < length plan.claims)
    × ((journal : List Entry) × IsJournalOf plan (register % plan.shards) journal × IsInKeeping (register % plan.shards) pass journal)
IsRefusal plan pass register fault = ⊥
