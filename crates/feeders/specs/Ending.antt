-- Why a feeder stops, and why a run ends without its logs and journals.
use Rattle.std.specs.Prelude.{◌≡◌, ◌⊎◌, ℕ, List}
use Rattle.shards.specs.declared.fault.ShardFault.{ShardFault}
use Rattle.shards.specs.declared.fault.ShardFault.TheVariants as shards
use Rattle.shards.specs.Plan.{Plan}
use Rattle.shards.specs.Pass.{PassModel}
use Rattle.shards.specs.Steps.{IsRefusal}
use Rattle.shards.specs.Closing.{IsUnfinished}
use Rattle.feeders.specs.declared.fault.RunFault.{RunFault}
use Rattle.feeders.specs.declared.fault.RunFault.TheVariants.{Memory, Shard}

-- a shard's fault as the fault of its run: `Memory` where the shard was out of memory, else `Shard` with it
abbrev pub ended_by : ShardFault → RunFault
ended_by shards.Memory = Memory
ended_by shards.UnknownRegister = Shard shards.UnknownRegister
ended_by (shards.JournalBehind shard seen found) = Shard (shards.JournalBehind shard seen found)
ended_by (shards.PassMissing feeder) = Shard (shards.PassMissing feeder)
ended_by (shards.Stranger shard feeder number) = Shard (shards.Stranger shard feeder number)
ended_by shards.ForeignPass = Shard shards.ForeignPass

-- an auditor of the plan refuses a call with this pass for this register (`IsRefusal`), and this is that fault
abbrev pub IsEndedBy : Plan → PassModel → ℕ → RunFault → Type 0
IsEndedBy plan pass register ended = (fault : ShardFault) × IsRefusal plan pass register fault × (ended ≡ ended_by fault)

-- an auditor of the plan cannot be closed with these passes, one for each feeder (`IsUnfinished`), and this is that fault
abbrev pub IsEndedAtClose : Plan → List PassModel → RunFault → Type 0
IsEndedAtClose plan passes ended = (fault : ShardFault) × IsUnfinished plan plan.feeders passes fault × (ended ≡ ended_by fault)

-- a feeder with this pass may stop with this fault: out of memory, or S3 as an auditor of the plan gives it for a register
-- (`IsRefusal`: a journal is not in keeping with this pass); with no other, as steps name registers of the tower
abbrev pub MayStop : Plan → PassModel → RunFault → Type 0
MayStop plan pass Memory = Unit {0}
MayStop plan pass (Shard shards.UnknownRegister) = ⊥
MayStop plan pass (Shard shards.Memory) = ⊥
MayStop plan pass (Shard (shards.JournalBehind shard seen found)) = (register : ℕ) × IsRefusal plan pass register (shards.JournalBehind shard seen found)
MayStop plan pass (Shard (shards.PassMissing feeder)) = ⊥
MayStop plan pass (Shard (shards.Stranger shard feeder number)) = ⊥
MayStop plan pass (Shard shards.ForeignPass) = ⊥

-- a run of the plan may end with this fault: out of memory; S3 where a feeder stops with it (`MayStop`) or the auditor
-- cannot be closed with the passes of the feeders; S5 where it cannot; with no other, as each feeder has its pass
abbrev pub MayEnd : Plan → RunFault → Type 0
MayEnd plan Memory = Unit {0}
MayEnd plan (Shard shards.UnknownRegister) = ⊥
MayEnd plan (Shard shards.Memory) = ⊥
MayEnd plan (Shard (shards.JournalBehind shard seen found)) =
    ((pass : PassModel) × MayStop plan pass (Shard (shards.JournalBehind shard seen found)))
    ⊎ ((passes : List PassModel) × IsUnfinished plan plan.feeders passes (shards.JournalBehind shard seen found))
MayEnd plan (Shard (shards.PassMissing feeder)) = ⊥
MayEnd plan (Shard (shards.Stranger shard feeder number)) = (passes : List PassModel) × IsUnfinished plan plan.feeders passes (shards.Stranger shard feeder number)
MayEnd plan (Shard shards.ForeignPass) = ⊥
