-- The codes of an auditor's faults, as users see them.
use Rattle.std.specs.Prelude.{ℕ, List, codes}
use Rattle.shards.specs.declared.fault.ShardFault.{ShardFault}
use Rattle.shards.specs.declared.fault.ShardFault.TheVariants.{UnknownRegister, Memory, JournalBehind, PassMissing, Stranger, ForeignPass}

-- the code of a shard fault, as it is printed: S1 to S6
abbrev pub shard_fault_code : ShardFault → List ℕ
shard_fault_code UnknownRegister = codes "S1"
shard_fault_code Memory = codes "S2"
shard_fault_code (JournalBehind shard seen found) = codes "S3"
shard_fault_code (PassMissing feeder) = codes "S4"
shard_fault_code (Stranger shard feeder number) = codes "S5"
shard_fault_code ForeignPass = codes "S6"
