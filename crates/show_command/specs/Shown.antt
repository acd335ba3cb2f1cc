-- What the command `show` did with traces, and its status.
use Rattle.std.specs.Prelude.{◌≡◌, ◌<◌, ℕ, List, [], ◌∷◌, length, map, Option, Some, None}
use Rattle.std.specs.Io.KnownBytes.{Appends}
use Rattle.intervals.specs.declared.operation.RegId.{RegId}
use Rattle.tower_file.specs.Contents.{TowerModel}
use Rattle.tower_file.specs.Tower.{IsTowerOf}
use Rattle.shards.specs.Closing.{ClosedShard}
use Rattle.logs.specs.declared.log.Log.{Log}
use Rattle.feeders.specs.Readers.{AreReadOf}
use Rattle.logs.specs.Run.{IsRun}
use Rattle.report.specs.Counts.{standing_in}
use Rattle.words.specs.Words.{AskedShow}
use Rattle.command_parts.specs.Tower.{IsNamed}
use Rattle.command_parts.specs.Status.{IsStatus}

-- what `show` did: the traces were fed to the registers of the file's tower, in one shard, as far as they were read;
-- a picture was written, and the status is that of the run
pub record IsShown (asked : AskedShow) (file : List ℕ) (traces : List (List ℕ)) (status : ℕ) (old new : Option (List ℕ)) : Type 0 where
  pub tower : TowerModel
  pub says : IsTowerOf file tower
  pub register : Option RegId
  pub named : IsNamed tower asked.register register
  pub closed : List ClosedShard
  pub logs : List Log
  pub read : List (List ℕ)
  pub are_read : AreReadOf (map (λ trace. Some trace) traces) logs read
  pub run : IsRun tower asked.moments 1 read closed logs
  pub text : List ℕ
  pub written : Appends old new text
  pub status_is : IsStatus tower closed logs asked.demand status

-- an operation of the register of this number stands
abbrev pub IsUsed : List ClosedShard → ℕ → Type 0
IsUsed closed number = 0 < standing_in closed number

-- the first register with an operation; where none has one, the first; none where there is no register
abbrev pub IsFirstUsed : TowerModel → List ClosedShard → Option RegId → Type 0
IsFirstUsed tower closed None = length tower.registers ≡ 0
IsFirstUsed tower closed (Some id) =
    (id.0 < length tower.registers) × ((k : ℕ) → k < id.0 → ¬ IsUsed closed k)
    × ((¬ IsUsed closed id.0) → (id.0 ≡ 0) × ((k : ℕ) → k < length tower.registers → ¬ IsUsed closed k))

-- the register that is drawn: the one that is named, else the first culprit, else the one of `IsFirstUsed`
abbrev pub IsDrawn : TowerModel → List ClosedShard → Option RegId → List RegId → Option RegId → Type 0
IsDrawn tower closed (Some id) blame result = result ≡ Some id
IsDrawn tower closed None (id ∷ blame) result = result ≡ Some id
IsDrawn tower closed None [] result = IsFirstUsed tower closed result
