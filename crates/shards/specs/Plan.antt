-- What an auditor is opened for.
use Rattle.std.specs.Prelude.{ℕ, List, map}
use Rattle.intervals.specs.Terms.{ClaimModel}
use Rattle.tower_file.specs.Contents.{TowerModel}

-- an auditor's name, how many shards it has and how many feeders, and what each register claims, by number
pub record Plan : Type 0 where
  pub name : ℕ
  pub shards : ℕ
  pub feeders : ℕ
  pub claims : List ClaimModel

-- what the registers of a tower claim, by number
abbrev pub claims_of : TowerModel → List ClaimModel
claims_of tower = map (λ register. register.claim) tower.registers

-- the plan of an auditor for the registers of a tower: of this name, with this many shards and feeders
abbrev pub plan_of : ℕ → TowerModel → ℕ → ℕ → Plan
plan_of name tower shards feeders = record {
  name = name;
  shards = shards;
  feeders = feeders;
  claims = claims_of tower;
}
