-- Which registers are to blame.
use Rattle.std.specs.Prelude.{◌≡◌, ◌<◌, ◌+◌, ◌&&◌, ℕ, Bool, List, [], ◌∷◌, Some, All, AllPairs, Contains, IsSomeAnd, if◌then◌else◌}
use Rattle.std.specs.List.{list_all, slice_get}
use Rattle.intervals.specs.declared.operation.RegId.{RegId}
use Rattle.intervals.specs.Kind.{Holds}
use Rattle.tower_file.specs.Contents.{TowerModel, Register}
use Rattle.shards.specs.Closing.{ClosedShard, book_of}
use Rattle.report.specs.declared.finding.Finding.{Finding}
use Rattle.report.specs.Finding.{fails_of, fails_in, holds_in}

-- the register of this number holds, by the operations that stand when its auditor is closed
abbrev pub RegisterHolds : List ClosedShard → ℕ → Type 0
RegisterHolds closed number = IsSomeAnd (book_of closed number) Holds

-- the register of this number fails, by the operations that stand when its auditor is closed
abbrev pub Fails : List ClosedShard → ℕ → Type 0
Fails closed number = IsSomeAnd (book_of closed number) (λ held. ¬ Holds held)

-- a culprit: a register that fails while all its parts hold
pub record IsCulprit (tower : TowerModel) (closed : List ClosedShard) (number : ℕ) : Type 0 where
  pub register : Register
  pub is : slice_get tower.registers number ≡ Some register
  pub fails : Fails closed number
  pub parts : All (λ part. RegisterHolds closed part.0) register.parts

-- all culprits, by number
pub record AreCulprits (tower : TowerModel) (closed : List ClosedShard) (culprits : List RegId) : Type 0 where
  pub rise : AllPairs (λ a b. a.0 < b.0) culprits
  pub each : All (λ culprit. IsCulprit tower closed culprit.0) culprits
  pub all : (number : ℕ) → IsCulprit tower closed number → Contains culprits (record { 0 = number })

-- the test for `IsCulprit`, by the list of which registers fail
abbrev pub is_culprit : List Bool → ℕ → Register → Bool
is_culprit fails number register = fails_in fails number && list_all (λ part. holds_in fails part.0) register.parts

-- the culprits among registers, of which the first has this number; by the list of which registers fail
abbrev pub culprits_from : List Bool → ℕ → List Register → List RegId
culprits_from fails number [] = []
culprits_from fails number (register ∷ registers) =
    if is_culprit fails number register
    then record { 0 = number } ∷ culprits_from fails (number + 1) registers
    else culprits_from fails (number + 1) registers

-- the culprits of a tower, by what is found of its registers
abbrev pub culprits_of : TowerModel → List Finding → List RegId
culprits_of tower findings = culprits_from (fails_of findings) 0 tower.registers
