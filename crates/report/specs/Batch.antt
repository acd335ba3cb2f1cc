-- The lines of registers in batches, which are made side by side.
use Rattle.std.specs.Prelude.{◌≡◌, ◌+◌, ◌*◌, ℕ, List, [], ◌∷◌, drop, length, min, string_bytes, IfOk}
use Rattle.std.specs.declared.alloc.AllocError.{AllocError}
use Rattle.std.specs.declared.result.Result.{Result}
use Rattle.tower_file.specs.Contents.{TowerModel}
use Rattle.shards.specs.Closing.{ClosedShard}
use Rattle.report.specs.declared.batch.Batch.{Batch}
use Rattle.report.specs.Finding.{AreFailing}
use Rattle.report.specs.Section.{sections_text}

-- the lines of the registers numbered from `first` up to and without `last`, and which of these fail
pub record IsBatch (tower : TowerModel) (closed : List ClosedShard) (first last : ℕ) (batch : Batch) : Type 0 where
  pub failing : AreFailing closed first last batch.failing.items
  pub text_is : string_bytes batch.text ≡ sections_text (drop first tower.registers) failing.findings

-- the number of a batch's first register: 32 times the batch's number, at most the number of registers
abbrev pub first_register : ℕ → ℕ → ℕ
first_register many batch = min (batch * 32) many

-- the batch with this number: 32 registers, or those that are left
abbrev pub IsBatchOf : TowerModel → List ClosedShard → ℕ → Batch → Type 0
IsBatchOf tower closed number batch =
    IsBatch tower closed (first_register (length tower.registers) number) (first_register (length tower.registers) (number + 1)) batch

-- the batches from this number on; an error is one for which memory was refused
abbrev pub AreBatches : TowerModel → List ClosedShard → ℕ → List (Result Batch AllocError) → Type 0
AreBatches tower closed number [] = Unit {0}
AreBatches tower closed number (batch ∷ batches) = IfOk batch (IsBatchOf tower closed number) × AreBatches tower closed (number + 1) batches
