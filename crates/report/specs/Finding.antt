-- What is found of the registers of a tower when its auditor is closed.
use Rattle.std.specs.Prelude.{◌≡◌, ◌↔◌, ◌+◌, ℕ, Bool, false, List, [], ◌∷◌, length, Option, Some, None, map, not, is_some, IfSome, IsNone}
use Rattle.std.specs.Option.{option_map_or}
use Rattle.std.specs.List.{slice_get}
use Rattle.intervals.specs.Terms.{RegisterState}
use Rattle.intervals.specs.Kind.{Holds}
use Rattle.tower_file.specs.Contents.{TowerModel}
use Rattle.register_book.specs.Fault.{IsWitness}
use Rattle.shards.specs.Closing.{ClosedShard, book_of}
use Rattle.report.specs.declared.finding.Finding.{Finding}

-- the books are those of the tower's registers: one for each, and no others
abbrev pub IsOfTower : TowerModel → List ClosedShard → Type 0
IsOfTower tower closed = (number : ℕ) → is_some (book_of closed number) ≡ is_some (slice_get tower.registers number)

-- what is found of a register: the kind that it claims to be, how many operations stand, and its witness, none exactly
-- where it holds
pub record IsFinding (held : RegisterState) (finding : Finding) : Type 0 where
  pub kind : finding.kind ≡ held.claim.kind
  pub operations : finding.operations ≡ length held.ops
  pub witness : IfSome finding.witness (IsWitness held.claim held.ops)
  pub none : IsNone finding.witness ↔ Holds held

-- what is found of a register, by its book, which has to be there
abbrev pub IsFindingOf : Option RegisterState → Finding → Type 0
IsFindingOf None finding = ⊥
IsFindingOf (Some held) finding = IsFinding held finding

-- what is found of the registers from this number on
abbrev pub AreFindings : List ClosedShard → ℕ → List Finding → Type 0
AreFindings closed number [] = Unit {0}
AreFindings closed number (finding ∷ findings) = IsFindingOf (book_of closed number) finding × AreFindings closed (number + 1) findings

-- of each register whether it fails, by what is found of it
abbrev pub fails_of : List Finding → List Bool
fails_of findings = map (λ finding. is_some finding.witness) findings

-- the register of this number fails, by the list of which registers fail
abbrev pub fails_in : List Bool → ℕ → Bool
fails_in fails number = option_map_or (λ failed. failed) (slice_get fails number) false

-- the register of this number is there and holds, by the list of which registers fail
abbrev pub holds_in : List Bool → ℕ → Bool
holds_in fails number = option_map_or not (slice_get fails number) false

-- which of the registers fail that are numbered from `first` up to and without `last`
pub record AreFailing (closed : List ClosedShard) (first last : ℕ) (fails : List Bool) : Type 0 where
  pub findings : List Finding
  pub many : first + length findings ≡ last
  pub found : AreFindings closed first findings
  pub fails_are : fails ≡ fails_of findings
