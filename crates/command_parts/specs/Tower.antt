-- The tower that is asked for, and the register that a name asks for.
use Rattle.std.specs.Prelude.{◌≡◌, ℕ, List, Option, Some, None, IfSome}
use Rattle.clap.specs.Words.{Text}
use Rattle.edn_reader.specs.declared.fault.EdnFault.{EdnFault}
use Rattle.intervals.specs.declared.claim.Initial.TheVariants.{Known}
use Rattle.intervals.specs.declared.claim.Kind.{Kind}
use Rattle.intervals.specs.declared.operation.RegId.{RegId}
use Rattle.intervals.specs.declared.operation.Value.TheVariants.{Nil}
use Rattle.tower_file.specs.Contents.{TowerModel, number_of}
use Rattle.tower_file.specs.Tower.{IsTowerOf}
use Rattle.keys.specs.declared.file.NameClaim.{NameClaim}
use Rattle.keys.specs.File.{file_text}
use Rattle.keys.specs.Named.{AreNamesAfter, NamesModel, no_names}
use Rattle.keys.specs.Tower.{tower_of_names}
use Rattle.words.specs.Words.{AskedTower, OfFile, OfTraces, is_atomic}
use Rattle.command_parts.specs.Files.{AreHeld}

-- the register is the one of the tower with this name, or none where no name is given
abbrev pub IsNamed : TowerModel → Option Text → Option RegId → Type 0
IsNamed tower None None = Unit {0}
IsNamed tower None (Some id) = ⊥
IsNamed tower (Some name) None = ⊥
IsNamed tower (Some name) (Some id) = number_of tower.registers name ≡ Some id

-- these bytes are the tower file of what is named, with this claim of each register, and they say this tower, which is that
-- of the names
pub record IsWrittenOf (claim : NameClaim) (named : NamesModel) (file : List ℕ) (tower : TowerModel) : Type 0 where
  pub file_is : file ≡ file_text claim named
  pub tower_is : tower ≡ tower_of_names claim named
  pub says : IsTowerOf file tower

-- these bytes are the tower file of what these traces name, with this claim of each register, and they say the tower of the
-- names; each trace has this first fault or none
pub record IsFileOfNames (claim : NameClaim) (traces : List (List ℕ)) (faults : List (Option EdnFault)) (file : List ℕ) : Type 0 where
  pub named : NamesModel
  pub are : AreNamesAfter no_names traces faults named
  pub tower : TowerModel
  pub written : IsWrittenOf claim named file tower

-- what each register claims that traces name, where it is of this kind: nil at first; any process writes an atomic one, and
-- one of another kind the process that writes it first
abbrev pub claim_each : Kind → NameClaim
claim_each kind = record { kind = kind; initial = Known Nil; any_writes = is_atomic kind }

-- the tower file of what these traces name, each register of this kind, is such a one
abbrev pub OfNames : Kind → List (List ℕ) → (List ℕ → Type 0) → Type 0
OfNames kind traces Is = (faults : List (Option EdnFault)) × (file : List ℕ) × IsFileOfNames (claim_each kind) traces faults file × Is file

-- the tower file that is asked for is such a one: the file of that name, where its bytes are known; or the one of what the
-- traces of these names name, where their bytes are known
abbrev pub OfTower : AskedTower → (Text → Option (List ℕ)) → List Text → (List ℕ → Type 0) → Type 0
OfTower (OfFile name) files names Is = IfSome (files name) Is
OfTower (OfTraces kind) files names Is = (traces : List (List ℕ)) → AreHeld files names traces → OfNames kind traces Is
