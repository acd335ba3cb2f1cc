-- A tower: registers on levels, each made of registers of lower levels (Lamport 1986).
use Rattle.std.specs.Prelude.{ℕ, List, [], ◌∷◌, Option, map, position}
use Rattle.std.specs.List.{All}
use Rattle.std.specs.Option.{option_map}
use Rattle.std.specs.Str.{bytes_eq}
use Rattle.intervals.specs.declared.operation.RegId.{RegId}
use Rattle.intervals.specs.Terms.{ClaimModel, IsKnownUnlessAtomic}

-- a register of a tower: its name, its claim, the number of its level, from 0, and the registers that it is made of
pub record Register : Type 0 where
  pub name : List ℕ
  pub claim : ClaimModel
  pub level : ℕ
  pub parts : List RegId

-- what a tower is seen as: the names of its levels, the lowest first, and its registers by number
pub record TowerModel : Type 0 where
  pub levels : List (List ℕ)
  pub registers : List Register

-- the tower without levels and registers
abbrev pub empty : TowerModel
empty = record { levels = []; registers = [] }

-- the tower of one register, with this name and claim, on one level, made of no others
abbrev pub alone : List ℕ → List ℕ → ClaimModel → TowerModel
alone level name claim = record {
  levels = level ∷ [];
  registers = record { name = name; claim = claim; level = 0; parts = [] } ∷ [];
}

-- the number of the first register that has this name, byte for byte, or none
abbrev pub number_of : List Register → List ℕ → Option RegId
number_of registers name = option_map (λ n. record { 0 = n }) (position (bytes_eq name) (map (λ register. register.name) registers))

-- each register that claims to be safe or regular claims a known initial value
abbrev pub AreKnownUnlessAtomic : List Register → Type 0
AreKnownUnlessAtomic registers = All (λ register. IsKnownUnlessAtomic register.claim) registers
