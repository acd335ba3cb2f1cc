-- What a pairing knows of the items of a trace.
use Rattle.std.specs.Prelude.{◌≡◌, ◌≤◌, ℕ, ℤ, ◌==◌, List, Option, Some, None, All}
use Rattle.std.specs.Map.{lookup}
use Rattle.intervals.specs.declared.operation.RegId.{RegId}
use Rattle.pairing.specs.Accepted.{Placed, accepted, unanswered_of, register_of}
use Rattle.pairing.specs.Waiting.{Waiting, waits_at}

-- the model of a `Pairing`: its feeder, the place of the last item or none, the unanswered invocation of each
-- process, and the register of each accepted invocation beside its place
pub record PairingModel : Type 0 where
  pub feeder : ℕ
  pub last : Option ℕ
  pub unanswered : Waiting
  pub registers : List (ℕ × RegId)

-- the register in the row of this place, or none
abbrev pub register_at : List (ℕ × RegId) → ℕ → Option RegId
register_at registers place = lookup (λ other. other == place) registers

-- the last place is there, and this place is not after it
abbrev pub IsUpTo : Option ℕ → ℕ → Type 0
IsUpTo None place = ⊥
IsUpTo (Some last) place = place ≤ last

-- a pairing that was given these items: none has a place after its last one, and it knows the unanswered invocation
-- of each process and the register of each accepted invocation
pub record KnowsItems (known : PairingModel) (items : List Placed) : Type 0 where
  pub places : All (λ one. IsUpTo known.last one.place) items
  pub unanswered : (process : ℤ) → waits_at known.unanswered process ≡ unanswered_of (accepted items) process
  pub registers : (place : ℕ) → register_at known.registers place ≡ register_of (accepted items) place
