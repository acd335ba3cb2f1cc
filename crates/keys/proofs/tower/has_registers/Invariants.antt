-- the registers of the first numbers are those of the names
use Rattle.std.proofs.Common.{◌≡◌, ◌<◌, ℕ, Some}
use Rattle.std.specs.Prelude.{IsSomeAnd}
use Rattle.std.specs.List.{slice_get}
use Rattle.keys.specs.Named.{registers_named}
use Rattle.keys.specs.Tower.{register_of_named}
use Rattle.keys.proofs.tower.has_registers.Given as goal

abbrev pub invariant-loop-number : goal.invariant-loop-number
invariant-loop-number l = (n : ℕ) → n < l.number → IsSomeAnd (slice_get (registers_named l.named) n) (λ named. slice_get l.tower.registers n ≡ Some (register_of_named l.claim named))
