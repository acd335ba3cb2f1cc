-- The state of a reader between two calls, for its invariant and for private clauses.
use Rattle.std.specs.Prelude.{◌≡◌, ◌≤◌, ◌⊎◌, ℕ, List, [], length, Option, None, IfSome}
use Rattle.edn_reader.specs.declared.fault.EdnFault.{EdnFault}
use Rattle.edn_reader.specs.declared.nesting.Open.{Open}
use Rattle.edn_reader.specs.Grammar.{ElementModel}
use Rattle.edn_reader.specs.Text.{IsFront}
use Rattle.edn_reader.specs.Fault.{FaultOf, IsMemory, MemoryOnlyThere, AreElementsBefore}

-- the reader is after whole elements; without a fault nothing is open; a fault that it met is E7, where memory may be
-- refused, or that of the input, with these elements before it
pub record IsReaderState (input : List ℕ) (at : ℕ) (opens : List Open) (fault : Option EdnFault) : Type 0 where
  pub within : at ≤ length input
  pub front : (pieces : List ElementModel) × IsFront input pieces at
  pub none_open : fault ≡ None → opens ≡ []
  pub met : IfSome fault (λ f. IsMemory f ⊎ (FaultOf input f × ((pieces : List ElementModel) → IsFront input pieces at → AreElementsBefore input pieces)))
  pub memory : IfSome fault (λ f. (pieces : List ElementModel) → IsFront input pieces at → MemoryOnlyThere input pieces f)
