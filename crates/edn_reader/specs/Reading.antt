-- The model of a reader.
use Rattle.std.specs.Prelude.{ℕ, List, Option}
use Rattle.edn_reader.specs.declared.fault.EdnFault.{EdnFault}

-- a reader: its input, the place after the last element given, and the fault that was met, or none
pub record ReaderModel : Type 0 where
  pub input : List ℕ
  pub at : ℕ
  pub fault : Option EdnFault
