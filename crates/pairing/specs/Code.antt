-- The codes of the pairing's faults, as users see them.
use Rattle.std.specs.Prelude.{ℕ, List, codes}
use Rattle.pairing.specs.declared.fault.PairFault.{PairFault}
use Rattle.pairing.specs.declared.fault.PairFault.TheVariants.{ProcessBusy, NoInvocation, AnswerMismatch, Memory}

-- the code of a fault of the pairing, as it is printed: P1 to P4
abbrev pub pair_fault_code : PairFault → List ℕ
pair_fault_code ProcessBusy = codes "P1"
pair_fault_code NoInvocation = codes "P2"
pair_fault_code AnswerMismatch = codes "P3"
pair_fault_code Memory = codes "P4"
