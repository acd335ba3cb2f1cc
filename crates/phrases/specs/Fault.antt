-- What is printed of a fault: its word, and the ids of the operations that show it.
use Rattle.std.specs.Prelude.{ℕ, List, [], ◌∷◌, ◌++◌, codes}
use Rattle.intervals.specs.declared.claim.Holder.{Holder}
use Rattle.intervals.specs.declared.claim.Holder.TheVariants as holders
use Rattle.register_book.specs.declared.fault.Fault.{Fault}
use Rattle.register_book.specs.declared.fault.Fault.TheVariants as faults
use Rattle.phrases.specs.Names.{id_text}

-- what holds a value, as it is printed: the id of an operation, or `initial` for the register at first
abbrev pub holder_text : Holder → List ℕ
holder_text (holders.Op id) = id_text id
holder_text holders.Initial = codes "initial"

-- a fault as it is printed: its word, and the ids of the operations that show it
abbrev pub fault_text : Fault → List ℕ
fault_text (faults.Wrong read) = codes "wrong " ++ id_text read
fault_text (faults.Unwritten read) = codes "unwritten " ++ id_text read
fault_text (faults.Split first second) = codes "unwritten " ++ id_text first ++ codes " and " ++ id_text second
fault_text (faults.Early read write) = codes "early " ++ id_text read ++ codes " before " ++ id_text write
fault_text (faults.Crossing a b c d) =
    codes "conflict " ++ holder_text a ++ codes " " ++ holder_text b ++ codes " " ++ holder_text c ++ codes " " ++ holder_text d

-- the line of a fault
abbrev pub fault_line : Fault → List ℕ
fault_line fault = codes "  " ++ fault_text fault ++ 10 ∷ []
