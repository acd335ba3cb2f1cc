-- The codes that users see for refused elements and for broken traces.
use Rattle.std.specs.Prelude.{ℕ, List, codes}
use Rattle.intervals.specs.Code.{refusal_code as code_of_refusal}
use Rattle.jepsen_form.specs.Code.{form_fault_code as code_of_form}
use Rattle.pairing.specs.Code.{pair_fault_code as code_of_pair}
use Rattle.logs.specs.declared.log.BreakCode.{BreakCode}
use Rattle.logs.specs.declared.log.BreakCode.TheVariants.{Truncated, StrayClose, WrongClose, TooDeep, OddMap, TagWithoutElement, ReadFailed, TooLong}
use Rattle.logs.specs.declared.log.Code.{Code}
use Rattle.logs.specs.declared.log.Code.TheVariants.{Form, Pair, Register}

-- the printed code of why an element was refused: F of its form, P of the pairing, X of its register
abbrev pub refused_code : Code → List ℕ
refused_code (Form fault) = code_of_form fault
refused_code (Pair fault) = code_of_pair fault
refused_code (Register refusal) = code_of_refusal refusal

-- the printed code of why a trace broke: E1 to E6 for a fault of its text, N1 or N2 where its reading broke off
abbrev pub break_code_of : BreakCode → List ℕ
break_code_of Truncated = codes "E1"
break_code_of StrayClose = codes "E2"
break_code_of WrongClose = codes "E3"
break_code_of TooDeep = codes "E4"
break_code_of OddMap = codes "E5"
break_code_of TagWithoutElement = codes "E6"
break_code_of ReadFailed = codes "N1"
break_code_of TooLong = codes "N2"
