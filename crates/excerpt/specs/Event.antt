-- The text of operations, as the events of a trace.
use Rattle.std.specs.Prelude.{ℕ, ℤ, List, [], ◌++◌, Option, Some, None, codes}
use Rattle.std.specs.Fmt.{decimal, signed_decimal}
use Rattle.intervals.specs.declared.claim.Kind.{Kind}
use Rattle.intervals.specs.declared.operation.Act.{Act}
use Rattle.intervals.specs.declared.operation.Act.TheVariants.{Read, Write}
use Rattle.intervals.specs.declared.operation.Moment.{Moment}
use Rattle.intervals.specs.declared.operation.Op.{Op}
use Rattle.intervals.specs.declared.operation.Value.{Value}
use Rattle.intervals.specs.declared.operation.Value.TheVariants.{Nil, Int}
use Rattle.intervals.specs.Operation.{value_of}
use Rattle.jepsen_form.specs.declared.item.MomentField.{MomentField}
use Rattle.jepsen_form.specs.declared.item.MomentField.TheVariants.{Index, Time}
use Rattle.phrases.specs.Names.{kind_word}

-- the keyword of what an operation does
abbrev pub act_keyword : Act → List ℕ
act_keyword (Read value) = codes ":read"
act_keyword (Write value) = codes ":write"

-- the keyword of the field that has the moments
abbrev pub moment_keyword : MomentField → List ℕ
moment_keyword Index = codes ":index"
moment_keyword Time = codes ":time"

-- a value, as it is written
abbrev pub written_value : Value → List ℕ
written_value Nil = codes "nil"
written_value (Int number) = signed_decimal number

-- the value of an invocation: what is to be written, and nil of a read
abbrev pub invoked_value : Act → Value
invoked_value (Read value) = Nil
invoked_value (Write value) = value

-- the field of an optional moment; nothing where there is none
abbrev pub moment_text : MomentField → Option ℕ → List ℕ
moment_text field None = []
moment_text field (Some moment) = codes " " ++ moment_keyword field ++ codes " " ++ decimal moment

-- an event on the register of this name
abbrev pub event_text : MomentField → List ℕ → ℤ → List ℕ → Act → Value → Option ℕ → List ℕ
event_text field name process kind act value moment =
    codes "{:process " ++ signed_decimal process ++ codes " :type " ++ kind ++ codes " :f " ++ act_keyword act ++ codes " :value ["
    ++ name ++ codes " " ++ written_value value ++ codes "]" ++ moment_text field moment ++ codes "}\n"

-- the last event of an operation: its answer, or that nobody knows how it went on
abbrev pub answer_text : MomentField → List ℕ → ℤ → Act → Option Moment → List ℕ
answer_text field name process act None = event_text field name process (codes ":info") act (invoked_value act) None
answer_text field name process act (Some end) = event_text field name process (codes ":ok") act (value_of act) (Some end.0)

-- the two events of an operation
abbrev pub operation_events : MomentField → List ℕ → Op → List ℕ
operation_events field name op =
    event_text field name op.process (codes ":invoke") op.act (invoked_value op.act) (Some op.begin.0) ++ answer_text field name op.process op.act op.end

-- the edit that claims this kind for the register of this name
abbrev pub claim_text : List ℕ → Kind → List ℕ
claim_text name kind = codes "{:edit :claim :register " ++ name ++ codes " :kind :" ++ kind_word kind ++ codes "}\n"
