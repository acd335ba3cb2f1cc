-- The tower file of the registers that traces name.
use Rattle.std.specs.Prelude.{ℕ, ℤ, pos, Bool, true, false, List, ◌++◌, Option, flat_map, codes, unwrap_or}
use Rattle.std.specs.Fmt.{signed_decimal}
use Rattle.intervals.specs.declared.claim.Initial.{Initial}
use Rattle.intervals.specs.declared.claim.Initial.TheVariants.{Known, Unknown}
use Rattle.intervals.specs.declared.claim.Kind.{Kind}
use Rattle.intervals.specs.declared.claim.Kind.TheVariants.{Safe, Regular, Atomic}
use Rattle.intervals.specs.declared.operation.Value.{Value}
use Rattle.intervals.specs.declared.operation.Value.TheVariants.{Nil, Int}
use Rattle.keys.specs.declared.file.NameClaim.{NameClaim}
use Rattle.keys.specs.Named.{NamedModel, NamesModel, registers_named}

-- the keyword of a kind
abbrev pub kind_keyword : Kind → List ℕ
kind_keyword Safe = codes ":safe"
kind_keyword Regular = codes ":regular"
kind_keyword Atomic = codes ":atomic"

-- a value, as it is written
abbrev pub value_written : Value → List ℕ
value_written Nil = codes "nil"
value_written (Int number) = signed_decimal number

-- an initial value, as it is written
abbrev pub initial_text : Initial → List ℕ
initial_text (Known value) = value_written value
initial_text Unknown = codes ":unknown"

-- the writers of a register, as they are written: any process, or the one that wrote first, process 0 where none did
abbrev pub writers_text : Bool → Option ℤ → List ℕ
writers_text true writer = codes ":any"
writers_text false writer = codes "[" ++ signed_decimal (unwrap_or writer (pos 0)) ++ codes "]"

-- the line of a register: its name as the traces have it, and what it claims
abbrev pub register_entry : NameClaim → NamedModel → List ℕ
register_entry claim named =
    codes "  {:name " ++ named.name ++ codes " :kind " ++ kind_keyword claim.kind ++ codes " :writers " ++ writers_text claim.any_writes named.writer
    ++ codes " :initial " ++ initial_text claim.initial ++ codes "}\n"

-- the tower file of what is named: one level, with the registers in their order, each of this claim
abbrev pub file_text : NameClaim → NamesModel → List ℕ
file_text claim named =
    codes "{:levels [{:name keys :registers [\n" ++ flat_map (register_entry claim) (registers_named named) ++ codes "]}]}\n"
