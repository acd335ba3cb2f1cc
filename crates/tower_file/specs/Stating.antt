-- The value, the initial value and the kind that an element states.
use Rattle.std.specs.Prelude.{Option, Some, None, codes, if◌then◌else◌}
use Rattle.std.specs.Option.{option_map}
use Rattle.intervals.specs.declared.operation.Value.{Value}
use Rattle.intervals.specs.declared.operation.Value.TheVariants.{Nil, Int}
use Rattle.edn_reader.specs.Grammar.{ElementModel}
use Rattle.intervals.specs.declared.claim.Initial.{Initial}
use Rattle.intervals.specs.declared.claim.Initial.TheVariants.{Known, Unknown}
use Rattle.intervals.specs.declared.claim.Kind.{Kind}
use Rattle.intervals.specs.declared.claim.Kind.TheVariants.{Safe, Regular, Atomic}
use Rattle.edn_reader.specs.Pairs.{is_nil, is_word}
use Rattle.edn_reader.specs.Integer.{int_of}

-- the value that an element states: nil, or an integer of 64 bits; none for another element (this project's profile)
abbrev pub stated_value : ElementModel → Option Value
stated_value piece = if is_nil piece then Some Nil else option_map Int (int_of piece)

-- the initial value that an element states: a value, or unknown for `:unknown`; none for another element
abbrev pub stated_initial : ElementModel → Option Initial
stated_initial piece = if is_word (codes ":unknown") piece then Some Unknown else option_map Known (stated_value piece)

-- the kind that an element names: `:safe`, `:regular` or `:atomic`; none for another element
abbrev pub stated_kind : ElementModel → Option Kind
stated_kind piece =
    if is_word (codes ":safe") piece then Some Safe
    else if is_word (codes ":regular") piece then Some Regular
    else if is_word (codes ":atomic") piece then Some Atomic
    else None
