-- Values, moments, texts and holders in a record.
use Rattle.std.specs.Prelude.{ℕ, List, Option, Some, None, codes}
use Rattle.std.specs.Borrow.{Bor}
use Rattle.std.specs.Fmt.{decimal, signed_decimal}
use Rattle.intervals.specs.declared.claim.Holder.{Holder}
use Rattle.intervals.specs.declared.claim.Holder.TheVariants as holders
use Rattle.intervals.specs.declared.operation.Moment.{Moment}
use Rattle.intervals.specs.declared.operation.Value.{Value}
use Rattle.intervals.specs.declared.operation.Value.TheVariants.{Nil, Int}
use Rattle.records.specs.Symbol.{Symbol, nothing, number, place, text, word}

-- a register's value: an integer, or nothing for nil
abbrev pub value_symbol : Value → Symbol
value_symbol Nil = nothing
value_symbol (Int i) = number (signed_decimal i)

-- the moment at which an operation ended; nothing where it has no end
abbrev pub end_symbol : Option Moment → Symbol
end_symbol None = nothing
end_symbol (Some moment) = number (decimal moment.0)

-- an optional lent text; nothing where there is none
abbrev pub part_symbol : Option (Bor (List ℕ)) → Symbol
part_symbol None = nothing
part_symbol (Some part) = text part.now

-- what holds a value: the id of an operation, or the word `initial`
abbrev pub holder_symbol : Holder → Symbol
holder_symbol (holders.Op id) = place id.feeder id.event
holder_symbol holders.Initial = word (codes "initial")
