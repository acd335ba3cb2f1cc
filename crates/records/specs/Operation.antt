-- The record of an operation.
use Rattle.std.specs.Prelude.{ℕ, ℤ, Bool, List, Option, [], ◌∷◌, ◌++◌, codes, if◌then◌else◌}
use Rattle.std.specs.Fmt.{decimal, signed_decimal}
use Rattle.std.specs.Borrow.{Bor}
use Rattle.intervals.specs.declared.operation.Op.{Op}
use Rattle.intervals.specs.declared.operation.OpId.{OpId}
use Rattle.intervals.specs.Operation.{is_write, value_of}
use Rattle.places.specs.declared.location.Location.{Location}
use Rattle.places.specs.Spots.{PlacesModel, located}
use Rattle.records.specs.Spot.{spot_symbols}
use Rattle.records.specs.Symbol.{Symbol, begin_record, end_record, key, number, place, text, word}
use Rattle.records.specs.Value.{end_symbol, part_symbol, value_symbol}

-- what an operation does: read or write
abbrev pub act_word : Bool → List ℕ
act_word writes = if writes then codes "write" else codes "read"

-- the beginning of an operation's record, with its id
abbrev pub head_symbols : OpId → List Symbol
head_symbols id = begin_record ∷ key (codes "id") ∷ place id.feeder id.event ∷ []

-- the process of an operation in its record
abbrev pub process_symbols : ℤ → List Symbol
process_symbols process = key (codes "process") ∷ number (signed_decimal process) ∷ []

-- what an operation does in its record, and its value
abbrev pub act_symbols : Op → List Symbol
act_symbols op = key (codes "f") ∷ word (act_word (is_write op)) ∷ key (codes "value") ∷ value_symbol (value_of op.act) ∷ []

-- the moments of an operation in its record
abbrev pub moment_symbols : Op → List Symbol
moment_symbols op = key (codes "begin") ∷ number (decimal op.begin.0) ∷ key (codes "end") ∷ end_symbol op.end ∷ []

-- an optional text of this name in a record
abbrev pub part_symbols : List ℕ → Option (Bor (List ℕ)) → List Symbol
part_symbols name part = key name ∷ part_symbol part ∷ []

-- the texts of an operation in its record
abbrev pub text_symbols : Op → List Symbol
text_symbols op =
    (key (codes "invocation") ∷ text op.parts.invocation.now ∷ [])
    ++ part_symbols (codes "answer") op.parts.answer
    ++ part_symbols (codes "amendment") op.parts.amendment

-- where the invocation of an operation is
abbrev pub op_spot : PlacesModel → Op → Option Location
op_spot places op = located places op.id.feeder op.id.event

-- the record of an operation: its id, its process, what it does, its value, its moments, its texts, and where its
-- invocation is
unfoldable pub op_symbols : PlacesModel → Op → List Symbol
op_symbols places op =
    head_symbols op.id ++ process_symbols op.process ++ act_symbols op ++ moment_symbols op ++ text_symbols op
    ++ spot_symbols (op_spot places op) ++ end_record ∷ []
