-- The first and the last record of a run, and the record of an order.
use Rattle.std.specs.Prelude.{ℕ, List, [], ◌∷◌, ◌++◌, Option, Some, None, codes, map}
use Rattle.intervals.specs.declared.operation.OpId.{OpId}
use Rattle.report.specs.declared.few.Least.{Least}
use Rattle.records.specs.declared.ends.Totals.{Totals}
use Rattle.records.specs.Field.{list_symbols, number_symbols, text_field, type_symbols, word_symbols}
use Rattle.records.specs.Symbol.{Symbol, begin_list, end_list, end_record, key, nothing, place, text}

-- the format of the records: its number, and the name of the program
unfoldable pub format_symbols : List Symbol
format_symbols = number_symbols (codes "format") 1 ++ text_field (codes "program") (codes "regaudit")

-- the name of the tower file; nothing where no tower file was named
abbrev pub file_symbol : Option (List ℕ) → Symbol
file_symbol None = nothing
file_symbol (Some name) = text name

-- the tower file, and how many registers the tower has
unfoldable pub tower_symbols : Option (List ℕ) → ℕ → List Symbol
tower_symbols tower registers = (key (codes "tower") ∷ file_symbol tower ∷ []) ++ number_symbols (codes "registers") registers

-- the names of the traces
unfoldable pub traces_symbols : List (List ℕ) → List Symbol
traces_symbols traces = list_symbols (codes "traces") ++ map text traces ++ end_list ∷ []

-- the first record: the format, the optional tower file with how many registers the tower has, the traces, and the field
-- of moments
unfoldable pub head_record : Option (List ℕ) → ℕ → List (List ℕ) → List ℕ → List Symbol
head_record tower registers traces moments =
    type_symbols (codes "head") ++ format_symbols ++ tower_symbols tower registers ++ traces_symbols traces
    ++ word_symbols (codes "moment") moments ++ end_record ∷ []

-- the ids of an order as a list; nothing where there is no order
abbrev pub ids_symbols : Option (List OpId) → List Symbol
ids_symbols None = nothing ∷ []
ids_symbols (Some ids) = (begin_list ∷ []) ++ map (λ id. place id.feeder id.event) ids ++ end_list ∷ []

-- the record of an order
unfoldable pub order_symbols : List ℕ → Option (List OpId) → List Symbol
order_symbols name ids = type_symbols (codes "order") ++ text_field (codes "register") name ++ key (codes "ids") ∷ [] ++ ids_symbols ids ++ end_record ∷ []

-- the status of a run, and how many registers there are, fail and are to blame
abbrev pub verdict_totals : ℕ → Totals → List Symbol
verdict_totals status totals =
    number_symbols (codes "status") status ++ number_symbols (codes "registers") totals.registers
    ++ number_symbols (codes "failing") totals.failing ++ number_symbols (codes "culprits") totals.culprits

-- how many operations stand, how many elements were refused, and how many traces broke
abbrev pub trace_totals : Totals → List Symbol
trace_totals totals =
    number_symbols (codes "operations") totals.operations ++ number_symbols (codes "refused") totals.refused ++ number_symbols (codes "broken") totals.broken

-- how many operations have to stand, at least: in all registers together, and in each
abbrev pub least_symbols : Least → List Symbol
least_symbols least = number_symbols (codes "least") least.all ++ number_symbols (codes "least_each") least.each

-- the last record
unfoldable pub end_of_records : ℕ → Totals → Least → List Symbol
end_of_records status totals least = type_symbols (codes "end") ++ verdict_totals status totals ++ trace_totals totals ++ least_symbols least ++ end_record ∷ []
