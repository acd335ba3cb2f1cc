-- The records of the traces: refusals and answers, and where a trace broke.
use Rattle.std.specs.Prelude.{ℕ, Bool, List, [], ◌∷◌, ◌++◌, codes, flat_map, map}
use Rattle.intervals.specs.declared.claim.Holder.{Holder}
use Rattle.intervals.specs.declared.claim.Holder.TheVariants as holders
use Rattle.intervals.specs.declared.refusal.Refusal.{Refusal}
use Rattle.intervals.specs.declared.refusal.Refusal.TheVariants.{MomentTaken, WritesOverlap, ValueTaken, ClaimOverlap, ClaimRepeats}
use Rattle.logs.specs.Code.{break_code_of, refused_code}
use Rattle.logs.specs.declared.log.Broken.{Broken}
use Rattle.logs.specs.declared.log.Code.{Code}
use Rattle.logs.specs.declared.log.Code.TheVariants.{Form, Pair, Register}
use Rattle.records.specs.Field.{end_symbols, flag_symbols, list_symbols, number_symbols, place_symbols, text_field, type_symbols, word_symbols}
use Rattle.places.specs.Spots.{PlacesModel, line_of_byte, located}
use Rattle.records.specs.Spot.{holder_record, known_symbol, spot_symbols}
use Rattle.records.specs.Symbol.{Symbol, end_list, end_record, key}
use Rattle.records.specs.Value.{holder_symbol}

-- what a refused edit collides with: operations, or the register as it was at first
abbrev pub met_by_edit : Refusal → List Holder
met_by_edit (MomentTaken moment id) = holders.Op id ∷ []
met_by_edit (WritesOverlap id) = holders.Op id ∷ []
met_by_edit (ValueTaken holder) = holder ∷ []
met_by_edit (ClaimOverlap one other) = holders.Op one ∷ holders.Op other ∷ []
met_by_edit (ClaimRepeats id holder) = holders.Op id ∷ holder ∷ []
met_by_edit refusal = []

-- what a refused element collides with; nothing where it was refused by its form or by the pairing
abbrev pub met_by : Code → List Holder
met_by (Form fault) = []
met_by (Pair fault) = []
met_by (Register refusal) = met_by_edit refusal

-- a refusal, with which its record begins: its id, its code, and what the element collides with, in a list that is open
unfoldable pub refusal_symbols : ℕ → ℕ → Code → List Symbol
refusal_symbols feeder event code =
    type_symbols (codes "refused") ++ place_symbols feeder event ++ word_symbols (codes "code") (refused_code code)
    ++ list_symbols (codes "with") ++ map holder_symbol (met_by code)

-- the record of a refusal, with the line of the element
unfoldable pub refused_symbols : ℕ → ℕ → ℕ → Code → List Symbol
refused_symbols feeder event line code =
    refusal_symbols feeder event code ++ (end_list ∷ []) ++ number_symbols (codes "line") line ++ end_record ∷ []

-- where what a refused element collides with is: a record for each, in their order
abbrev pub met_places : PlacesModel → Code → List Symbol
met_places places code = flat_map (holder_record places) (met_by code)

-- where a refused element is, and what it collides with, with which its record ends
unfoldable pub refusal_end : PlacesModel → ℕ → ℕ → Code → List Symbol
refusal_end places feeder event code =
    spot_symbols (located places feeder event) ++ list_symbols (codes "with_places") ++ met_places places code ++ end_symbols

-- the record of a refusal, with where the element is, and what it collides with
unfoldable pub placed_refusal : PlacesModel → ℕ → ℕ → Code → List Symbol
placed_refusal places feeder event code =
    refusal_symbols feeder event code ++ (end_list ∷ []) ++ refusal_end places feeder event code

-- the answer to a question: the register, whether it holds, and how many operations stand
abbrev pub answer_fields : List ℕ → Bool → ℕ → List Symbol
answer_fields name holds operations =
    text_field (codes "register") name ++ flag_symbols (codes "holds") holds ++ number_symbols (codes "operations") operations

-- the record of an answer to a question, with where the question is
unfoldable pub answer_symbols : PlacesModel → ℕ → ℕ → List ℕ → Bool → ℕ → List Symbol
answer_symbols places feeder event name holds operations =
    type_symbols (codes "answer") ++ place_symbols feeder event ++ answer_fields name holds operations
    ++ spot_symbols (located places feeder event) ++ end_record ∷ []

-- a break, with which its record begins: the number of the trace, the code and the byte
unfoldable pub break_symbols : ℕ → Broken → List Symbol
break_symbols feeder broken =
    type_symbols (codes "broken") ++ number_symbols (codes "trace") feeder ++ word_symbols (codes "code") (break_code_of broken.code)
    ++ number_symbols (codes "byte") broken.place

-- the record of a break at this line
unfoldable pub broken_symbols : ℕ → Broken → ℕ → List Symbol
broken_symbols feeder broken line = break_symbols feeder broken ++ number_symbols (codes "line") line ++ end_record ∷ []

-- the record of a break, with the line of its byte, which may not be known
unfoldable pub placed_break : PlacesModel → ℕ → Broken → List Symbol
placed_break places feeder broken =
    break_symbols feeder broken ++ key (codes "line") ∷ known_symbol (line_of_byte places feeder broken.place) ∷ [] ++ end_record ∷ []
