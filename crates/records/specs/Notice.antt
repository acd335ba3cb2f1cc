-- The record of what a watcher is told.
use Rattle.std.specs.Prelude.{ℕ, List, [], ◌∷◌, ◌++◌, Option, Some, None, codes}
use Rattle.tower_file.specs.Contents.{Register}
use Rattle.register_book.specs.declared.fault.Fault.{Fault}
use Rattle.shards.specs.declared.entry.VerdictChange.{VerdictChange}
use Rattle.logs.specs.declared.notice.Notice.{Notice}
use Rattle.logs.specs.declared.notice.Notice.TheVariants.{Changed, Refused, Broke, Ended}
use Rattle.phrases.specs.Names.{kind_word, register_name}
use Rattle.records.specs.Fault.{fault_head}
use Rattle.records.specs.Field.{flag_symbols, number_symbols, place_symbols, text_field, type_symbols, word_symbols}
use Rattle.records.specs.Log.{broken_symbols, refused_symbols}
use Rattle.records.specs.Register.{doubt_list}
use Rattle.records.specs.Symbol.{Symbol, end_list, end_record, key, nothing}

-- the record of a fault by its ids alone
abbrev pub fault_ids_symbols : Fault → List Symbol
fault_ids_symbols fault = fault_head fault ++ end_record ∷ []

-- a fault by its ids, or that there is none
abbrev pub optional_fault_symbols : Option Fault → List Symbol
optional_fault_symbols None = nothing ∷ []
optional_fault_symbols (Some fault) = fault_ids_symbols fault

-- a register as a change of its verdict left it: its name, its kind, whether it holds, and how many operations stand
unfoldable pub changed_symbols : List ℕ → VerdictChange → List Symbol
changed_symbols name change =
    text_field (codes "register") name ++ word_symbols (codes "kind") (kind_word change.kind)
    ++ flag_symbols (codes "holds") change.holds ++ number_symbols (codes "operations") change.operations

-- the fault of a register, or that it has none, under its name
unfoldable pub fault_field : Option Fault → List Symbol
fault_field fault = (key (codes "fault") ∷ []) ++ optional_fault_symbols fault

-- a change of a verdict, with which its record begins, with the place of the element that made it
unfoldable pub change_symbols : List ℕ → ℕ → ℕ → VerdictChange → List Symbol
change_symbols name feeder event change =
    type_symbols (codes "change") ++ place_symbols feeder event ++ changed_symbols name change ++ fault_field change.fault

-- what is in doubt of the register of a change, and the line of the element that made the change, with which its record
-- ends
unfoldable pub change_end : List (ℕ × ℕ) → List (ℕ × ℕ) → ℕ → List Symbol
change_end left_out rests_on line = doubt_list left_out rests_on ++ (end_list ∷ []) ++ number_symbols (codes "line") line ++ end_record ∷ []

-- the record of the end of a trace: its number, and how many elements it had
unfoldable pub ended_symbols : ℕ → ℕ → List Symbol
ended_symbols feeder elements =
    type_symbols (codes "ended") ++ number_symbols (codes "trace") feeder ++ number_symbols (codes "elements") elements ++ end_record ∷ []

-- the record of a notice; that of a change says how many elements of its register were left out so far, and those of them
-- on which its failure rests
abbrev pub notice_symbols : List Register → Notice → List (ℕ × ℕ) → List (ℕ × ℕ) → List Symbol
notice_symbols registers (Changed feeder event line change) left_out rests_on = change_symbols (register_name registers change.register) feeder event change ++ change_end left_out rests_on line
notice_symbols registers (Refused feeder event line refused) left_out rests_on = refused_symbols feeder event line refused.code
notice_symbols registers (Broke feeder broken line) left_out rests_on = broken_symbols feeder broken line
notice_symbols registers (Ended feeder elements) left_out rests_on = ended_symbols feeder elements
