-- What the records of a run say in words: the text of its report, by the records alone.
use Rattle.std.specs.Prelude.{ℕ, Bool, false, List, [], ◌∷◌, ◌++◌, ◌&&◌, ◌||◌, codes, flat_map, unwrap_or, if◌then◌else◌}
use Rattle.std.specs.List.{slice_get}
use Rattle.std.specs.Str.{bytes_eq}
use Rattle.phrases.specs.Names.{place_text, printed, verdict_word}
use Rattle.report.specs.Section.{part_line}
use Rattle.records.specs.Symbol.{Symbol, key, word, text, place, number, flag, nothing}

-- the symbols after the first key of this name; none where there is no such key
abbrev pub after : List ℕ → List Symbol → List Symbol
after name [] = []
after name (key found ∷ symbols) = if bytes_eq found name then symbols else after name symbols
after name (symbol ∷ symbols) = after name symbols

-- the first of some symbols; nothing where there are none
abbrev pub first_symbol : List Symbol → Symbol
first_symbol symbols = unwrap_or (slice_get symbols 0) nothing

-- the value of the field of this name, or how it begins: the symbol after its key; nothing where there is no such field
abbrev pub field : List ℕ → List Symbol → Symbol
field name symbols = first_symbol (after name symbols)

-- a value as it is printed: of a flag, whether a register holds
abbrev pub told_value : Symbol → List ℕ
told_value (word name) = name
told_value (text bytes) = printed bytes
told_value (place feeder event) = place_text feeder event
told_value (number digits) = digits
told_value (flag holds) = verdict_word holds
told_value symbol = []

-- the value of the field of this name, as it is printed
abbrev pub told_field : List ℕ → List Symbol → List ℕ
told_field name symbols = told_value (field name symbols)

-- the symbol is this word
abbrev pub is_this_word : List ℕ → Symbol → Bool
is_this_word name (word found) = bytes_eq found name
is_this_word name symbol = false

-- the field of this name has this word
abbrev pub has_word : List ℕ → List ℕ → List Symbol → Bool
has_word name value symbols = is_this_word value (field name symbols)

-- the record is of this: a register, a refusal, an answer, a break or an order
abbrev pub is_record_of : List ℕ → List Symbol → Bool
is_record_of type symbols = has_word (codes "t") type symbols

-- the symbol says that something is so
abbrev pub is_so : Symbol → Bool
is_so (flag b) = b
is_so symbol = false

-- the line of a register, by its record
abbrev pub told_verdict : List Symbol → List ℕ
told_verdict symbols =
    codes "register " ++ told_field (codes "name") symbols
    ++ codes " " ++ told_field (codes "kind") symbols
    ++ codes " " ++ told_field (codes "holds") symbols
    ++ codes " " ++ told_field (codes "operations") symbols ++ 10 ∷ []

-- the line of a wrong read, or of a read of a value that nothing wrote: these words, and the id of the read
abbrev pub told_read : List ℕ → List Symbol → List ℕ
told_read words fault = words ++ told_field (codes "read") fault ++ 10 ∷ []

-- the line of two reads of values that nothing wrote
abbrev pub told_split : List Symbol → List ℕ
told_split fault =
    codes "  unwritten " ++ told_field (codes "first") fault
    ++ codes " and " ++ told_field (codes "second") fault ++ 10 ∷ []

-- the line of a read that ended before the write of its value began
abbrev pub told_early : List Symbol → List ℕ
told_early fault =
    codes "  early " ++ told_field (codes "read") fault
    ++ codes " before " ++ told_field (codes "write") fault ++ 10 ∷ []

-- the line of a conflict
abbrev pub told_conflict : List Symbol → List ℕ
told_conflict fault =
    codes "  conflict " ++ told_field (codes "a") fault
    ++ codes " " ++ told_field (codes "b") fault
    ++ codes " " ++ told_field (codes "c") fault
    ++ codes " " ++ told_field (codes "d") fault ++ 10 ∷ []

-- the fault is of this kind
abbrev pub is_kind : List ℕ → List Symbol → Bool
is_kind kind fault = has_word (codes "kind") kind fault

-- the line of a fault, by its record; empty where there is none
abbrev pub told_fault : List Symbol → List ℕ
told_fault fault =
    if is_kind (codes "wrong") fault then told_read (codes "  wrong ") fault
    else if is_kind (codes "unwritten") fault then told_read (codes "  unwritten ") fault
    else if is_kind (codes "split") fault then told_split fault
    else if is_kind (codes "early") fault then told_early fault
    else if is_kind (codes "conflict") fault then told_conflict fault
    else []

-- the line of a text; empty where the symbol is no text
abbrev pub told_text : Symbol → List ℕ
told_text (text bytes) = part_line bytes
told_text symbol = []

-- the field of this name has a text of an operation: its invocation, its answer or its amendment
abbrev pub has_part : List ℕ → Bool
has_part name =
    bytes_eq name (codes "invocation") || bytes_eq name (codes "answer") || bytes_eq name (codes "amendment")

-- the lines of the texts of operations, by their records
abbrev pub told_parts : List Symbol → List ℕ
told_parts [] = []
told_parts (key name ∷ symbols) = (if has_part name then told_text (first_symbol symbols) else []) ++ told_parts symbols
told_parts (symbol ∷ symbols) = told_parts symbols

-- the lines of the fault of a register, by its record: the fault, and the texts of the operations that show it
abbrev pub told_witness : List Symbol → List ℕ
told_witness symbols =
    told_fault (after (codes "fault") symbols) ++ told_parts (after (codes "witness") symbols)

-- the lines of a register, by its record; empty where the record is of none
abbrev pub told_section : List Symbol → List ℕ
told_section symbols =
    if is_record_of (codes "register") symbols then told_verdict symbols ++ told_witness symbols else []

-- the record is of a register that is to blame
abbrev pub is_blamed : List Symbol → Bool
is_blamed symbols = is_record_of (codes "register") symbols && is_so (field (codes "culprit") symbols)

-- the line that names a culprit, by its record; empty where the record is of none
abbrev pub told_culprit : List Symbol → List ℕ
told_culprit symbols =
    if is_blamed symbols then codes "culprit " ++ told_field (codes "name") symbols ++ 10 ∷ [] else []

-- the line of a refusal
abbrev pub told_refusal : List Symbol → List ℕ
told_refusal symbols =
    codes "refused " ++ told_field (codes "id") symbols ++ codes " " ++ told_field (codes "code") symbols ++ 10 ∷ []

-- the line of an answer
abbrev pub told_answer : List Symbol → List ℕ
told_answer symbols =
    codes "answer " ++ told_field (codes "id") symbols
    ++ codes " " ++ told_field (codes "register") symbols
    ++ codes " " ++ told_field (codes "holds") symbols
    ++ codes " " ++ told_field (codes "operations") symbols ++ 10 ∷ []

-- the line that says where a trace broke
abbrev pub told_break : List Symbol → List ℕ
told_break symbols =
    codes "broken " ++ told_field (codes "trace") symbols
    ++ codes " " ++ told_field (codes "code") symbols
    ++ codes " at " ++ told_field (codes "byte") symbols ++ 10 ∷ []

-- the line of a refusal, an answer or a break, by its record; empty where the record is of none of these
abbrev pub told_note : List Symbol → List ℕ
told_note symbols =
    if is_record_of (codes "refused") symbols then told_refusal symbols
    else if is_record_of (codes "answer") symbols then told_answer symbols
    else if is_record_of (codes "broken") symbols then told_break symbols
    else []

-- an id of an order after a space, or that there is no order; empty for a bracket
abbrev pub told_id : Symbol → List ℕ
told_id (place feeder event) = codes " " ++ place_text feeder event
told_id nothing = codes " none"
told_id symbol = []

-- the ids of an order, by its record
abbrev pub told_ids : List Symbol → List ℕ
told_ids symbols = flat_map told_id (after (codes "ids") symbols)

-- the line of an order, by its record; empty where the record is of none
abbrev pub told_order : List Symbol → List ℕ
told_order symbols =
    if is_record_of (codes "order") symbols
    then codes "order " ++ told_field (codes "register") symbols ++ told_ids symbols ++ 10 ∷ []
    else []

-- the text of a report, by the records of its run alone
abbrev pub report_of : List (List Symbol) → List ℕ
report_of records =
    flat_map told_section records ++ flat_map told_culprit records
    ++ flat_map told_note records ++ flat_map told_order records
