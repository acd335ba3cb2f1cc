-- The records of a run determine the text of its report.
use Rattle.std.proofs.Common.{◌≡◌, ◌∙◌, ℕ, zero, suc, ◌+◌, Bool, true, false, List, [], ◌∷◌, ◌++◌, length, map, Option, Some, None, refl, sym, ap, arith, append_assoc}
use Rattle.std.proofs.lemmas.List.{append-nil}
use Rattle.std.proofs.lemmas.List.Concat.{flat_map-append}
use Rattle.std.specs.Prelude.{codes, flat_map, is_none, if◌then◌else◌}
use Rattle.std.specs.Borrow.{Bor}
use Rattle.std.specs.Fmt.{decimal}
use Rattle.std.specs.List.{slice_get}
use Rattle.std.specs.Option.{option_map_or}
use Rattle.intervals.specs.declared.claim.Holder.{Holder}
use Rattle.intervals.specs.declared.claim.Holder.TheVariants as holders
use Rattle.intervals.specs.declared.claim.Kind.{Kind}
use Rattle.intervals.specs.declared.operation.Moment.{Moment}
use Rattle.intervals.specs.declared.operation.Op.{Op}
use Rattle.intervals.specs.declared.operation.OpId.{OpId}
use Rattle.intervals.specs.declared.operation.RegId.{RegId}
use Rattle.intervals.specs.declared.operation.Value.{Value}
use Rattle.intervals.specs.declared.operation.Value.TheVariants.{Nil, Int}
use Rattle.intervals.specs.Operation.{value_of}
use Rattle.tower_file.specs.Contents.{Register, TowerModel}
use Rattle.shards.specs.Closing.{ClosedShard}
use Rattle.logs.specs.declared.log.Broken.{Broken}
use Rattle.logs.specs.declared.log.Code.{Code}
use Rattle.logs.specs.declared.log.LeftOut.{LeftOut}
use Rattle.logs.specs.declared.log.Line.{Line}
use Rattle.logs.specs.declared.log.Log.{Log}
use Rattle.logs.specs.declared.log.What.{What}
use Rattle.logs.specs.declared.log.What.TheVariants.{Refused, Answered}
use Rattle.register_book.specs.declared.fault.Fault.TheVariants as faults
use Rattle.register_book.specs.declared.fault.Witness.{Witness}
use Rattle.register_book.specs.declared.fault.Witness.TheVariants.{Wrong, Unwritten, Split, Early, Crossing}
use Rattle.register_book.specs.Fault.{ids_of, ops_in_roles, roles_of, side_holder}
use Rattle.report.specs.declared.few.Least.{Least}
use Rattle.report.specs.declared.doubt.Doubt.{Doubt}
use Rattle.report.specs.declared.finding.Finding.{Finding}
use Rattle.report.specs.Doubt.{left_out_at, rests_at}
use Rattle.report.specs.Culprit.{culprits_from, culprits_of, is_culprit}
use Rattle.report.specs.Finding.{fails_of}
use Rattle.report.specs.Listing.{level_name}
use Rattle.phrases.specs.Names.{id_text, place_text, printed, register_name, verdict_word}
use Rattle.report.specs.Notes.{broken_line, log_text, logs_text, note_line, what_line}
use Rattle.report.specs.Order.{ids_text, order_line}
use Rattle.report.specs.Report.{IsReport, culprit_line, report_text}
use Rattle.phrases.specs.Fault.{fault_line, holder_text}
use Rattle.report.specs.Section.{part_line, part_line_of, part_lines, section_text, sections_text, witness_text}
use Rattle.phrases.specs.Register.{register_line}
use Rattle.places.specs.declared.location.Location.{Location}
use Rattle.places.specs.Spots.{PlacesModel}
use Rattle.records.specs.declared.allowed.Allowed.{Allowed}
use Rattle.records.specs.declared.allowed.ValueSource.{ValueSource}
use Rattle.records.specs.declared.allowed.ValueSource.TheVariants as sources
use Rattle.records.specs.declared.ends.Totals.{Totals}
use Rattle.records.specs.Allowed.{allowed_symbols, source_spot, source_symbol}
use Rattle.records.specs.Ends.{end_of_records, head_record, order_symbols}
use Rattle.records.specs.Explained.{AreAllowed}
use Rattle.records.specs.Fault.{fault_symbols, side_value}
use Rattle.records.specs.Field.{end_symbols, flag_symbols, list_symbols, number_symbols, place_symbols, text_field, type_symbols, word_symbols}
use Rattle.records.specs.Log.{answer_symbols, break_symbols, placed_break, placed_refusal, refusal_symbols}
use Rattle.records.specs.Operation.{op_spot, op_symbols}
use Rattle.records.specs.Register.{doubt_list, doubt_symbols, register_symbols, witness_symbols}
use Rattle.records.specs.Run.{AreRecordsOfRun, RunNames, asked_records, broken_records, log_records, logs_records, records_of, register_record, line_record, registers_records, totals_of, what_record}
use Rattle.records.specs.Spot.{byte_symbol, line_symbol, spot_symbols}
use Rattle.records.specs.Symbol.{Symbol, begin_list, begin_record, end_list, end_record, key, nothing, number, place, text, word}
use Rattle.records.specs.Value.{end_symbol, holder_symbol, part_symbol, value_symbol}
use Rattle.records.specs.Told.{after, first_symbol, report_of, told_parts, told_text, told_culprit, told_fault, told_id, told_note, told_order, told_section, told_value}

-- values, moments and holders have no key and no text

after_value : (name : List ℕ) (value : Value) (symbols : List Symbol) → after name (value_symbol value ∷ symbols) ≡ after name symbols
after_value name Nil symbols = refl
after_value name (Int i) symbols = refl

after_source : (name : List ℕ) (source : ValueSource) (symbols : List Symbol) → after name (source_symbol source ∷ symbols) ≡ after name symbols
after_source name (sources.Write id) symbols = refl
after_source name sources.Initial symbols = refl
after_source name sources.Domain symbols = refl

parts_after_value : (value : Value) (symbols : List Symbol) → told_parts (value_symbol value ∷ symbols) ≡ told_parts symbols
parts_after_value Nil symbols = refl
parts_after_value (Int i) symbols = refl

parts_after_end : (end : Option Moment) (symbols : List Symbol) → told_parts (end_symbol end ∷ symbols) ≡ told_parts symbols
parts_after_end None symbols = refl
parts_after_end (Some moment) symbols = refl

parts_after_part : (part : Option (Bor (List ℕ))) (symbols : List Symbol) → told_parts (part_symbol part ∷ symbols) ≡ told_parts symbols
parts_after_part None symbols = refl
parts_after_part (Some part) symbols = refl

text_of_part : (part : Option (Bor (List ℕ))) → told_text (part_symbol part) ≡ part_line_of part
text_of_part None = refl
text_of_part (Some part) = refl

holder_told : (holder : Holder) → told_value (holder_symbol holder) ≡ holder_text holder
holder_told (holders.Op id) = refl
holder_told holders.Initial = refl

after_holder : (name : List ℕ) (holder : Holder) (symbols : List Symbol) → after name (holder_symbol holder ∷ symbols) ≡ after name symbols
after_holder name (holders.Op id) symbols = refl
after_holder name holders.Initial symbols = refl

-- lines and bytes have no text, and no key of the name of another field

parts_after_spot : (spot : Option Location) (symbols : List Symbol) → told_parts (key (codes "line") ∷ line_symbol spot ∷ key (codes "byte") ∷ byte_symbol spot ∷ symbols) ≡ told_parts symbols
parts_after_spot None symbols = refl
parts_after_spot (Some spot) symbols = refl

witness_after_spot : (spot : Option Location) (symbols : List Symbol) → after (codes "witness") (key (codes "line") ∷ line_symbol spot ∷ key (codes "byte") ∷ byte_symbol spot ∷ symbols) ≡ after (codes "witness") symbols
witness_after_spot None symbols = refl
witness_after_spot (Some spot) symbols = refl

-- the texts of operations

op_parts : (places : PlacesModel) (op : Op) (symbols : List Symbol) → told_parts (op_symbols places op ++ symbols) ≡ part_lines op ++ told_parts symbols
unfolding op_symbols spot_symbols
op_parts places op symbols =
    let end = end_record ∷ symbols in
    let spot = op_spot places op in
    let spots = key (codes "line") ∷ line_symbol spot ∷ key (codes "byte") ∷ byte_symbol spot ∷ end in
    let amendment = key (codes "amendment") ∷ part_symbol op.parts.amendment ∷ spots in
    let answer = key (codes "answer") ∷ part_symbol op.parts.answer ∷ amendment in
    let invocation = key (codes "invocation") ∷ text op.parts.invocation.now ∷ answer in
    let moments = key (codes "begin") ∷ number (decimal op.begin.0) ∷ key (codes "end") ∷ end_symbol op.end ∷ invocation in
    let first = part_line op.parts.invocation.now in
    let second = part_line_of op.parts.answer in
    let third = part_line_of op.parts.amendment in
    let of_third : told_parts amendment ≡ third ++ told_parts symbols =
    ap (λ (text : List ℕ). text ++ told_parts (part_symbol op.parts.amendment ∷ spots)) (text_of_part op.parts.amendment)
    ∙ ap (λ (text : List ℕ). third ++ text) (parts_after_part op.parts.amendment spots ∙ parts_after_spot spot end) in
    let of_second : told_parts answer ≡ second ++ (third ++ told_parts symbols) =
    ap (λ (text : List ℕ). text ++ told_parts (part_symbol op.parts.answer ∷ amendment)) (text_of_part op.parts.answer)
    ∙ ap (λ (text : List ℕ). second ++ text) (parts_after_part op.parts.answer amendment ∙ of_third) in
    parts_after_value (value_of op.act) moments
    ∙ parts_after_end op.end invocation
    ∙ ap (λ (text : List ℕ). first ++ text) of_second
    ∙ sym (append_assoc first second (third ++ told_parts symbols))
    ∙ sym (append_assoc (first ++ second) third (told_parts symbols))

ops_parts : (places : PlacesModel) (ops : List Op) (symbols : List Symbol) → told_parts (flat_map (op_symbols places) ops ++ symbols) ≡ flat_map part_lines ops ++ told_parts symbols
ops_parts places [] symbols = refl
ops_parts places (op ∷ ops) symbols =
    ap told_parts (append_assoc (op_symbols places op) (flat_map (op_symbols places) ops) symbols)
    ∙ op_parts places op (flat_map (op_symbols places) ops ++ symbols)
    ∙ ap (λ (lines : List ℕ). part_lines op ++ lines) (ops_parts places ops symbols)
    ∙ sym (append_assoc (part_lines op) (flat_map part_lines ops) (told_parts symbols))

-- the elements that were left out have no texts
no_parts : (elements : List (ℕ × ℕ)) → told_parts (map (λ at. place at.0 at.1) elements ++ end_list ∷ end_record ∷ []) ≡ []
no_parts [] = refl
no_parts (at ∷ elements) = no_parts elements

doubt_parts : (left_out rests_on : List (ℕ × ℕ)) → told_parts (doubt_symbols left_out rests_on) ≡ []
unfolding doubt_symbols doubt_list number_symbols list_symbols end_symbols
doubt_parts left_out rests_on = no_parts rests_on

shown_parts : (places : PlacesModel) (ops : List Op) (left_out rests_on : List (ℕ × ℕ)) → told_parts (flat_map (op_symbols places) ops ++ end_list ∷ doubt_symbols left_out rests_on) ≡ flat_map part_lines ops
shown_parts places ops left_out rests_on =
    ops_parts places ops (end_list ∷ doubt_symbols left_out rests_on)
    ∙ ap (λ (text : List ℕ). flat_map part_lines ops ++ text) (doubt_parts left_out rests_on) ∙ append-nil (flat_map part_lines ops)

-- the witness of a register

allowed_skipped : (places : PlacesModel) (allowed : List Allowed) (symbols : List Symbol) → after (codes "witness") (flat_map (allowed_symbols places) allowed ++ symbols) ≡ after (codes "witness") symbols
unfolding spot_symbols
allowed_skipped places [] symbols = refl
allowed_skipped places (one ∷ allowed) symbols =
    let rest = flat_map (allowed_symbols places) allowed ++ symbols in
    let spot = source_spot places one.source in
    let spots = key (codes "line") ∷ line_symbol spot ∷ key (codes "byte") ∷ byte_symbol spot ∷ end_record ∷ rest in
    after_value (codes "witness") one.value (key (codes "id") ∷ source_symbol one.source ∷ spots)
    ∙ after_source (codes "witness") one.source spots
    ∙ witness_after_spot spot (end_record ∷ rest)
    ∙ allowed_skipped places allowed symbols

fault_skipped : (places : PlacesModel) (allowed : List Allowed) (witness : Witness) (symbols : List Symbol) → after (codes "witness") (fault_symbols places allowed witness ++ symbols) ≡ after (codes "witness") symbols
unfolding end_symbols list_symbols
fault_skipped places allowed (Wrong read) symbols =
    ap (λ (rest : List Symbol). after (codes "witness") rest) (append_assoc (flat_map (allowed_symbols places) allowed) end_symbols symbols)
    ∙ allowed_skipped places allowed (end_list ∷ end_record ∷ symbols)
fault_skipped places allowed (Unwritten read) symbols = refl
fault_skipped places allowed (Split first second) symbols = refl
fault_skipped places allowed (Early read write) symbols = refl
fault_skipped places allowed (Crossing a b c d) symbols =
    let second = key (codes "second") ∷ value_symbol (side_value b) ∷ end_record ∷ symbols in
    let values = key (codes "first") ∷ value_symbol (side_value d) ∷ second in
    let of_d = key (codes "d") ∷ holder_symbol (side_holder d) ∷ values in
    let of_c = key (codes "c") ∷ holder_symbol (side_holder c) ∷ of_d in
    let of_b = key (codes "b") ∷ holder_symbol (side_holder b) ∷ of_c in
    after_holder (codes "witness") (side_holder a) of_b
    ∙ after_holder (codes "witness") (side_holder b) of_c
    ∙ after_holder (codes "witness") (side_holder c) of_d
    ∙ after_holder (codes "witness") (side_holder d) values
    ∙ after_value (codes "witness") (side_value d) second
    ∙ after_value (codes "witness") (side_value b) (end_record ∷ symbols)

first_text : List Symbol → List ℕ
first_text symbols = told_value (first_symbol symbols)

conflict_told : (a b c d : Holder) (symbols : List Symbol) → told_fault (begin_record ∷ key (codes "kind") ∷ word (codes "conflict") ∷ key (codes "a") ∷ holder_symbol a ∷ key (codes "b") ∷ holder_symbol b ∷ key (codes "c") ∷ holder_symbol c ∷ key (codes "d") ∷ holder_symbol d ∷ symbols) ≡ fault_line (faults.Crossing a b c d)
unfolding first_text
conflict_told a b c d symbols =
    let of_d = key (codes "d") ∷ holder_symbol d ∷ symbols in
    let of_c = key (codes "c") ∷ holder_symbol c ∷ of_d in
    let of_b = key (codes "b") ∷ holder_symbol b ∷ of_c in
    let b_is = ap first_text (after_holder (codes "b") a of_b) ∙ holder_told b in
    let c_is = ap first_text (after_holder (codes "c") a of_b ∙ after_holder (codes "c") b of_c) ∙ holder_told c in
    let d_is = ap first_text (after_holder (codes "d") a of_b ∙ after_holder (codes "d") b of_c ∙ after_holder (codes "d") c of_d) ∙ holder_told d in
    let line = λ (one two three four : List ℕ). codes "  conflict " ++ one ++ codes " " ++ two ++ codes " " ++ three ++ codes " " ++ four ++ 10 ∷ [] in
    ap (λ (text : List ℕ). line text (first_text (after (codes "b") (holder_symbol a ∷ of_b))) (first_text (after (codes "c") (holder_symbol a ∷ of_b))) (first_text (after (codes "d") (holder_symbol a ∷ of_b)))) (holder_told a)
    ∙ ap (λ (text : List ℕ). line (holder_text a) text (first_text (after (codes "c") (holder_symbol a ∷ of_b))) (first_text (after (codes "d") (holder_symbol a ∷ of_b)))) b_is
    ∙ ap (λ (text : List ℕ). line (holder_text a) (holder_text b) text (first_text (after (codes "d") (holder_symbol a ∷ of_b)))) c_is
    ∙ ap (λ (text : List ℕ). line (holder_text a) (holder_text b) (holder_text c) text) d_is

fault_told : (places : PlacesModel) (allowed : List Allowed) (witness : Witness) (symbols : List Symbol) → told_fault (fault_symbols places allowed witness ++ symbols) ≡ fault_line (ids_of witness)
unfolding end_symbols list_symbols
fault_told places allowed (Wrong read) symbols = refl
fault_told places allowed (Unwritten read) symbols = refl
fault_told places allowed (Split first second) symbols = refl
fault_told places allowed (Early read write) symbols = refl
fault_told places allowed (Crossing a b c d) symbols = conflict_told (side_holder a) (side_holder b) (side_holder c) (side_holder d) _

-- the record of a register

witness_told : (places : PlacesModel) (allowed : List Allowed) (witness : Witness) (left_out rests_on : List (ℕ × ℕ)) → (let shown = (fault_symbols places allowed witness ++ list_symbols (codes "witness") ++ flat_map (op_symbols places) (ops_in_roles (roles_of witness)) ++ end_list ∷ []) ++ doubt_symbols left_out rests_on in told_fault shown ++ told_parts (after (codes "witness") shown) ≡ witness_text witness)
unfolding list_symbols
witness_told places allowed witness left_out rests_on =
    let shown = flat_map (op_symbols places) (ops_in_roles (roles_of witness)) in
    let tail = end_list ∷ doubt_symbols left_out rests_on in
    let end = key (codes "witness") ∷ begin_list ∷ (shown ++ tail) in
    let fault = fault_symbols places allowed witness in
    ap (λ (symbols : List Symbol). told_fault symbols ++ told_parts (after (codes "witness") symbols))
    (append_assoc (fault ++ list_symbols (codes "witness") ++ shown) (end_list ∷ []) (doubt_symbols left_out rests_on)
    ∙ append_assoc (fault ++ list_symbols (codes "witness")) shown tail ∙ append_assoc fault (list_symbols (codes "witness")) (shown ++ tail))
    ∙ ap (λ (line : List ℕ). line ++ told_parts (after (codes "witness") (fault ++ end))) (fault_told places allowed witness end)
    ∙ ap (λ (symbols : List Symbol). fault_line (ids_of witness) ++ told_parts symbols) (fault_skipped places allowed witness end)
    ∙ ap (λ (lines : List ℕ). fault_line (ids_of witness) ++ lines) (shown_parts places (ops_in_roles (roles_of witness)) left_out rests_on)

-- nor have they keys
no_key : (name : List ℕ) (elements : List (ℕ × ℕ)) → after name (map (λ at. place at.0 at.1) elements ++ end_list ∷ end_record ∷ []) ≡ []
no_key name [] = refl
no_key name (at ∷ elements) = no_key name elements

none_told : (left_out rests_on : List (ℕ × ℕ)) → told_fault (nothing ∷ key (codes "witness") ∷ begin_list ∷ end_list ∷ doubt_symbols left_out rests_on) ++ told_parts (begin_list ∷ end_list ∷ doubt_symbols left_out rests_on) ≡ []
unfolding doubt_symbols doubt_list number_symbols list_symbols end_symbols
none_told left_out rests_on = rw (no_key (codes "kind") rests_on) (no_parts rests_on)

found_told : (places : PlacesModel) (n : ℕ) (level name : List ℕ) (kind : Kind) (operations : ℕ) (found : Option Witness) (culprit : Bool) (allowed : List Allowed) (left_out rests_on : List (ℕ × ℕ)) → told_section (register_symbols places n level name (record { kind = kind; operations = operations; witness = found }) culprit allowed left_out rests_on) ≡ register_line name kind (is_none found) operations ++ option_map_or witness_text found []
unfolding register_symbols witness_symbols type_symbols number_symbols text_field word_symbols flag_symbols
found_told places n level name kind operations None culprit allowed left_out rests_on =
    ap (λ (lines : List ℕ). register_line name kind true operations ++ lines) (none_told left_out rests_on)
found_told places n level name kind operations (Some witness) culprit allowed left_out rests_on =
    ap (λ (lines : List ℕ). register_line name kind false operations ++ lines) (witness_told places allowed witness left_out rests_on)

register_told : (places : PlacesModel) (n : ℕ) (level : List ℕ) (register : Register) (finding : Finding) (culprit : Bool) (allowed : List Allowed) (left_out rests_on : List (ℕ × ℕ)) → told_section (register_symbols places n level register.name finding culprit allowed left_out rests_on) ≡ section_text register finding
register_told places n level register finding culprit allowed left_out rests_on = found_told places n level register.name finding.kind finding.operations finding.witness culprit allowed left_out rests_on

culprit_told : (places : PlacesModel) (n : ℕ) (level name : List ℕ) (finding : Finding) (culprit : Bool) (allowed : List Allowed) (left_out rests_on : List (ℕ × ℕ)) → told_culprit (register_symbols places n level name finding culprit allowed left_out rests_on) ≡ (if culprit then codes "culprit " ++ printed name ++ 10 ∷ [] else [])
unfolding register_symbols type_symbols number_symbols text_field word_symbols flag_symbols
culprit_told places n level name finding culprit allowed left_out rests_on = refl

-- the records of the traces

refusal_told : (places : PlacesModel) (feeder event : ℕ) (left_out : LeftOut) (registers : List Register) → told_note (placed_refusal places feeder event left_out.code) ≡ what_line registers feeder event (Refused left_out)
unfolding placed_refusal refusal_symbols type_symbols place_symbols word_symbols
refusal_told places feeder event left_out registers = refl

answer_told : (places : PlacesModel) (feeder event : ℕ) (name : List ℕ) (holds : Bool) (operations : ℕ) → told_note (answer_symbols places feeder event name holds operations) ≡ codes "answer " ++ place_text feeder event ++ codes " " ++ printed name ++ codes " " ++ verdict_word holds ++ codes " " ++ decimal operations ++ 10 ∷ []
unfolding answer_symbols type_symbols place_symbols text_field flag_symbols number_symbols
answer_told places feeder event name holds operations = refl

break_told : (places : PlacesModel) (feeder : ℕ) (broken : Broken) → told_note (placed_break places feeder broken) ≡ broken_line feeder (Some broken)
unfolding placed_break break_symbols type_symbols number_symbols word_symbols
break_told places feeder broken = refl

-- the record of an order

ids_told : (ids : List OpId) → flat_map told_id (map (λ id. place id.feeder id.event) ids ++ end_list ∷ [] ++ end_record ∷ []) ≡ flat_map (λ id. codes " " ++ id_text id) ids
ids_told [] = refl
ids_told (id ∷ ids) = ap (λ (text : List ℕ). codes " " ++ id_text id ++ text) (ids_told ids)

order_told : (name : List ℕ) (ids : Option (List OpId)) → told_order (order_symbols name ids) ≡ codes "order " ++ printed name ++ ids_text ids ++ 10 ∷ []
unfolding order_symbols type_symbols text_field
order_told name None = refl
order_told name (Some ids) = ap (λ (text : List ℕ). codes "order " ++ printed name ++ text ++ 10 ∷ []) (ids_told ids)

-- a word that says nothing of the records of one kind

none_of_records : (places : PlacesModel) (f : List Symbol → List ℕ) → ((n : ℕ) (level name : List ℕ) (finding : Finding) (culprit : Bool) (allowed : List Allowed) (left_out rests_on : List (ℕ × ℕ)) → f (register_symbols places n level name finding culprit allowed left_out rests_on) ≡ []) → (tower : TowerModel) (failing : List Bool) (doubts : List Doubt) (n : ℕ) (found : Option Register) (finding : Finding) (allowed : List Allowed) → flat_map f (option_map_or (λ register. register_symbols places n (level_name tower.levels register.level) register.name finding (is_culprit failing n register) allowed (left_out_at doubts n) (rests_at doubts n) ∷ []) found []) ≡ []
none_of_records places f none tower failing doubts n None finding allowed = refl
none_of_records places f none tower failing doubts n (Some register) finding allowed =
    append-nil (f (register_symbols places n (level_name tower.levels register.level) register.name finding (is_culprit failing n register) allowed (left_out_at doubts n) (rests_at doubts n)))
    ∙ none n (level_name tower.levels register.level) register.name finding (is_culprit failing n register) allowed (left_out_at doubts n) (rests_at doubts n)

empty_both : (a b : List ℕ) → a ≡ [] → b ≡ [] → a ++ b ≡ []
empty_both a b first second = ap (λ (text : List ℕ). text ++ b) first ∙ second

none_of_registers : (places : PlacesModel) (f : List Symbol → List ℕ) → ((n : ℕ) (level name : List ℕ) (finding : Finding) (culprit : Bool) (allowed : List Allowed) (left_out rests_on : List (ℕ × ℕ)) → f (register_symbols places n level name finding culprit allowed left_out rests_on) ≡ []) → (tower : TowerModel) (failing : List Bool) (doubts : List Doubt) (n : ℕ) (findings : List Finding) (others : List (List Allowed)) → flat_map f (registers_records places tower failing doubts false n findings others) ≡ []
none_of_registers places f none tower failing doubts n [] others = refl
none_of_registers places f none tower failing doubts n (finding ∷ findings) [] = refl
none_of_registers places f none tower failing doubts n (finding ∷ findings) (allowed ∷ others) =
    let here = register_record places tower failing doubts n finding allowed in
    let rest = registers_records places tower failing doubts false (n + 1) findings others in
    flat_map-append f here rest
    ∙ empty_both (flat_map f here) (flat_map f rest) (none_of_records places f none tower failing doubts n (slice_get tower.registers n) finding allowed) (none_of_registers places f none tower failing doubts (n + 1) findings others)

-- a word that says nothing of the records of the traces
record SaysNothing (places : PlacesModel) (f : List Symbol → List ℕ) : Type 0 where
  refused : (feeder event : ℕ) (code : Code) → f (placed_refusal places feeder event code) ≡ []
  answered : (feeder event : ℕ) (name : List ℕ) (holds : Bool) (operations : ℕ) → f (answer_symbols places feeder event name holds operations) ≡ []
  broken : (feeder : ℕ) (broken : Broken) → f (placed_break places feeder broken) ≡ []

none_of_what : (places : PlacesModel) (f : List Symbol → List ℕ) → SaysNothing places f → (registers : List Register) (feeder event : ℕ) (what : What) → f (what_record places registers feeder event what) ≡ []
none_of_what places f none registers feeder event (Refused left_out) = none.refused feeder event left_out.code
none_of_what places f none registers feeder event (Answered register answer) = none.answered feeder event (register_name registers register) answer.holds answer.operations

none_of_lines : (places : PlacesModel) (f : List Symbol → List ℕ) → SaysNothing places f → (registers : List Register) (feeder : ℕ) (lines : List Line) → flat_map f (map (line_record places registers feeder) lines) ≡ []
none_of_lines places f none registers feeder [] = refl
none_of_lines places f none registers feeder (line ∷ lines) =
    empty_both (f (line_record places registers feeder line)) (flat_map f (map (line_record places registers feeder) lines)) (none_of_what places f none registers feeder line.event line.what) (none_of_lines places f none registers feeder lines)

none_of_broken : (places : PlacesModel) (f : List Symbol → List ℕ) → SaysNothing places f → (feeder : ℕ) (broken : Option Broken) → flat_map f (broken_records places feeder broken) ≡ []
none_of_broken places f none feeder None = refl
none_of_broken places f none feeder (Some broken) = append-nil (f (placed_break places feeder broken)) ∙ none.broken feeder broken

none_of_logs : (places : PlacesModel) (f : List Symbol → List ℕ) → SaysNothing places f → (registers : List Register) (feeder : ℕ) (logs : List Log) → flat_map f (logs_records places registers feeder logs) ≡ []
none_of_logs places f none registers feeder [] = refl
none_of_logs places f none registers feeder (log ∷ logs) =
    let lines = map (line_record places registers feeder) log.lines.items in
    let rest = logs_records places registers (feeder + 1) logs in
    flat_map-append f (log_records places registers feeder log) rest
    ∙ empty_both (flat_map f (log_records places registers feeder log)) (flat_map f rest)
    (flat_map-append f lines (broken_records places feeder log.broken) ∙ empty_both (flat_map f lines) (flat_map f (broken_records places feeder log.broken)) (none_of_lines places f none registers feeder log.lines.items) (none_of_broken places f none feeder log.broken))
    (none_of_logs places f none registers (feeder + 1) logs)

none_of_asked : (f : List Symbol → List ℕ) → ((name : List ℕ) (ids : Option (List OpId)) → f (order_symbols name ids) ≡ []) → (registers : List Register) (asked : Option (RegId × Option (List OpId))) → flat_map f (asked_records registers asked) ≡ []
none_of_asked f none registers None = refl
none_of_asked f none registers (Some found) =
    append-nil (f (order_symbols (register_name registers found.0) found.1)) ∙ none (register_name registers found.0) found.1

section_of_no_note : (places : PlacesModel) → SaysNothing places told_section
unfolding placed_refusal refusal_symbols answer_symbols placed_break break_symbols type_symbols
section_of_no_note places = record { refused = λ feeder event code. refl; answered = λ feeder event name holds operations. refl; broken = λ feeder broken. refl }

culprit_of_no_note : (places : PlacesModel) → SaysNothing places told_culprit
unfolding placed_refusal refusal_symbols answer_symbols placed_break break_symbols type_symbols
culprit_of_no_note places = record { refused = λ feeder event code. refl; answered = λ feeder event name holds operations. refl; broken = λ feeder broken. refl }

order_of_no_note : (places : PlacesModel) → SaysNothing places told_order
unfolding placed_refusal refusal_symbols answer_symbols placed_break break_symbols type_symbols
order_of_no_note places = record { refused = λ feeder event code. refl; answered = λ feeder event name holds operations. refl; broken = λ feeder broken. refl }

section_of_no_order : (name : List ℕ) (ids : Option (List OpId)) → told_section (order_symbols name ids) ≡ []
unfolding order_symbols type_symbols
section_of_no_order name ids = refl

culprit_of_no_order : (name : List ℕ) (ids : Option (List OpId)) → told_culprit (order_symbols name ids) ≡ []
unfolding order_symbols type_symbols
culprit_of_no_order name ids = refl

note_of_no_order : (name : List ℕ) (ids : Option (List OpId)) → told_note (order_symbols name ids) ≡ []
unfolding order_symbols type_symbols
note_of_no_order name ids = refl

note_of_no_register : (places : PlacesModel) (n : ℕ) (level name : List ℕ) (finding : Finding) (culprit : Bool) (allowed : List Allowed) (left_out rests_on : List (ℕ × ℕ)) → told_note (register_symbols places n level name finding culprit allowed left_out rests_on) ≡ []
unfolding register_symbols type_symbols
note_of_no_register places n level name finding culprit allowed left_out rests_on = refl

order_of_no_register : (places : PlacesModel) (n : ℕ) (level name : List ℕ) (finding : Finding) (culprit : Bool) (allowed : List Allowed) (left_out rests_on : List (ℕ × ℕ)) → told_order (register_symbols places n level name finding culprit allowed left_out rests_on) ≡ []
unfolding register_symbols type_symbols
order_of_no_register places n level name finding culprit allowed left_out rests_on = refl

-- a word that says nothing of the first and the last record
record SaysMiddle (f : List Symbol → List ℕ) : Type 0 where
  first : (tower : Option (List ℕ)) (registers : ℕ) (traces : List (List ℕ)) (moments : List ℕ) → f (head_record tower registers traces moments) ≡ []
  last : (status : ℕ) (totals : Totals) (least : Least) → f (end_of_records status totals least) ≡ []

section_of_middle : SaysMiddle told_section
unfolding head_record end_of_records type_symbols
section_of_middle = record { first = λ tower registers traces moments. refl; last = λ status totals least. refl }

culprit_of_middle : SaysMiddle told_culprit
unfolding head_record end_of_records type_symbols
culprit_of_middle = record { first = λ tower registers traces moments. refl; last = λ status totals least. refl }

note_of_middle : SaysMiddle told_note
unfolding head_record end_of_records type_symbols
note_of_middle = record { first = λ tower registers traces moments. refl; last = λ status totals least. refl }

order_of_middle : SaysMiddle told_order
unfolding head_record end_of_records type_symbols
order_of_middle = record { first = λ tower registers traces moments. refl; last = λ status totals least. refl }

-- the registers, by number

is_at : (registers rest : List Register) (n : ℕ) (register : Register) → ((k : ℕ) → slice_get registers (n + k) ≡ slice_get (register ∷ rest) k) → slice_get registers n ≡ Some register
is_at registers rest n register are =
    let here : n ≡ n + zero = omega arith in
    ap (λ (k : ℕ). slice_get registers k) here ∙ are zero

are_next : (registers rest : List Register) (n : ℕ) (register : Register) → ((k : ℕ) → slice_get registers (n + k) ≡ slice_get (register ∷ rest) k) → (k : ℕ) → slice_get registers (n + 1 + k) ≡ slice_get rest k
are_next registers rest n register are k =
    let next : n + 1 + k ≡ n + suc k = omega arith in
    ap (λ (place : ℕ). slice_get registers place) next ∙ are (suc k)

record_at : (places : PlacesModel) (tower : TowerModel) (failing : List Bool) (doubts : List Doubt) (n : ℕ) (register : Register) (finding : Finding) (allowed : List Allowed) → slice_get tower.registers n ≡ Some register → register_record places tower failing doubts n finding allowed ≡ register_symbols places n (level_name tower.levels register.level) register.name finding (is_culprit failing n register) allowed (left_out_at doubts n) (rests_at doubts n) ∷ []
record_at places tower failing doubts n register finding allowed at =
    ap (λ (found : Option Register). option_map_or (λ (one : Register). register_symbols places n (level_name tower.levels one.level) one.name finding (is_culprit failing n one) allowed (left_out_at doubts n) (rests_at doubts n) ∷ []) found []) at

told_at : (places : PlacesModel) (f : List Symbol → List ℕ) (tower : TowerModel) (failing : List Bool) (doubts : List Doubt) (n : ℕ) (register : Register) (finding : Finding) (allowed : List Allowed) (rest : List (List Symbol)) → slice_get tower.registers n ≡ Some register → flat_map f (register_record places tower failing doubts n finding allowed ++ rest) ≡ f (register_symbols places n (level_name tower.levels register.level) register.name finding (is_culprit failing n register) allowed (left_out_at doubts n) (rests_at doubts n)) ++ flat_map f rest
told_at places f tower failing doubts n register finding allowed rest at =
    ap (λ (records : List (List Symbol)). flat_map f (records ++ rest)) (record_at places tower failing doubts n register finding allowed at)

sections_told : (places : PlacesModel) (tower : TowerModel) (failing : List Bool) (doubts : List Doubt) (n : ℕ) (rest : List Register) (findings : List Finding) (others : List (List Allowed)) → ((k : ℕ) → slice_get tower.registers (n + k) ≡ slice_get rest k) → length findings ≡ length rest → length others ≡ length findings → flat_map told_section (registers_records places tower failing doubts false n findings others) ≡ sections_text rest findings
sections_told places tower failing doubts n [] [] others are many each = refl
sections_told places tower failing doubts n [] (finding ∷ findings) others are many each = absurd (omega arith)
sections_told places tower failing doubts n (register ∷ rest) [] others are many each = absurd (omega arith)
sections_told places tower failing doubts n (register ∷ rest) (finding ∷ findings) [] are many each = absurd (omega arith)
sections_told places tower failing doubts n (register ∷ rest) (finding ∷ findings) (allowed ∷ others) are many each =
    let more = registers_records places tower failing doubts false (n + 1) findings others in
    told_at places told_section tower failing doubts n register finding allowed more (is_at tower.registers rest n register are)
    ∙ ap (λ (text : List ℕ). text ++ flat_map told_section more) (register_told places n (level_name tower.levels register.level) register finding (is_culprit failing n register) allowed (left_out_at doubts n) (rests_at doubts n))
    ∙ ap (λ (text : List ℕ). section_text register finding ++ text) (sections_told places tower failing doubts (n + 1) rest findings others (are_next tower.registers rest n register are) (omega arith) (omega arith))

culprit_at : (registers : List Register) (n : ℕ) (register : Register) → slice_get registers n ≡ Some register → codes "culprit " ++ printed register.name ++ 10 ∷ [] ≡ culprit_line registers (record { 0 = n })
culprit_at registers n register at =
    ap (λ (found : Option Register). codes "culprit " ++ printed (option_map_or (λ (one : Register). one.name) found []) ++ 10 ∷ []) (sym at)

culprit_next : (registers : List Register) (culprit : Bool) (line : List ℕ) (id : RegId) (more : List RegId) → line ≡ culprit_line registers id → (if culprit then line else []) ++ flat_map (culprit_line registers) more ≡ flat_map (culprit_line registers) (if culprit then id ∷ more else more)
culprit_next registers true line id more is = ap (λ (text : List ℕ). text ++ flat_map (culprit_line registers) more) is
culprit_next registers false line id more is = refl

culprits_told : (places : PlacesModel) (tower : TowerModel) (failing : List Bool) (doubts : List Doubt) (n : ℕ) (rest : List Register) (findings : List Finding) (others : List (List Allowed)) → ((k : ℕ) → slice_get tower.registers (n + k) ≡ slice_get rest k) → length findings ≡ length rest → length others ≡ length findings → flat_map told_culprit (registers_records places tower failing doubts false n findings others) ≡ flat_map (culprit_line tower.registers) (culprits_from failing n rest)
culprits_told places tower failing doubts n [] [] others are many each = refl
culprits_told places tower failing doubts n [] (finding ∷ findings) others are many each = absurd (omega arith)
culprits_told places tower failing doubts n (register ∷ rest) [] others are many each = absurd (omega arith)
culprits_told places tower failing doubts n (register ∷ rest) (finding ∷ findings) [] are many each = absurd (omega arith)
culprits_told places tower failing doubts n (register ∷ rest) (finding ∷ findings) (allowed ∷ others) are many each =
    let more = registers_records places tower failing doubts false (n + 1) findings others in
    let culprit = is_culprit failing n register in
    let at = is_at tower.registers rest n register are in
    let line = codes "culprit " ++ printed register.name ++ 10 ∷ [] in
    told_at places told_culprit tower failing doubts n register finding allowed more at
    ∙ ap (λ (text : List ℕ). text ++ flat_map told_culprit more) (culprit_told places n (level_name tower.levels register.level) register.name finding culprit allowed (left_out_at doubts n) (rests_at doubts n))
    ∙ ap (λ (text : List ℕ). (if culprit then line else []) ++ text) (culprits_told places tower failing doubts (n + 1) rest findings others (are_next tower.registers rest n register are) (omega arith) (omega arith))
    ∙ culprit_next tower.registers culprit line (record { 0 = n }) (culprits_from failing (n + 1) rest) (culprit_at tower.registers n register at)

-- the traces

what_told : (places : PlacesModel) (registers : List Register) (feeder event : ℕ) (what : What) → told_note (what_record places registers feeder event what) ≡ what_line registers feeder event what
what_told places registers feeder event (Refused left_out) = refusal_told places feeder event left_out registers
what_told places registers feeder event (Answered register answer) = answer_told places feeder event (register_name registers register) answer.holds answer.operations

lines_told : (places : PlacesModel) (registers : List Register) (feeder : ℕ) (lines : List Line) → flat_map told_note (map (line_record places registers feeder) lines) ≡ flat_map (note_line registers feeder) lines
lines_told places registers feeder [] = refl
lines_told places registers feeder (line ∷ lines) =
    ap (λ (text : List ℕ). text ++ flat_map told_note (map (line_record places registers feeder) lines)) (what_told places registers feeder line.event line.what)
    ∙ ap (λ (text : List ℕ). note_line registers feeder line ++ text) (lines_told places registers feeder lines)

broken_told : (places : PlacesModel) (feeder : ℕ) (broken : Option Broken) → flat_map told_note (broken_records places feeder broken) ≡ broken_line feeder broken
broken_told places feeder None = refl
broken_told places feeder (Some broken) = append-nil (told_note (placed_break places feeder broken)) ∙ break_told places feeder broken

log_told : (places : PlacesModel) (registers : List Register) (feeder : ℕ) (log : Log) → flat_map told_note (log_records places registers feeder log) ≡ log_text registers feeder log
log_told places registers feeder log =
    flat_map-append told_note (map (line_record places registers feeder) log.lines.items) (broken_records places feeder log.broken)
    ∙ ap (λ (text : List ℕ). text ++ flat_map told_note (broken_records places feeder log.broken)) (lines_told places registers feeder log.lines.items)
    ∙ ap (λ (text : List ℕ). flat_map (note_line registers feeder) log.lines.items ++ text) (broken_told places feeder log.broken)

logs_told : (places : PlacesModel) (registers : List Register) (feeder : ℕ) (logs : List Log) → flat_map told_note (logs_records places registers feeder logs) ≡ logs_text registers feeder logs
logs_told places registers feeder [] = refl
logs_told places registers feeder (log ∷ logs) =
    flat_map-append told_note (log_records places registers feeder log) (logs_records places registers (feeder + 1) logs)
    ∙ ap (λ (text : List ℕ). text ++ flat_map told_note (logs_records places registers (feeder + 1) logs)) (log_told places registers feeder log)
    ∙ ap (λ (text : List ℕ). log_text registers feeder log ++ text) (logs_told places registers (feeder + 1) logs)

asked_told : (registers : List Register) (asked : Option (RegId × Option (List OpId))) → flat_map told_order (asked_records registers asked) ≡ order_line registers asked
asked_told registers None = refl
asked_told registers (Some found) =
    append-nil (told_order (order_symbols (register_name registers found.0) found.1)) ∙ order_told (register_name registers found.0) found.1

-- the records of a run

in_parts : (f : List Symbol → List ℕ) (first last : List Symbol) (registers logs asked : List (List Symbol)) → f first ≡ [] → f last ≡ [] → flat_map f ((first ∷ []) ++ (registers ++ logs ++ asked) ++ last ∷ []) ≡ flat_map f registers ++ flat_map f logs ++ flat_map f asked
in_parts f first last registers logs asked of_first of_last =
    let middle = registers ++ logs ++ asked in
    ap (λ (text : List ℕ). text ++ flat_map f (middle ++ last ∷ [])) of_first
    ∙ flat_map-append f middle (last ∷ [])
    ∙ ap (λ (text : List ℕ). flat_map f middle ++ (text ++ [])) of_last
    ∙ append-nil (flat_map f middle)
    ∙ flat_map-append f (registers ++ logs) asked
    ∙ ap (λ (text : List ℕ). text ++ flat_map f asked) (flat_map-append f registers logs)

only_first : (a b c : List ℕ) → b ≡ [] → c ≡ [] → a ++ b ++ c ≡ a
only_first a b c second third =
    ap (λ (text : List ℕ). a ++ text ++ c) second ∙ ap (λ (text : List ℕ). a ++ [] ++ text) third ∙ append-nil (a ++ []) ∙ append-nil a

only_second : (a b c : List ℕ) → a ≡ [] → c ≡ [] → a ++ b ++ c ≡ b
only_second a b c first third =
    ap (λ (text : List ℕ). text ++ b ++ c) first ∙ ap (λ (text : List ℕ). b ++ text) third ∙ append-nil b

only_third : (a b c : List ℕ) → a ≡ [] → b ≡ [] → a ++ b ++ c ≡ c
only_third a b c first second = ap (λ (text : List ℕ). text ++ b ++ c) first ∙ ap (λ (text : List ℕ). text ++ c) second

joined : (a b c d one two three four : List ℕ) → a ≡ one → b ≡ two → c ≡ three → d ≡ four → a ++ b ++ c ++ d ≡ one ++ two ++ three ++ four
joined a b c d one two three four first second third fourth = cc

run_told : (places : PlacesModel) (names : RunNames) (status : ℕ) (tower : TowerModel) (findings : List Finding) (doubts : List Doubt) (allowed : List (List Allowed)) (logs : List Log) (asked : Option (RegId × Option (List OpId))) → length findings ≡ length tower.registers → length allowed ≡ length findings → report_of (records_of places names false status tower findings doubts allowed logs asked) ≡ report_text tower findings logs asked
run_told places names status tower findings doubts allowed logs asked many each =
    let failing = fails_of findings in
    let first = head_record names.tower (length tower.registers) names.traces names.moments in
    let last = end_of_records status (totals_of tower findings logs) names.least in
    let of_registers = registers_records places tower failing doubts false 0 findings allowed in
    let of_logs = logs_records places tower.registers 0 logs in
    let of_asked = asked_records tower.registers asked in
    let are = λ (k : ℕ). (let here : 0 + k ≡ k = omega arith in ap (λ (place : ℕ). slice_get tower.registers place) here) in
    let parts = λ (f : List Symbol → List ℕ) (middle : SaysMiddle f). in_parts f first last of_registers of_logs of_asked (middle.first names.tower (length tower.registers) names.traces names.moments) (middle.last status (totals_of tower findings logs) names.least) in
    let sections : flat_map told_section (records_of places names false status tower findings doubts allowed logs asked) ≡ sections_text tower.registers findings =
    parts told_section section_of_middle
    ∙ only_first (flat_map told_section of_registers) (flat_map told_section of_logs) (flat_map told_section of_asked) (none_of_logs places told_section (section_of_no_note places) tower.registers 0 logs) (none_of_asked told_section section_of_no_order tower.registers asked)
    ∙ sections_told places tower failing doubts 0 tower.registers findings allowed are many each in
    let culprits : flat_map told_culprit (records_of places names false status tower findings doubts allowed logs asked) ≡ flat_map (culprit_line tower.registers) (culprits_of tower findings) =
    parts told_culprit culprit_of_middle
    ∙ only_first (flat_map told_culprit of_registers) (flat_map told_culprit of_logs) (flat_map told_culprit of_asked) (none_of_logs places told_culprit (culprit_of_no_note places) tower.registers 0 logs) (none_of_asked told_culprit culprit_of_no_order tower.registers asked)
    ∙ culprits_told places tower failing doubts 0 tower.registers findings allowed are many each in
    let notes : flat_map told_note (records_of places names false status tower findings doubts allowed logs asked) ≡ logs_text tower.registers 0 logs =
    parts told_note note_of_middle
    ∙ only_second (flat_map told_note of_registers) (flat_map told_note of_logs) (flat_map told_note of_asked) (none_of_registers places told_note (note_of_no_register places) tower failing doubts 0 findings allowed) (none_of_asked told_note note_of_no_order tower.registers asked)
    ∙ logs_told places tower.registers 0 logs in
    let order : flat_map told_order (records_of places names false status tower findings doubts allowed logs asked) ≡ order_line tower.registers asked =
    parts told_order order_of_middle
    ∙ only_third (flat_map told_order of_registers) (flat_map told_order of_logs) (flat_map told_order of_asked) (none_of_registers places told_order (order_of_no_register places) tower failing doubts 0 findings allowed) (none_of_logs places told_order (order_of_no_note places) tower.registers 0 logs)
    ∙ asked_told tower.registers asked in
    joined _ _ _ _ _ _ _ _ sections culprits notes order

allowed_many : (tower : TowerModel) (closed : List ClosedShard) (n : ℕ) (findings : List Finding) (others : List (List Allowed)) → AreAllowed tower closed n findings others → length others ≡ length findings
allowed_many tower closed n [] [] are = refl
allowed_many tower closed n [] (allowed ∷ others) are = absurd are
allowed_many tower closed n (finding ∷ findings) [] are = absurd are
allowed_many tower closed n (finding ∷ findings) (allowed ∷ others) are =
    let rest : length others ≡ length findings = allowed_many tower closed (n + 1) findings others are.1 in
    omega arith

pub the_records_tell : (names : RunNames) (status : ℕ) (tower : TowerModel) (closed : List ClosedShard) (logs : List Log) (order : Option RegId) (texts : List (List ℕ)) (records : List (List Symbol)) → AreRecordsOfRun names false status tower closed logs order texts records → IsReport tower closed logs order (report_of records)
the_records_tell names status tower closed logs order texts records are = record {
  findings = are.findings;
  many = are.many;
  found = are.found;
  asked = are.asked;
  is_asked = are.is_asked;
  text_is = ap report_of are.records_are ∙ run_told are.places names status tower are.findings are.doubts are.allowed logs are.asked are.many (allowed_many tower closed 0 are.findings are.allowed are.explained);
}
