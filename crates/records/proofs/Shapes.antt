-- Each record of a run is a record by the grammar.
use Rattle.std.proofs.Common.{◌≡◌, ℕ, suc, ◌+◌, Bool, true, false, List, [], ◌∷◌, ◌++◌, length, map, Option, Some, None, refl, sym, subst, append_assoc}
use Rattle.std.proofs.lemmas.List.{append-nil}
use Rattle.std.proofs.lemmas.List.Elements.{All-nil, All-cons, All-append}
use Rattle.std.specs.Prelude.{All, codes, flat_map, is_none, if◌then◌else◌}
use Rattle.std.specs.Borrow.{Bor}
use Rattle.std.specs.Fmt.{decimal, signed_decimal}
use Rattle.std.specs.List.{slice_get}
use Rattle.std.specs.Option.{option_map_or}
use Rattle.intervals.specs.declared.claim.Holder.{Holder}
use Rattle.intervals.specs.declared.claim.Holder.TheVariants as holders
use Rattle.intervals.specs.declared.claim.Kind.{Kind}
use Rattle.intervals.specs.declared.operation.Moment.{Moment}
use Rattle.intervals.specs.declared.operation.Op.{Op}
use Rattle.intervals.specs.declared.operation.OpId.{OpId}
use Rattle.intervals.specs.declared.operation.RegId.{RegId}
use Rattle.intervals.specs.declared.operation.Value.{Value}
use Rattle.intervals.specs.declared.operation.Value.TheVariants.{Nil, Int}
use Rattle.intervals.specs.Operation.{is_write, value_of}
use Rattle.tower_file.specs.Contents.{Register, TowerModel}
use Rattle.shards.specs.Closing.{ClosedShard}
use Rattle.shards.specs.declared.entry.VerdictChange.{VerdictChange}
use Rattle.logs.specs.Code.{break_code_of, refused_code}
use Rattle.logs.specs.declared.log.Broken.{Broken}
use Rattle.logs.specs.declared.log.Code.{Code}
use Rattle.logs.specs.declared.log.Line.{Line}
use Rattle.logs.specs.declared.log.Log.{Log}
use Rattle.logs.specs.declared.log.What.{What}
use Rattle.logs.specs.declared.log.What.TheVariants.{Refused, Answered}
use Rattle.logs.specs.declared.notice.Notice.{Notice}
use Rattle.logs.specs.declared.notice.Notice.TheVariants as notices
use Rattle.register_book.specs.declared.fault.Fault.{Fault}
use Rattle.register_book.specs.declared.fault.Fault.TheVariants as faults
use Rattle.register_book.specs.declared.fault.Witness.{Witness}
use Rattle.register_book.specs.declared.fault.Witness.TheVariants.{Wrong, Unwritten, Split, Early, Crossing}
use Rattle.register_book.specs.Fault.{ops_in_roles, roles_of, side_holder}
use Rattle.places.specs.declared.location.Location.{Location}
use Rattle.places.specs.Spots.{PlacesModel, line_of_byte, located}
use Rattle.report.specs.declared.few.Least.{Least}
use Rattle.report.specs.declared.doubt.Doubt.{Doubt}
use Rattle.report.specs.declared.finding.Finding.{Finding}
use Rattle.report.specs.Doubt.{left_out_at, rests_at}
use Rattle.report.specs.Culprit.{is_culprit}
use Rattle.report.specs.Finding.{fails_of}
use Rattle.report.specs.Listing.{level_name}
use Rattle.phrases.specs.Names.{kind_word, register_name}
use Rattle.records.specs.declared.allowed.Allowed.{Allowed}
use Rattle.records.specs.declared.allowed.ValueSource.{ValueSource}
use Rattle.records.specs.declared.allowed.ValueSource.TheVariants as sources
use Rattle.records.specs.declared.ends.Totals.{Totals}
use Rattle.records.specs.Allowed.{allowed_symbols, source_spot, source_symbol}
use Rattle.records.specs.Ends.{end_of_records, format_symbols, head_record, order_symbols, tower_symbols, traces_symbols}
use Rattle.records.specs.Fault.{fault_symbols, side_value}
use Rattle.records.specs.Field.{end_symbols, flag_symbols, list_symbols, number_symbols, place_symbols, text_field, type_symbols, word_symbols}
use Rattle.records.specs.Grammar.{AreFields, AreValues, IsOneValue, IsRecord, alone, between, is_whole_value, is_record_word, listed, more_fields, more_values, nested, no_field, no_value}
use Rattle.records.specs.Log.{answer_symbols, break_symbols, broken_symbols, met_by, met_places, placed_break, placed_refusal, refusal_end, refusal_symbols, refused_symbols}
use Rattle.records.specs.Notice.{change_end, change_symbols, changed_symbols, ended_symbols, fault_field, fault_ids_symbols, notice_symbols, optional_fault_symbols}
use Rattle.records.specs.Operation.{act_word, op_spot, op_symbols}
use Rattle.records.specs.Register.{doubt_list, doubt_symbols, register_symbols, witness_symbols}
use Rattle.records.specs.Run.{AreRecordsOfRun, RunNames, asked_records, broken_records, has_record, line_record, log_records, logs_records, records_of, register_record, registers_records, totals_of, what_record}
use Rattle.records.specs.Spot.{byte_symbol, holder_record, holder_spot, known_symbol, line_symbol, spot_record, spot_symbols}
use Rattle.records.specs.Symbol.{Symbol, begin_list, begin_record, end_list, end_record, flag, key, nothing, number, place, text, word}
use Rattle.records.specs.Value.{end_symbol, holder_symbol, part_symbol, value_symbol}
use Rattle.records.proofs.Words.{whole_act, whole_break, whole_code, whole_integer, whole_kind, whole_number}

-- values by themselves

whole_value : (value : Value) → is_whole_value (value_symbol value) ≡ true
whole_value Nil = refl
whole_value (Int i) = whole_integer i

whole_source : (source : ValueSource) → is_whole_value (source_symbol source) ≡ true
whole_source (sources.Write id) = refl
whole_source sources.Initial = refl
whole_source sources.Domain = refl

whole_end : (end : Option Moment) → is_whole_value (end_symbol end) ≡ true
whole_end None = refl
whole_end (Some moment) = whole_number moment.0

whole_part : (part : Option (Bor (List ℕ))) → is_whole_value (part_symbol part) ≡ true
whole_part None = refl
whole_part (Some part) = refl

whole_holder : (holder : Holder) → is_whole_value (holder_symbol holder) ≡ true
whole_holder (holders.Op id) = refl
whole_holder holders.Initial = refl

whole_line : (spot : Option Location) → is_whole_value (line_symbol spot) ≡ true
whole_line None = refl
whole_line (Some spot) = whole_number spot.place.line

whole_byte : (spot : Option Location) → is_whole_value (byte_symbol spot) ≡ true
whole_byte None = refl
whole_byte (Some spot) = whole_number spot.start

whole_known : (n : Option ℕ) → is_whole_value (known_symbol n) ≡ true
whole_known None = refl
whole_known (Some n) = whole_number n

-- fields

field_is : {depth : ℕ} (name : List ℕ) → is_record_word name ≡ true → (symbol : Symbol) → {rest : List Symbol} → is_whole_value symbol ≡ true → AreFields depth rest → AreFields depth (key name ∷ symbol ∷ rest)
field_is name is symbol whole rest = more_fields name is (alone symbol whole) rest

last_field_is : {depth : ℕ} (name : List ℕ) → is_record_word name ≡ true → {value : List Symbol} → IsOneValue depth value → AreFields depth (key name ∷ value)
last_field_is {depth} name named {value = value} is = subst (λ (symbols : List Symbol). AreFields depth (key name ∷ symbols)) (append-nil value) (more_fields name named is no_field)

last_list_is : {depth : ℕ} (name : List ℕ) → is_record_word name ≡ true → {values : List Symbol} → AreValues depth values → AreFields (suc depth) (key name ∷ begin_list ∷ (values ++ end_list ∷ []))
last_list_is name named are = last_field_is name named (listed are)

spot_fields : {depth : ℕ} (spot : Option Location) → {rest : List Symbol} → AreFields depth rest → AreFields depth (key (codes "line") ∷ line_symbol spot ∷ key (codes "byte") ∷ byte_symbol spot ∷ rest)
spot_fields spot rest =
    field_is (codes "line") refl (line_symbol spot) (whole_line spot) (field_is (codes "byte") refl (byte_symbol spot) (whole_byte spot) rest)

spot_is : {depth : ℕ} (spot : Option Location) → IsOneValue (suc depth) (spot_record spot)
spot_is None = alone nothing refl
spot_is (Some spot) =
    nested
    (between (field_is (codes "line") refl (number (decimal spot.place.line)) (whole_number spot.place.line) (field_is (codes "byte") refl (number (decimal spot.start)) (whole_number spot.start) no_field)))

-- operations

op_is : {depth : ℕ} (places : PlacesModel) (op : Op) → IsRecord (suc depth) (op_symbols places op)
unfolding op_symbols spot_symbols
op_is places op =
    between
    (field_is (codes "id") refl (place op.id.feeder op.id.event) refl
    (field_is (codes "process") refl (number (signed_decimal op.process)) (whole_integer op.process)
    (field_is (codes "f") refl (word (act_word (is_write op))) (whole_act (is_write op))
    (field_is (codes "value") refl (value_symbol (value_of op.act)) (whole_value (value_of op.act))
    (field_is (codes "begin") refl (number (decimal op.begin.0)) (whole_number op.begin.0)
    (field_is (codes "end") refl (end_symbol op.end) (whole_end op.end)
    (field_is (codes "invocation") refl (text op.parts.invocation.now) refl
    (field_is (codes "answer") refl (part_symbol op.parts.answer) (whole_part op.parts.answer)
    (field_is (codes "amendment") refl (part_symbol op.parts.amendment) (whole_part op.parts.amendment) (spot_fields (op_spot places op) no_field))))))))))

ops_are : {depth : ℕ} (places : PlacesModel) (ops : List Op) → AreValues (suc depth) (flat_map (op_symbols places) ops)
ops_are places [] = no_value
ops_are places (op ∷ ops) = more_values (nested (op_is places op)) (ops_are places ops)

-- faults

allowed_is : {depth : ℕ} (places : PlacesModel) (allowed : Allowed) → IsRecord (suc depth) (allowed_symbols places allowed)
unfolding spot_symbols
allowed_is places allowed =
    between
    (field_is (codes "value") refl (value_symbol allowed.value) (whole_value allowed.value)
    (field_is (codes "id") refl (source_symbol allowed.source) (whole_source allowed.source) (spot_fields (source_spot places allowed.source) no_field)))

allowed_are : {depth : ℕ} (places : PlacesModel) (allowed : List Allowed) → AreValues (suc depth) (flat_map (allowed_symbols places) allowed)
allowed_are places [] = no_value
allowed_are places (one ∷ allowed) = more_values (nested (allowed_is places one)) (allowed_are places allowed)

fault_is : {depth : ℕ} (places : PlacesModel) (allowed : List Allowed) (witness : Witness) → IsRecord (suc (suc (suc depth))) (fault_symbols places allowed witness)
unfolding end_symbols list_symbols
fault_is {depth} places allowed (Wrong read) =
    subst (λ (tail : List Symbol). IsRecord (suc (suc (suc depth))) (begin_record ∷ key (codes "kind") ∷ word (codes "wrong") ∷ key (codes "read") ∷ place read.id.feeder read.id.event ∷ key (codes "allowed") ∷ begin_list ∷ tail))
    (append_assoc (flat_map (allowed_symbols places) allowed) (end_list ∷ []) (end_record ∷ []))
    (between
    (field_is (codes "kind") refl (word (codes "wrong")) refl
    (field_is (codes "read") refl (place read.id.feeder read.id.event) refl (last_list_is (codes "allowed") refl (allowed_are places allowed)))))
fault_is places allowed (Unwritten read) =
    between (field_is (codes "kind") refl (word (codes "unwritten")) refl (field_is (codes "read") refl (place read.id.feeder read.id.event) refl no_field))
fault_is places allowed (Split first second) =
    between
    (field_is (codes "kind") refl (word (codes "split")) refl
    (field_is (codes "first") refl (place first.id.feeder first.id.event) refl (field_is (codes "second") refl (place second.id.feeder second.id.event) refl no_field)))
fault_is places allowed (Early read write) =
    between
    (field_is (codes "kind") refl (word (codes "early")) refl
    (field_is (codes "read") refl (place read.id.feeder read.id.event) refl (field_is (codes "write") refl (place write.id.feeder write.id.event) refl no_field)))
fault_is places allowed (Crossing a b c d) =
    between
    (field_is (codes "kind") refl (word (codes "conflict")) refl
    (field_is (codes "a") refl (holder_symbol (side_holder a)) (whole_holder (side_holder a))
    (field_is (codes "b") refl (holder_symbol (side_holder b)) (whole_holder (side_holder b))
    (field_is (codes "c") refl (holder_symbol (side_holder c)) (whole_holder (side_holder c))
    (field_is (codes "d") refl (holder_symbol (side_holder d)) (whole_holder (side_holder d))
    (field_is (codes "first") refl (value_symbol (side_value d)) (whole_value (side_value d))
    (field_is (codes "second") refl (value_symbol (side_value b)) (whole_value (side_value b)) no_field)))))))

-- registers

register_fields : {depth : ℕ} (n : ℕ) (level name : List ℕ) (finding : Finding) (culprit : Bool) → {rest : List Symbol} → AreFields depth rest → AreFields depth (key (codes "t") ∷ word (codes "register") ∷ key (codes "number") ∷ number (decimal n) ∷ key (codes "level") ∷ text level ∷ key (codes "name") ∷ text name ∷ key (codes "kind") ∷ word (kind_word finding.kind) ∷ key (codes "holds") ∷ flag (is_none finding.witness) ∷ key (codes "operations") ∷ number (decimal finding.operations) ∷ key (codes "culprit") ∷ flag culprit ∷ rest)
register_fields n level name finding culprit rest =
    field_is (codes "t") refl (word (codes "register")) refl
    (field_is (codes "number") refl (number (decimal n)) (whole_number n)
    (field_is (codes "level") refl (text level) refl
    (field_is (codes "name") refl (text name) refl
    (field_is (codes "kind") refl (word (kind_word finding.kind)) (whole_kind finding.kind)
    (field_is (codes "holds") refl (flag (is_none finding.witness)) refl
    (field_is (codes "operations") refl (number (decimal finding.operations)) (whole_number finding.operations)
    (field_is (codes "culprit") refl (flag culprit) refl rest)))))))

elements_are : {depth : ℕ} (elements : List (ℕ × ℕ)) → AreValues depth (map (λ at. place at.0 at.1) elements)
elements_are [] = no_value
elements_are (at ∷ elements) = more_values (alone (place at.0 at.1) refl) (elements_are elements)

-- the fields of what is in doubt
abbrev doubt_fields : List (ℕ × ℕ) → List (ℕ × ℕ) → List Symbol
doubt_fields left_out rests_on =
    key (codes "left_out") ∷ number (decimal (length left_out)) ∷ key (codes "rests_on") ∷ begin_list ∷ (map (λ at. place at.0 at.1) rests_on ++ end_list ∷ [])

doubt_is : {depth : ℕ} (left_out rests_on : List (ℕ × ℕ)) → AreFields (suc depth) (doubt_fields left_out rests_on)
doubt_is left_out rests_on =
    field_is (codes "left_out") refl (number (decimal (length left_out))) (whole_number (length left_out)) (last_list_is (codes "rests_on") refl (elements_are rests_on))

regrouped : (fault shown rests : List Symbol) (left : Symbol)
    → (fault ++ (key (codes "witness") ∷ ((begin_list ∷ (shown ++ end_list ∷ [])) ++ (key (codes "left_out") ∷ left ∷ key (codes "rests_on") ∷ begin_list ∷ (rests ++ end_list ∷ []))))) ++ end_record ∷ []
    ≡ (fault ++ (key (codes "witness") ∷ begin_list ∷ []) ++ shown ++ end_list ∷ []) ++ (key (codes "left_out") ∷ left ∷ key (codes "rests_on") ∷ begin_list ∷ (rests ++ end_list ∷ end_record ∷ []))
regrouped fault shown rests left = simp append_assoc

found_is : {depth : ℕ} (places : PlacesModel) (n : ℕ) (level name : List ℕ) (kind : Kind) (operations : ℕ) (found : Option Witness) (culprit : Bool) (allowed : List Allowed) (left_out rests_on : List (ℕ × ℕ)) → IsRecord (suc (suc (suc (suc depth)))) (register_symbols places n level name (record { kind = kind; operations = operations; witness = found }) culprit allowed left_out rests_on)
unfolding register_symbols witness_symbols doubt_symbols doubt_list type_symbols number_symbols text_field word_symbols flag_symbols list_symbols end_symbols
found_is {depth} places n level name kind operations None culprit allowed left_out rests_on =
    subst (λ (tail : List Symbol). IsRecord (suc (suc (suc (suc depth)))) (begin_record ∷ key (codes "t") ∷ word (codes "register") ∷ key (codes "number") ∷ number (decimal n) ∷ key (codes "level") ∷ text level ∷ key (codes "name") ∷ text name ∷ key (codes "kind") ∷ word (kind_word kind) ∷ key (codes "holds") ∷ flag true ∷ key (codes "operations") ∷ number (decimal operations) ∷ key (codes "culprit") ∷ flag culprit ∷ key (codes "fault") ∷ nothing ∷ key (codes "witness") ∷ begin_list ∷ end_list ∷ key (codes "left_out") ∷ number (decimal (length left_out)) ∷ key (codes "rests_on") ∷ begin_list ∷ tail))
    (append_assoc (map (λ at. place at.0 at.1) rests_on) (end_list ∷ []) (end_record ∷ []))
    (between
    (register_fields n level name (record { kind = kind; operations = operations; witness = None }) culprit
    (field_is (codes "fault") refl nothing refl (more_fields (codes "witness") refl (listed no_value) (doubt_is left_out rests_on)))))
found_is {depth} places n level name kind operations (Some witness) culprit allowed left_out rests_on =
    subst (λ (tail : List Symbol). IsRecord (suc (suc (suc (suc depth)))) (begin_record ∷ key (codes "t") ∷ word (codes "register") ∷ key (codes "number") ∷ number (decimal n) ∷ key (codes "level") ∷ text level ∷ key (codes "name") ∷ text name ∷ key (codes "kind") ∷ word (kind_word kind) ∷ key (codes "holds") ∷ flag false ∷ key (codes "operations") ∷ number (decimal operations) ∷ key (codes "culprit") ∷ flag culprit ∷ key (codes "fault") ∷ tail))
    (regrouped (fault_symbols places allowed witness) (flat_map (op_symbols places) (ops_in_roles (roles_of witness))) (map (λ at. place at.0 at.1) rests_on) (number (decimal (length left_out))))
    (between
    (register_fields n level name (record { kind = kind; operations = operations; witness = Some witness }) culprit
    (more_fields (codes "fault") refl (nested (fault_is places allowed witness))
    (more_fields (codes "witness") refl (listed (ops_are places (ops_in_roles (roles_of witness)))) (doubt_is left_out rests_on)))))

register_is : {depth : ℕ} (places : PlacesModel) (n : ℕ) (level name : List ℕ) (finding : Finding) (culprit : Bool) (allowed : List Allowed) (left_out rests_on : List (ℕ × ℕ)) → IsRecord (suc (suc (suc (suc depth)))) (register_symbols places n level name finding culprit allowed left_out rests_on)
register_is places n level name finding culprit allowed left_out rests_on = found_is places n level name finding.kind finding.operations finding.witness culprit allowed left_out rests_on

-- the traces

holders_are : {depth : ℕ} (holders : List Holder) → AreValues depth (map holder_symbol holders)
holders_are [] = no_value
holders_are (holder ∷ holders) = more_values (alone (holder_symbol holder) (whole_holder holder)) (holders_are holders)

refused_is : {depth : ℕ} (feeder event line : ℕ) (code : Code) → IsRecord (suc (suc depth)) (refused_symbols feeder event line code)
unfolding refused_symbols refusal_symbols type_symbols place_symbols word_symbols list_symbols number_symbols
refused_is feeder event line code =
    between
    (field_is (codes "t") refl (word (codes "refused")) refl
    (field_is (codes "id") refl (place feeder event) refl
    (field_is (codes "code") refl (word (refused_code code)) (whole_code code)
    (more_fields (codes "with") refl (listed (holders_are (met_by code))) (field_is (codes "line") refl (number (decimal line)) (whole_number line) no_field)))))

met_are : {depth : ℕ} (places : PlacesModel) (holders : List Holder) → AreValues (suc depth) (flat_map (holder_record places) holders)
met_are places [] = no_value
met_are places (holder ∷ holders) = more_values (spot_is (holder_spot places holder)) (met_are places holders)

grouped : (met spot with' found : List Symbol) → (met ++ end_list ∷ []) ++ (spot ++ with' ++ (found ++ end_list ∷ [])) ++ end_record ∷ [] ≡ (met ++ end_list ∷ []) ++ (spot ++ with' ++ found ++ end_list ∷ end_record ∷ [])
grouped met spot with' found = simp append_assoc

placed_refusal_is : {depth : ℕ} (places : PlacesModel) (feeder event : ℕ) (code : Code) → IsRecord (suc (suc (suc depth))) (placed_refusal places feeder event code)
unfolding placed_refusal refusal_end refusal_symbols type_symbols place_symbols word_symbols list_symbols spot_symbols end_symbols
placed_refusal_is {depth} places feeder event code =
    let spot = located places feeder event in
    subst (λ (tail : List Symbol). IsRecord (suc (suc (suc depth))) (begin_record ∷ key (codes "t") ∷ word (codes "refused") ∷ key (codes "id") ∷ place feeder event ∷ key (codes "code") ∷ word (refused_code code) ∷ key (codes "with") ∷ begin_list ∷ tail))
    (grouped (map holder_symbol (met_by code)) (key (codes "line") ∷ line_symbol spot ∷ key (codes "byte") ∷ byte_symbol spot ∷ []) (key (codes "with_places") ∷ begin_list ∷ []) (met_places places code))
    (between
    (field_is (codes "t") refl (word (codes "refused")) refl
    (field_is (codes "id") refl (place feeder event) refl
    (field_is (codes "code") refl (word (refused_code code)) (whole_code code)
    (more_fields (codes "with") refl (listed (holders_are (met_by code)))
    (spot_fields spot (last_list_is (codes "with_places") refl (met_are places (met_by code)))))))))

answer_is : {depth : ℕ} (places : PlacesModel) (feeder event : ℕ) (name : List ℕ) (holds : Bool) (operations : ℕ) → IsRecord (suc depth) (answer_symbols places feeder event name holds operations)
unfolding answer_symbols type_symbols place_symbols text_field flag_symbols number_symbols spot_symbols
answer_is places feeder event name holds operations =
    between
    (field_is (codes "t") refl (word (codes "answer")) refl
    (field_is (codes "id") refl (place feeder event) refl
    (field_is (codes "register") refl (text name) refl
    (field_is (codes "holds") refl (flag holds) refl (field_is (codes "operations") refl (number (decimal operations)) (whole_number operations) (spot_fields (located places feeder event) no_field))))))

broken_is : {depth : ℕ} (feeder : ℕ) (broken : Broken) (line : ℕ) → IsRecord (suc depth) (broken_symbols feeder broken line)
unfolding broken_symbols break_symbols type_symbols number_symbols word_symbols
broken_is feeder broken line =
    between
    (field_is (codes "t") refl (word (codes "broken")) refl
    (field_is (codes "trace") refl (number (decimal feeder)) (whole_number feeder)
    (field_is (codes "code") refl (word (break_code_of broken.code)) (whole_break broken.code)
    (field_is (codes "byte") refl (number (decimal broken.place)) (whole_number broken.place) (field_is (codes "line") refl (number (decimal line)) (whole_number line) no_field)))))

placed_break_is : {depth : ℕ} (places : PlacesModel) (feeder : ℕ) (broken : Broken) → IsRecord (suc depth) (placed_break places feeder broken)
unfolding placed_break break_symbols type_symbols number_symbols word_symbols
placed_break_is places feeder broken =
    let line = line_of_byte places feeder broken.place in
    between
    (field_is (codes "t") refl (word (codes "broken")) refl
    (field_is (codes "trace") refl (number (decimal feeder)) (whole_number feeder)
    (field_is (codes "code") refl (word (break_code_of broken.code)) (whole_break broken.code)
    (field_is (codes "byte") refl (number (decimal broken.place)) (whole_number broken.place) (field_is (codes "line") refl (known_symbol line) (whole_known line) no_field)))))

-- the order, the first and the last record

id_values : {depth : ℕ} (ids : List OpId) → AreValues depth (map (λ id. place id.feeder id.event) ids)
id_values [] = no_value
id_values (id ∷ ids) = more_values (alone (place id.feeder id.event) refl) (id_values ids)

order_is : {depth : ℕ} (name : List ℕ) (ids : Option (List OpId)) → IsRecord (suc (suc depth)) (order_symbols name ids)
unfolding order_symbols type_symbols text_field
order_is name None =
    between (field_is (codes "t") refl (word (codes "order")) refl (field_is (codes "register") refl (text name) refl (field_is (codes "ids") refl nothing refl no_field)))
order_is name (Some ids) =
    between (field_is (codes "t") refl (word (codes "order")) refl (field_is (codes "register") refl (text name) refl (last_list_is (codes "ids") refl (id_values ids))))

text_values : {depth : ℕ} (texts : List (List ℕ)) → AreValues depth (map text texts)
text_values [] = no_value
text_values (bytes ∷ texts) = more_values (alone (text bytes) refl) (text_values texts)

head_is : {depth : ℕ} (tower : Option (List ℕ)) (registers : ℕ) (traces : List (List ℕ)) (moments : List ℕ) → is_record_word moments ≡ true → IsRecord (suc (suc depth)) (head_record tower registers traces moments)
unfolding head_record format_symbols tower_symbols traces_symbols type_symbols text_field number_symbols word_symbols list_symbols
head_is None registers traces moments is =
    between
    (field_is (codes "t") refl (word (codes "head")) refl
    (field_is (codes "format") refl (number (decimal 1)) (whole_number 1)
    (field_is (codes "program") refl (text (codes "regaudit")) refl
    (field_is (codes "tower") refl nothing refl
    (field_is (codes "registers") refl (number (decimal registers)) (whole_number registers)
    (more_fields (codes "traces") refl (listed (text_values traces)) (field_is (codes "moment") refl (word moments) is no_field)))))))
head_is (Some name) registers traces moments is =
    between
    (field_is (codes "t") refl (word (codes "head")) refl
    (field_is (codes "format") refl (number (decimal 1)) (whole_number 1)
    (field_is (codes "program") refl (text (codes "regaudit")) refl
    (field_is (codes "tower") refl (text name) refl
    (field_is (codes "registers") refl (number (decimal registers)) (whole_number registers)
    (more_fields (codes "traces") refl (listed (text_values traces)) (field_is (codes "moment") refl (word moments) is no_field)))))))

end_is : {depth : ℕ} (status : ℕ) (totals : Totals) (least : Least) → IsRecord (suc depth) (end_of_records status totals least)
unfolding end_of_records type_symbols number_symbols
end_is status totals least =
    between
    (field_is (codes "t") refl (word (codes "end")) refl
    (field_is (codes "status") refl (number (decimal status)) (whole_number status)
    (field_is (codes "registers") refl (number (decimal totals.registers)) (whole_number totals.registers)
    (field_is (codes "failing") refl (number (decimal totals.failing)) (whole_number totals.failing)
    (field_is (codes "culprits") refl (number (decimal totals.culprits)) (whole_number totals.culprits)
    (field_is (codes "operations") refl (number (decimal totals.operations)) (whole_number totals.operations)
    (field_is (codes "refused") refl (number (decimal totals.refused)) (whole_number totals.refused)
    (field_is (codes "broken") refl (number (decimal totals.broken)) (whole_number totals.broken)
    (field_is (codes "least") refl (number (decimal least.all)) (whole_number least.all) (field_is (codes "least_each") refl (number (decimal least.each)) (whole_number least.each) no_field))))))))))

-- all records of a run

one_record : (symbols : List Symbol) → IsRecord 4 symbols → All (IsRecord 4) (symbols ∷ [])
one_record symbols is = All-cons (IsRecord 4) symbols [] is (All-nil (IsRecord 4))

where_shown : (shown : Bool) (records : List (List Symbol)) → All (IsRecord 4) records → All (IsRecord 4) (if shown then records else [])
where_shown true records are = are
where_shown false records are = All-nil (IsRecord 4)

record_of : (places : PlacesModel) (tower : TowerModel) (failing : List Bool) (doubts : List Doubt) (n : ℕ) (found : Option Register) (finding : Finding) (allowed : List Allowed) → All (IsRecord 4) (option_map_or (λ register. register_symbols places n (level_name tower.levels register.level) register.name finding (is_culprit failing n register) allowed (left_out_at doubts n) (rests_at doubts n) ∷ []) found [])
record_of places tower failing doubts n None finding allowed = All-nil (IsRecord 4)
record_of places tower failing doubts n (Some register) finding allowed =
    let level = level_name tower.levels register.level in
    let culprit = is_culprit failing n register in
    one_record (register_symbols places n level register.name finding culprit allowed (left_out_at doubts n) (rests_at doubts n)) (register_is places n level register.name finding culprit allowed (left_out_at doubts n) (rests_at doubts n))

registers_are : (places : PlacesModel) (tower : TowerModel) (failing : List Bool) (doubts : List Doubt) (only : Bool) (n : ℕ) (findings : List Finding) (others : List (List Allowed)) → All (IsRecord 4) (registers_records places tower failing doubts only n findings others)
registers_are places tower failing doubts only n [] others = All-nil (IsRecord 4)
registers_are places tower failing doubts only n (finding ∷ findings) [] = All-nil (IsRecord 4)
registers_are places tower failing doubts only n (finding ∷ findings) (allowed ∷ others) =
    let here = register_record places tower failing doubts n finding allowed in
    let shown = has_record only finding in
    All-append (IsRecord 4) (if shown then here else []) (registers_records places tower failing doubts only (n + 1) findings others)
    (where_shown shown here (record_of places tower failing doubts n (slice_get tower.registers n) finding allowed))
    (registers_are places tower failing doubts only (n + 1) findings others)

what_is : (places : PlacesModel) (registers : List Register) (feeder event : ℕ) (what : What) → IsRecord 4 (what_record places registers feeder event what)
what_is places registers feeder event (Refused left_out) = placed_refusal_is places feeder event left_out.code
what_is places registers feeder event (Answered register answer) = answer_is places feeder event (register_name registers register) answer.holds answer.operations

lines_are : (places : PlacesModel) (registers : List Register) (feeder : ℕ) (lines : List Line) → All (IsRecord 4) (map (line_record places registers feeder) lines)
lines_are places registers feeder [] = All-nil (IsRecord 4)
lines_are places registers feeder (line ∷ lines) =
    All-cons (IsRecord 4) (line_record places registers feeder line) (map (line_record places registers feeder) lines) (what_is places registers feeder line.event line.what) (lines_are places registers feeder lines)

breaks_are : (places : PlacesModel) (feeder : ℕ) (broken : Option Broken) → All (IsRecord 4) (broken_records places feeder broken)
breaks_are places feeder None = All-nil (IsRecord 4)
breaks_are places feeder (Some broken) = one_record (placed_break places feeder broken) (placed_break_is places feeder broken)

logs_are : (places : PlacesModel) (registers : List Register) (feeder : ℕ) (logs : List Log) → All (IsRecord 4) (logs_records places registers feeder logs)
logs_are places registers feeder [] = All-nil (IsRecord 4)
logs_are places registers feeder (log ∷ logs) =
    let lines = map (line_record places registers feeder) log.lines.items in
    All-append (IsRecord 4) (log_records places registers feeder log) (logs_records places registers (feeder + 1) logs)
    (All-append (IsRecord 4) lines (broken_records places feeder log.broken) (lines_are places registers feeder log.lines.items) (breaks_are places feeder log.broken))
    (logs_are places registers (feeder + 1) logs)

asked_are : (registers : List Register) (asked : Option (RegId × Option (List OpId))) → All (IsRecord 4) (asked_records registers asked)
asked_are registers None = All-nil (IsRecord 4)
asked_are registers (Some found) =
    one_record (order_symbols (register_name registers found.0) found.1) (order_is (register_name registers found.0) found.1)

run_is : (places : PlacesModel) (names : RunNames) → is_record_word names.moments ≡ true → (only : Bool) (status : ℕ) (tower : TowerModel) (findings : List Finding) (doubts : List Doubt) (allowed : List (List Allowed)) (logs : List Log) (asked : Option (RegId × Option (List OpId))) → All (IsRecord 4) (records_of places names only status tower findings doubts allowed logs asked)
run_is places names is only status tower findings doubts allowed logs asked =
    let first = head_record names.tower (length tower.registers) names.traces names.moments in
    let last = end_of_records status (totals_of tower findings logs) names.least in
    let of_registers = registers_records places tower (fails_of findings) doubts only 0 findings allowed in
    let of_logs = logs_records places tower.registers 0 logs in
    let of_asked = asked_records tower.registers asked in
    let middle = of_registers ++ of_logs ++ of_asked in
    All-cons (IsRecord 4) first (middle ++ last ∷ []) (head_is names.tower (length tower.registers) names.traces names.moments is)
    (All-append (IsRecord 4) middle (last ∷ [])
    (All-append (IsRecord 4) (of_registers ++ of_logs) of_asked
    (All-append (IsRecord 4) of_registers of_logs (registers_are places tower (fails_of findings) doubts only 0 findings allowed) (logs_are places tower.registers 0 logs))
    (asked_are tower.registers asked))
    (one_record last (end_is status (totals_of tower findings logs) names.least)))

pub each_is_record : (names : RunNames) → is_record_word names.moments ≡ true → (only : Bool) (status : ℕ) (tower : TowerModel) (closed : List ClosedShard) (logs : List Log) (order : Option RegId) (texts : List (List ℕ)) (records : List (List Symbol)) → AreRecordsOfRun names only status tower closed logs order texts records → All (IsRecord 4) records
each_is_record names is only status tower closed logs order texts records are =
    subst (λ (list : List (List Symbol)). All (IsRecord 4) list) (sym are.records_are) (run_is are.places names is only status tower are.findings are.doubts are.allowed logs are.asked)

-- notices

ids_are : {depth : ℕ} (fault : Fault) → IsRecord (suc depth) (fault_ids_symbols fault)
ids_are (faults.Wrong read) =
    between (field_is (codes "kind") refl (word (codes "wrong")) refl (field_is (codes "read") refl (place read.feeder read.event) refl no_field))
ids_are (faults.Unwritten read) =
    between (field_is (codes "kind") refl (word (codes "unwritten")) refl (field_is (codes "read") refl (place read.feeder read.event) refl no_field))
ids_are (faults.Split first second) =
    between
    (field_is (codes "kind") refl (word (codes "split")) refl
    (field_is (codes "first") refl (place first.feeder first.event) refl (field_is (codes "second") refl (place second.feeder second.event) refl no_field)))
ids_are (faults.Early read write) =
    between
    (field_is (codes "kind") refl (word (codes "early")) refl
    (field_is (codes "read") refl (place read.feeder read.event) refl (field_is (codes "write") refl (place write.feeder write.event) refl no_field)))
ids_are (faults.Crossing a b c d) =
    between
    (field_is (codes "kind") refl (word (codes "conflict")) refl
    (field_is (codes "a") refl (holder_symbol a) (whole_holder a)
    (field_is (codes "b") refl (holder_symbol b) (whole_holder b)
    (field_is (codes "c") refl (holder_symbol c) (whole_holder c) (field_is (codes "d") refl (holder_symbol d) (whole_holder d) no_field)))))

optional_is : {depth : ℕ} (fault : Option Fault) → IsOneValue (suc depth) (optional_fault_symbols fault)
optional_is None = alone nothing refl
optional_is (Some fault) = nested (ids_are fault)

regrouped_end : (fault rests : List Symbol) (left line : Symbol)
    → (fault ++ (key (codes "left_out") ∷ left ∷ key (codes "rests_on") ∷ ((begin_list ∷ (rests ++ end_list ∷ [])) ++ (key (codes "line") ∷ line ∷ [])))) ++ end_record ∷ []
    ≡ fault ++ (key (codes "left_out") ∷ left ∷ key (codes "rests_on") ∷ begin_list ∷ (rests ++ (end_list ∷ []) ++ (key (codes "line") ∷ line ∷ []) ++ end_record ∷ []))
regrouped_end fault rests left line = simp append_assoc

change_is : {depth : ℕ} (name : List ℕ) (feeder event line : ℕ) (change : VerdictChange) (left_out rests_on : List (ℕ × ℕ)) → IsRecord (suc (suc depth)) (change_symbols name feeder event change ++ change_end left_out rests_on line)
unfolding change_symbols change_end doubt_list changed_symbols fault_field type_symbols place_symbols text_field word_symbols flag_symbols number_symbols list_symbols
change_is {depth} name feeder event line change left_out rests_on =
    subst (λ (tail : List Symbol). IsRecord (suc (suc depth)) (begin_record ∷ key (codes "t") ∷ word (codes "change") ∷ key (codes "id") ∷ place feeder event ∷ key (codes "register") ∷ text name ∷ key (codes "kind") ∷ word (kind_word change.kind) ∷ key (codes "holds") ∷ flag change.holds ∷ key (codes "operations") ∷ number (decimal change.operations) ∷ key (codes "fault") ∷ tail))
    (regrouped_end (optional_fault_symbols change.fault) (map (λ at. place at.0 at.1) rests_on) (number (decimal (length left_out))) (number (decimal line)))
    (between
    (field_is (codes "t") refl (word (codes "change")) refl
    (field_is (codes "id") refl (place feeder event) refl
    (field_is (codes "register") refl (text name) refl
    (field_is (codes "kind") refl (word (kind_word change.kind)) (whole_kind change.kind)
    (field_is (codes "holds") refl (flag change.holds) refl
    (field_is (codes "operations") refl (number (decimal change.operations)) (whole_number change.operations)
    (more_fields (codes "fault") refl (optional_is change.fault)
    (field_is (codes "left_out") refl (number (decimal (length left_out))) (whole_number (length left_out))
    (more_fields (codes "rests_on") refl (listed (elements_are rests_on)) (field_is (codes "line") refl (number (decimal line)) (whole_number line) no_field)))))))))))

ended_is : {depth : ℕ} (feeder elements : ℕ) → IsRecord (suc depth) (ended_symbols feeder elements)
unfolding ended_symbols type_symbols number_symbols
ended_is feeder elements =
    between
    (field_is (codes "t") refl (word (codes "ended")) refl
    (field_is (codes "trace") refl (number (decimal feeder)) (whole_number feeder) (field_is (codes "elements") refl (number (decimal elements)) (whole_number elements) no_field)))

pub notice_is : (registers : List Register) (notice : Notice) (left_out rests_on : List (ℕ × ℕ)) → IsRecord 4 (notice_symbols registers notice left_out rests_on)
notice_is registers (notices.Changed feeder event line change) left_out rests_on = change_is (register_name registers change.register) feeder event line change left_out rests_on
notice_is registers (notices.Refused feeder event line refused) left_out rests_on = refused_is feeder event line refused.code
notice_is registers (notices.Broke feeder broken line) left_out rests_on = broken_is feeder broken line
notice_is registers (notices.Ended feeder elements) left_out rests_on = ended_is feeder elements
