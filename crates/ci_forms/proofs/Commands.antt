-- Each command is one line.
use Rattle.std.proofs.Common.{◌≡◌, ◌∙◌, ℕ, ◌+◌, ◌&&◌, not, Bool, true, false, eqb, List, [], ◌∷◌, ◌++◌, Option, Some, None, codes, decimal, refl, arith}
use Rattle.std.proofs.lemmas.Bool.{and_parts}
use Rattle.std.proofs.lemmas.Bool.Decides.{nat_tests}
use Rattle.std.proofs.lemmas.List.Folds.{list_all-append}
use Rattle.std.specs.List.{list_all}
use Rattle.std.specs.Option.{option_map_or}
use Rattle.intervals.specs.declared.claim.Kind.{Kind}
use Rattle.intervals.specs.declared.claim.Kind.TheVariants.{Safe, Regular, Atomic}
use Rattle.intervals.specs.declared.operation.OpId.{OpId}
use Rattle.intervals.specs.declared.operation.RegId.{RegId}
use Rattle.register_book.specs.declared.fault.Witness.{Witness}
use Rattle.register_book.specs.Fault.{ids_of}
use Rattle.logs.specs.Code.{break_code_of}
use Rattle.logs.specs.declared.log.BreakCode.{BreakCode}
use Rattle.logs.specs.declared.log.Broken.{Broken}
use Rattle.logs.specs.declared.log.Log.{Log}
use Rattle.phrases.specs.Fault.{fault_text}
use Rattle.phrases.specs.Names.{kind_word, place_text, register_name}
use Rattle.places.specs.Spots.{line_of_byte}
use Rattle.report.specs.declared.finding.Finding.{Finding}
use Rattle.report.specs.Doubted.{first_rested}
use Rattle.ci_forms.specs.declared.facts.TheConstants.{IN_DOUBT}
use Rattle.ci_forms.specs.Bytes.{is_line, is_property_byte}
use Rattle.ci_forms.specs.Facts.{CiFacts, break_text, doubt_words, first_shown, is_to_blame, op_line, trace_name, why_text}
use Rattle.ci_forms.specs.GitHub.{break_command, break_command_of, break_commands, break_end, command_word, failure_command, failure_command_of, failure_commands, file_property, first_properties, name_property, place_properties, title_property}
use Rattle.ci_forms.proofs.Escapes.{file_stays, name_stays}
use Rattle.ci_forms.proofs.Lines.{IsWithin, fault_within, is_within, line_after, number_within, place_within, two}

-- properties

property_within : (b : ℕ) → is_property_byte b ≡ true → is_within b ≡ true
property_within b is = grind (arith, nat_tests)

properties_within : (bytes : List ℕ) → list_all is_property_byte bytes ≡ true → IsWithin bytes
properties_within [] all = refl
properties_within (b ∷ bytes) all =
    let parts = and_parts (is_property_byte b) (list_all is_property_byte bytes) all in
    rw (property_within b parts.0, properties_within bytes parts.1) refl

spot_within : (name : List ℕ) (line : Option ℕ) → IsWithin (place_properties name line)
spot_within name None = refl
spot_within name (Some line) =
    let file = two (codes "file=") (file_property name) refl (properties_within (file_property name) (file_stays name)) in
    let key = two (codes "file=" ++ file_property name) (codes ",line=") file refl in
    let number = two (codes "file=" ++ file_property name ++ codes ",line=") (decimal line) key (number_within line) in
    two (codes "file=" ++ file_property name ++ codes ",line=" ++ decimal line) (codes ",") number refl

first_within : (facts : CiFacts) (first : Option OpId) → IsWithin (first_properties facts first)
first_within facts None = refl
first_within facts (Some id) = spot_within (trace_name facts.traces id.feeder) (op_line facts.places id)

word_within : (culprit : Bool) → IsWithin (command_word culprit)
word_within true = refl
word_within false = refl

title_within : (name : List ℕ) → IsWithin (title_property name)
unfolding title_property
title_within name =
    two (codes "title=register " ++ name_property name) (codes " fails::") (two (codes "title=register ") (name_property name) refl (properties_within (name_property name) (name_stays name))) refl

-- messages

kind_within : (kind : Kind) → IsWithin (kind_word kind)
kind_within Safe = refl
kind_within Regular = refl
kind_within Atomic = refl

doubt_within : (rests : Option (ℕ × ℕ)) → IsWithin (doubt_words rests)
unfolding doubt_words
doubt_within None = refl
doubt_within (Some at) =
    two (IN_DOUBT.now ++ place_text at.0 at.1) (codes ")") (two IN_DOUBT.now (place_text at.0 at.1) refl (place_within at.0 at.1)) refl

why_within : (kind : Kind) (witness : Witness) (rests : Option (ℕ × ℕ)) → IsWithin (why_text kind witness rests)
unfolding why_text
why_within kind witness rests =
    let head = two (kind_word kind) (codes ": ") (kind_within kind) refl in
    let fault = two (kind_word kind ++ codes ": ") (fault_text (ids_of witness)) head (fault_within (ids_of witness)) in
    two (kind_word kind ++ codes ": " ++ fault_text (ids_of witness)) (doubt_words rests) fault (doubt_within rests)

code_within : (code : BreakCode) → IsWithin (break_code_of code)
code_within code = grind arith

break_within : (feeder : ℕ) (broken : Broken) → IsWithin (break_text feeder broken)
unfolding break_text
break_within feeder broken =
    let trace = codes "broken " ++ decimal feeder in
    let code = trace ++ codes " " ++ break_code_of broken.code in
    let one = two (codes "broken ") (decimal feeder) refl (number_within feeder) in
    let other = two (trace ++ codes " ") (break_code_of broken.code) (two trace (codes " ") one refl) (code_within broken.code) in
    two (code ++ codes " at ") (decimal broken.place) (two code (codes " at ") other refl) (number_within broken.place)

-- commands

failure_line : (facts : CiFacts) (id : RegId) (kind : Kind) (witness : Witness) → is_line (failure_command facts id kind witness) ≡ true
unfolding failure_command
failure_line facts id kind witness =
    let word = command_word (is_to_blame facts id) in
    let first = first_properties facts (first_shown witness) in
    let title = title_property (register_name facts.tower.registers id) in
    let why = why_text kind witness (first_rested facts.doubts id) in
    line_after (word ++ first ++ title ++ why) (10 ∷ [])
    (two (word ++ first ++ title) why
    (two (word ++ first) title (two word first (word_within (is_to_blame facts id)) (first_within facts (first_shown witness))) (title_within (register_name facts.tower.registers id)))
    (why_within kind witness (first_rested facts.doubts id)))

end_line : (feeder : ℕ) (broken : Broken) → is_line (break_end feeder broken) ≡ true
unfolding break_end
end_line feeder broken =
    let code = break_code_of broken.code in
    line_after (codes "title=" ++ code ++ codes "::" ++ break_text feeder broken) (10 ∷ [])
    (two (codes "title=" ++ code ++ codes "::") (break_text feeder broken)
    (two (codes "title=" ++ code) (codes "::") (two (codes "title=") code refl (code_within broken.code)) refl) (break_within feeder broken))

break_line_is : (facts : CiFacts) (feeder : ℕ) (broken : Broken) → is_line (break_command facts feeder broken) ≡ true
unfolding break_command
break_line_is facts feeder broken =
    let spot = place_properties (trace_name facts.traces feeder) (line_of_byte facts.places feeder broken.place) in
    line_after (codes "::error " ++ spot) (break_end feeder broken)
    (two (codes "::error ") spot refl (spot_within (trace_name facts.traces feeder) (line_of_byte facts.places feeder broken.place))) ∙ end_line feeder broken

-- commands of registers and of traces

failure_lines_of : (facts : CiFacts) (id : RegId) (kind : Kind) (witness : Option Witness) → list_all is_line (option_map_or (λ witness. failure_command facts id kind witness ∷ []) witness []) ≡ true
failure_lines_of facts id kind None = refl
failure_lines_of facts id kind (Some witness) = rw (failure_line facts id kind witness) refl

pub failure_lines : (facts : CiFacts) (number : ℕ) (findings : List Finding) → list_all is_line (failure_commands facts number findings) ≡ true
failure_lines facts number [] = refl
failure_lines facts number (finding ∷ findings) =
    list_all-append is_line (failure_command_of facts number finding) (failure_commands facts (number + 1) findings)
    ∙ rw (failure_lines_of facts (record { 0 = number }) finding.kind finding.witness, failure_lines facts (number + 1) findings) refl

break_lines_of : (facts : CiFacts) (feeder : ℕ) (broken : Option Broken) → list_all is_line (break_command_of facts feeder broken) ≡ true
break_lines_of facts feeder None = refl
break_lines_of facts feeder (Some broken) = rw (break_line_is facts feeder broken) refl

pub break_lines : (facts : CiFacts) (feeder : ℕ) (logs : List Log) → list_all is_line (break_commands facts feeder logs) ≡ true
break_lines facts feeder [] = refl
break_lines facts feeder (log ∷ logs) =
    list_all-append is_line (break_command_of facts feeder log.broken) (break_commands facts (feeder + 1) logs)
    ∙ rw (break_lines_of facts feeder log.broken, break_lines facts (feeder + 1) logs) refl
