-- What is amiss in a run as GitHub's workflow commands.
use Rattle.std.specs.Prelude.{ℕ, ◌+◌, ◌==◌, Bool, List, [], ◌∷◌, ◌++◌, Option, Some, None, codes, encode_utf8, flat_map, length, map, nat_eq, if◌then◌else◌}
use Rattle.std.specs.Option.{option_map_or}
use Rattle.std.specs.Fmt.{decimal}
use Rattle.bstr.specs.Utf8.{lossy_chars}
use Rattle.intervals.specs.declared.claim.Kind.{Kind}
use Rattle.intervals.specs.declared.operation.OpId.{OpId}
use Rattle.intervals.specs.declared.operation.RegId.{RegId}
use Rattle.register_book.specs.declared.fault.Witness.{Witness}
use Rattle.logs.specs.Code.{break_code_of}
use Rattle.logs.specs.declared.log.Broken.{Broken}
use Rattle.logs.specs.declared.log.Log.{Log}
use Rattle.phrases.specs.Names.{printed_char, register_name}
use Rattle.places.specs.Spots.{line_of_byte}
use Rattle.report.specs.declared.finding.Finding.{Finding}
use Rattle.report.specs.Doubted.{first_rested}
use Rattle.report.specs.Refused.{refused}
use Rattle.ci_forms.specs.declared.github.TheConstants.{FAILS, TITLE}
use Rattle.ci_forms.specs.Facts.{CiFacts, break_text, few_of_all, few_of_each, first_shown, is_to_blame, concatenated, op_line, trace_name, why_text}

-- a character of a property: a percent sign, a line end, a colon and a comma as a percent sign and two digits
abbrev pub property_char : ℕ → List ℕ
property_char c =
    if c == 37 then codes "%25"
    else (if c == 13 then codes "%0D"
    else (if c == 10 then codes "%0A"
    else (if c == 58 then codes "%3A"
    else (if c == 44 then codes "%2C" else encode_utf8 c))))

-- the name of a file as a property
unfoldable pub file_property : List ℕ → List ℕ
file_property name = flat_map property_char (lossy_chars name)

-- a name as it is printed, as a property
unfoldable pub name_property : List ℕ → List ℕ
name_property name = flat_map property_char (map printed_char (lossy_chars name))

-- a file and a line in it as properties; empty where the line is not known
abbrev pub place_properties : List ℕ → Option ℕ → List ℕ
place_properties name None = []
place_properties name (Some line) = codes "file=" ++ file_property name ++ codes ",line=" ++ decimal line ++ codes ","

-- the file and the line of an operation's invocation, if there is one
abbrev pub first_properties : CiFacts → Option OpId → List ℕ
first_properties facts None = []
first_properties facts (Some id) = place_properties (trace_name facts.traces id.feeder) (op_line facts.places id)

-- the command for a register that fails: an error for a culprit, else a warning
abbrev pub command_word : Bool → List ℕ
command_word culprit = if culprit then codes "::error " else codes "::warning "

-- the title of a register that fails, up to the message
unfoldable pub title_property : List ℕ → List ℕ
title_property name = TITLE.now ++ name_property name ++ FAILS.now

-- the command of a register that fails
unfoldable pub failure_command : CiFacts → RegId → Kind → Witness → List ℕ
failure_command facts id kind witness =
    command_word (is_to_blame facts id) ++ first_properties facts (first_shown witness) ++ title_property (register_name facts.tower.registers id)
    ++ why_text kind witness (first_rested facts.doubts id) ++ 10 ∷ []

-- the command of the register of this number as a list; none where it holds
abbrev pub failure_command_of : CiFacts → ℕ → Finding → List (List ℕ)
failure_command_of facts number finding = option_map_or (λ witness. failure_command facts (record { 0 = number }) finding.kind witness ∷ []) finding.witness []

-- the commands of registers, of which the first has this number
abbrev pub failure_commands : CiFacts → ℕ → List Finding → List (List ℕ)
failure_commands facts number [] = []
failure_commands facts number (finding ∷ findings) = failure_command_of facts number finding ++ failure_commands facts (number + 1) findings

-- the title of a break, and its message
unfoldable pub break_end : ℕ → Broken → List ℕ
break_end feeder broken = codes "title=" ++ break_code_of broken.code ++ codes "::" ++ break_text feeder broken ++ 10 ∷ []

-- the command of a trace that broke
unfoldable pub break_command : CiFacts → ℕ → Broken → List ℕ
break_command facts feeder broken =
    codes "::error " ++ place_properties (trace_name facts.traces feeder) (line_of_byte facts.places feeder broken.place) ++ break_end feeder broken

-- the command of the trace of this number as a list; none where it did not break
abbrev pub break_command_of : CiFacts → ℕ → Option Broken → List (List ℕ)
break_command_of facts feeder None = []
break_command_of facts feeder (Some broken) = break_command facts feeder broken ∷ []

-- the commands of traces, of which the first has this number
abbrev pub break_commands : CiFacts → ℕ → List Log → List (List ℕ)
break_commands facts feeder [] = []
break_commands facts feeder (log ∷ logs) = break_command_of facts feeder log.broken ++ break_commands facts (feeder + 1) logs

-- the command of a line that says what is too few; empty where the line is
unfoldable pub few_command : List ℕ → List ℕ
few_command line = if nat_eq (length line) 0 then [] else codes "::error title=too few::" ++ line

-- the command of so many refused elements; empty where there are none
unfoldable pub refused_command : ℕ → List ℕ
refused_command many =
    if nat_eq many 0 then []
    else codes "::notice title=refused::elements refused: " ++ decimal many ++ codes "; regaudit lint --as github has each at its line\n"

-- all commands of a run: of the registers that fail, of the traces that broke, of what is too few, and of what was refused
abbrev pub github_text : CiFacts → List ℕ
github_text facts =
    concatenated (failure_commands facts 0 facts.findings) ++ concatenated (break_commands facts 0 facts.logs)
    ++ few_command (few_of_all facts.least facts.findings) ++ few_command (few_of_each facts.least facts.findings)
    ++ refused_command (refused facts.logs)
