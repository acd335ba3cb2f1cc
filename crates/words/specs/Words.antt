-- The commands with their arguments, and what words ask for.
use Rattle.std.specs.Prelude.{◌≡◌, ◌==◌, ◌||◌, ◌&&◌, ◌<◌, ◌≤◌, ◌-◌, ◌^◌, ⊤, ℕ, Bool, true, false, not, List, [], ◌∷◌, length, map, Option, Some, None, codes, if◌then◌else◌, option_and_then, unwrap_or}
use Rattle.std.specs.Option.{option_map, option_map_or}
use Rattle.std.specs.Str.{bytes_eq}
use Rattle.std.specs.Str.Parse.{digits_value, signed_digits_value, without_leading_plus, without_leading_sign}
use Rattle.clap.specs.Lexer.{usize_max}
use Rattle.clap.specs.Words.{App, Row, Rule, Text, all_of, first_of, new_app, new_rule, subcommand_of, with_rule, with_subcommand}
use Rattle.clap.specs.Faults.{fault_of}
use Rattle.clap.specs.ValueTests.{fits_i64, is_numeral, is_unsigned_in}
use Rattle.clap.specs.declared.builder.action.ArgAction.TheVariants.{SetTrue}
use Rattle.clap.specs.declared.builder.value_parser.ValueParser.TheVariants as parsers
use Rattle.intervals.specs.declared.claim.Initial.{Initial}
use Rattle.intervals.specs.declared.claim.Initial.TheVariants.{Known, Unknown}
use Rattle.intervals.specs.declared.claim.Kind.{Kind}
use Rattle.intervals.specs.declared.claim.Kind.TheVariants.{Safe as SafeKind, Regular, Atomic}
use Rattle.intervals.specs.declared.operation.Value.TheVariants.{Nil, Int}
use Rattle.words.specs.declared.check.Check.{Check as HeldCheck}
use Rattle.words.specs.declared.check.ReportForm.{ReportForm}
use Rattle.words.specs.declared.check.ReportForm.TheVariants.{Report, Summary, Json, Edn, GitHub, Junit, Trace}
use Rattle.jepsen_form.specs.declared.item.MomentField.{MomentField}
use Rattle.jepsen_form.specs.declared.item.MomentField.TheVariants.{Index, Time}
use Rattle.words.specs.declared.colour.ColourWord.{ColourWord}
use Rattle.words.specs.declared.colour.ColourWord.TheVariants as colours
use Rattle.words.specs.declared.demand.Demand.{Demand}
use Rattle.words.specs.declared.keys.Keys.{Keys as HeldKeys}
use Rattle.words.specs.declared.lint.Lint.{Lint as HeldLint}
use Rattle.words.specs.declared.lint.LintForm.{LintForm}
use Rattle.words.specs.declared.lint.LintForm.TheVariants as lint_forms
use Rattle.words.specs.declared.show.Picture.{Picture}
use Rattle.words.specs.declared.show.Picture.TheVariants as pictures
use Rattle.words.specs.declared.show.Show.{Show as HeldShow}
use Rattle.words.specs.declared.show.ThemeWord.{ThemeWord}
use Rattle.words.specs.declared.show.ThemeWord.TheVariants.{Auto, Light, Dark}
use Rattle.words.specs.declared.watch.LineForm.{LineForm}
use Rattle.words.specs.declared.watch.LineForm.TheVariants as line_forms
use Rattle.words.specs.declared.watch.Watch.{Watch as HeldWatch}
use Rattle.words.specs.declared.completion.Shell.{Shell}
use Rattle.words.specs.Completion.{shell_named}
use Rattle.words.specs.declared.tower.TowerWord.{TowerWord}
use Rattle.words.specs.declared.tower.TowerWord.TheVariants as words
use Rattle.words.specs.declared.words.Command.{Command}
use Rattle.words.specs.declared.words.Command.TheVariants as commands

-- the option `--tower FILE`
abbrev pub tower_rule : Rule
tower_rule = record (new_rule (codes "tower")) { long = Some (codes "tower"); value_names = 1 }

-- the option `--each KIND`
abbrev pub each_rule : Rule
each_rule = record (new_rule (codes "each")) { long = Some (codes "each"); value_names = 1 }

-- a command, with `--tower` and `--each` added
abbrev pub with_tower : App → App
with_tower options = with_rule (with_rule options tower_rule) each_rule

-- the option `--shards N`, from 1 to 64; 1 where it is not given
abbrev pub shards_rule : Rule
shards_rule = record (new_rule (codes "shards")) { long = Some (codes "shards"); value_names = 1; defaults = codes "1" ∷ []; parser = Some (parsers.Unsigned 1 64) }

-- the option `--moment FIELD`; `index` where it is not given
abbrev pub moment_rule : Rule
moment_rule = record (new_rule (codes "moment")) { long = Some (codes "moment"); value_names = 1; defaults = codes "index" ∷ [] }

-- the option `--order NAME`
abbrev pub order_rule : Rule
order_rule = record (new_rule (codes "order")) { long = Some (codes "order"); value_names = 1 }

-- the option `--as FORM` of `check` and of `watch`; `text` where it is not given
abbrev pub form_rule : Rule
form_rule = record (new_rule (codes "as")) { long = Some (codes "as"); value_names = 1; defaults = codes "text" ∷ [] }

-- the option `--only WHICH`
abbrev pub only_rule : Rule
only_rule = record (new_rule (codes "only")) { long = Some (codes "only"); value_names = 1 }

-- the option `--NAME N` of this name, a number below 2^64; this default where it is not given
abbrev pub count_rule : Text → Text → Rule
count_rule name default = record (new_rule name) { long = Some name; value_names = 1; defaults = default ∷ []; parser = Some (parsers.Unsigned 0 (2 ^ 64 - 1)) }

-- the arguments `TRACE..`, one or more
abbrev pub traces_rule : Rule
traces_rule = record (new_rule (codes "TRACE")) { range = Some (record { start_inclusive = 1; end_inclusive = usize_max }); required = true }

-- the option `--doubt STATUS`, from 0 to 255; 1 where it is not given
abbrev pub doubt_rule : Rule
doubt_rule = record (new_rule (codes "doubt")) { long = Some (codes "doubt"); value_names = 1; defaults = codes "1" ∷ []; parser = Some (parsers.Unsigned 0 255) }

-- a command, with `--least`, `--least-each`, `--doubt` and `TRACE..` added
abbrev pub with_demand : App → App
with_demand options = with_rule (with_rule (with_rule (with_rule options (count_rule (codes "least") (codes "0"))) (count_rule (codes "least-each") (codes "0"))) doubt_rule) traces_rule

-- `check [--tower FILE] [--each KIND] [--shards N] [--moment FIELD] [--order NAME] [--as FORM] [--only WHICH] [--least N]
-- [--least-each N] [--doubt STATUS] TRACE..`
abbrev pub check_line : App
check_line = with_demand (with_rule (with_rule (with_rule (with_rule (with_rule (with_tower (new_app (codes "check"))) shards_rule) moment_rule) order_rule) form_rule) only_rule)

-- the flag `--NAME` of this name
abbrev pub flag_rule : Text → Rule
flag_rule name = record (new_rule name) { long = Some name; action = Some SetTrue }

-- a command, with `--as`, `--until-fail` and `--settle` added
abbrev pub with_watch_options : App → App
with_watch_options options = with_rule (with_rule (with_rule options form_rule) (flag_rule (codes "until-fail"))) (count_rule (codes "settle") (codes "0"))

-- `watch [--tower FILE] [--each KIND] [--moment FIELD] [--shards N] [--as FORM] [--until-fail] [--settle N] [--least N]
-- [--least-each N] [--doubt STATUS] TRACE..`
abbrev pub watch_line : App
watch_line = with_demand (with_watch_options (with_rule (with_rule (with_tower (new_app (codes "watch"))) moment_rule) shards_rule))

-- the option `--register NAME`
abbrev pub register_rule : Rule
register_rule = record (new_rule (codes "register")) { long = Some (codes "register"); value_names = 1 }

-- the option `--width N`, from 20 to 1000000
abbrev pub width_rule : Rule
width_rule = record (new_rule (codes "width")) { long = Some (codes "width"); value_names = 1; parser = Some (parsers.Unsigned 20 1000000) }

-- the option `--theme THEME`; `auto` where it is not given
abbrev pub theme_rule : Rule
theme_rule = record (new_rule (codes "theme")) { long = Some (codes "theme"); value_names = 1; defaults = codes "auto" ∷ [] }

-- the option `--colour WHEN`; `auto` where it is not given
abbrev pub colour_rule : Rule
colour_rule = record (new_rule (codes "colour")) { long = Some (codes "colour"); value_names = 1; defaults = codes "auto" ∷ [] }

-- a command, with `--svg`, `--html` and `--ascii` added
abbrev pub with_pictures : App → App
with_pictures options = with_rule (with_rule (with_rule options (flag_rule (codes "svg"))) (flag_rule (codes "html"))) (flag_rule (codes "ascii"))

-- a command, with `--around`, `--all`, `--width`, `--theme` and `--colour` added
abbrev pub with_show_options : App → App
with_show_options options =
    with_rule (with_rule (with_rule (with_rule (with_rule options (count_rule (codes "around") (codes "3"))) (flag_rule (codes "all"))) width_rule) theme_rule) colour_rule

-- `show [--tower FILE] [--each KIND] [--moment FIELD] [--register NAME] [--svg] [--html] [--ascii] [--around N] [--all] [--width N]
-- [--theme THEME] [--colour WHEN] [--least N] [--least-each N] [--doubt STATUS] TRACE..`
abbrev pub show_line : App
show_line = with_demand (with_show_options (with_pictures (with_rule (with_rule (with_tower (new_app (codes "show"))) moment_rule) register_rule)))

-- the option `--as FORM` of `lint`; `human` where it is not given
abbrev pub amiss_rule : Rule
amiss_rule = record (new_rule (codes "as")) { long = Some (codes "as"); value_names = 1; defaults = codes "human" ∷ [] }

-- the option `--deny CODES`
abbrev pub deny_rule : Rule
deny_rule = record (new_rule (codes "deny")) { long = Some (codes "deny"); value_names = 1 }

-- the arguments `TRACE..`, any number of them
abbrev pub any_traces_rule : Rule
any_traces_rule = record (new_rule (codes "TRACE")) { range = Some (record { start_inclusive = 1; end_inclusive = usize_max }) }

-- a command, with `--max`, `--deny`, `--colour` and any number of `TRACE..` added
abbrev pub with_lint_options : App → App
with_lint_options options = with_rule (with_rule (with_rule (with_rule options (count_rule (codes "max") (codes "3"))) deny_rule) colour_rule) any_traces_rule

-- the command `lint [--tower FILE] [--each KIND] [--moment FIELD] [--as FORM] [--max N] [--deny CODES] [--colour WHEN] [TRACE..]`
abbrev pub lint_line : App
lint_line = with_lint_options (with_rule (with_rule (with_tower (new_app (codes "lint"))) moment_rule) amiss_rule)

-- the option `--kind KIND`; `atomic` where it is not given
abbrev pub kind_rule : Rule
kind_rule = record (new_rule (codes "kind")) { long = Some (codes "kind"); value_names = 1; defaults = codes "atomic" ∷ [] }

-- the option `--initial VALUE`; `nil` where it is not given
abbrev pub initial_rule : Rule
initial_rule = record (new_rule (codes "initial")) { long = Some (codes "initial"); value_names = 1; defaults = codes "nil" ∷ [] }

-- the option `--writers WHO`
abbrev pub writers_rule : Rule
writers_rule = record (new_rule (codes "writers")) { long = Some (codes "writers"); value_names = 1 }

-- the command `keys [--kind KIND] [--initial VALUE] [--writers WHO] TRACE..`
abbrev pub keys_line : App
keys_line = with_rule (with_rule (with_rule (with_rule (new_app (codes "keys")) kind_rule) initial_rule) writers_rule) traces_rule

-- the command `safe [TRACE]`
abbrev pub safe_line : App
safe_line = with_rule (new_app (codes "safe")) (new_rule (codes "TRACE"))

-- the command `tower FILE`
abbrev pub tower_line : App
tower_line = with_rule (new_app (codes "tower")) (record (new_rule (codes "FILE")) { required = true })

-- the command `explain [--colour WHEN] [CODE]`
abbrev pub explain_line : App
explain_line = with_rule (with_rule (new_app (codes "explain")) colour_rule) (new_rule (codes "CODE"))

-- the command `version`
abbrev pub version_line : App
version_line = new_app (codes "version")

-- the command `manual`
abbrev pub manual_line : App
manual_line = new_app (codes "manual")

-- the argument `SHELL`, which has to be given
abbrev pub shell_rule : Rule
shell_rule = record (new_rule (codes "SHELL")) { required = true }

-- the command `completion SHELL`
abbrev pub completion_line : App
completion_line = with_rule (new_app (codes "completion")) shell_rule

-- the name of the program, `regaudit`, after which there has to be a command
abbrev pub program_line : App
program_line = let alone = new_app (codes "regaudit") in record alone { top = record alone.top { subcommand_required = true } }

-- a line, with the commands `keys`, `safe` and `tower` added
abbrev pub with_files : App → App
with_files line = with_subcommand (with_subcommand (with_subcommand line keys_line.top) safe_line.top) tower_line.top

-- a line, with the commands `explain`, `version` and `manual` added
abbrev pub with_texts : App → App
with_texts line = with_subcommand (with_subcommand (with_subcommand line explain_line.top) version_line.top) manual_line.top

-- a line, with the commands `check`, `watch`, `show` and `lint` added
abbrev pub with_audits : App → App
with_audits line = with_subcommand (with_subcommand (with_subcommand (with_subcommand line check_line.top) watch_line.top) show_line.top) lint_line.top

-- the whole command line: the program and its commands
abbrev pub command_line : App
command_line = with_subcommand (with_texts (with_files (with_audits program_line))) completion_line.top

-- nothing has to be met, and the status of a failure is 1
abbrev pub no_demand : Demand
no_demand = record { least = 0; least_each = 0; doubt = 1 }

-- the tower that words ask for: that of a tower file, or that of the registers that the traces name, each of this kind
pub data AskedTower : Type 0 where
  OfFile : (file : Text) → AskedTower
  OfTraces : (kind : Kind) → AskedTower

-- the name of the tower file that is asked for, if there is one
abbrev pub file_of : AskedTower → Option Text
file_of (OfFile file) = Some file
file_of (OfTraces kind) = None

-- what the words of `check` ask for
pub record AskedCheck : Type 0 where
  pub tower : AskedTower
  pub shards : ℕ
  pub moments : MomentField
  pub order : Option Text
  pub form : ReportForm
  pub only_failing : Bool
  pub demand : Demand
  pub traces : List Text

-- what the words of `watch` ask for
pub record AskedWatch : Type 0 where
  pub tower : AskedTower
  pub shards : ℕ
  pub moments : MomentField
  pub form : LineForm
  pub until_fail : Bool
  pub settle : ℕ
  pub demand : Demand
  pub traces : List Text

-- what the words of `show` ask for
pub record AskedShow : Type 0 where
  pub tower : AskedTower
  pub moments : MomentField
  pub register : Option Text
  pub picture : Picture
  pub around : ℕ
  pub all : Bool
  pub width : Option ℕ
  pub theme : ThemeWord
  pub colours : ColourWord
  pub demand : Demand
  pub traces : List Text

-- what the words of `lint` ask for
pub record AskedLint : Type 0 where
  pub tower : AskedTower
  pub moments : MomentField
  pub form : LintForm
  pub most : ℕ
  pub denied : Option Text
  pub colours : ColourWord
  pub traces : List Text

-- what the words of `keys` ask for
pub record AskedKeys : Type 0 where
  pub kind : Kind
  pub initial : Initial
  pub any_writes : Bool
  pub traces : List Text

-- a command with what it asks for; `safe` without a trace judges standard input, `explain` without a code lists all
-- of them
pub data Asked : Type 0 where
  Safe : (trace : Option Text) → Asked
  Check : (check : AskedCheck) → Asked
  Watch : (watch : AskedWatch) → Asked
  Show : (show : AskedShow) → Asked
  Lint : (lint : AskedLint) → Asked
  Keys : (keys : AskedKeys) → Asked
  Tower : (file : Text) → Asked
  Explain : (code : Option Text) (colours : ColourWord) → Asked
  Version : Asked
  Manual : Asked
  Completion : (shell : Shell) → Asked

-- the kind that a text names: `atomic`, `regular` or `safe`
abbrev pub kind_named : Text → Option Kind
kind_named text =
    if bytes_eq text (codes "atomic") then Some Atomic
    else (if bytes_eq text (codes "regular") then Some Regular
    else (if bytes_eq text (codes "safe") then Some SafeKind else None))

-- whether a kind is atomic
abbrev pub is_atomic : Kind → Bool
is_atomic Atomic = true
is_atomic Regular = false
is_atomic SafeKind = false

-- that nobody knows the initial value, which an atomic register may say alone
abbrev pub unknown_if : Kind → Option Initial
unknown_if kind = if is_atomic kind then Some Unknown else None

-- the text is an integer of 64 bits: digits, after a sign or none
abbrev pub is_integer : Text → Bool
is_integer text = is_numeral (without_leading_sign text) && fits_i64 (signed_digits_value 10 text)

-- the initial value that a text gives to a register of this kind: `nil`, `unknown`, or an integer of 64 bits
abbrev pub initial_named : Kind → Text → Option Initial
initial_named kind text =
    if bytes_eq text (codes "nil") then Some (Known Nil)
    else (if bytes_eq text (codes "unknown") then unknown_if kind
    else (if is_integer text then Some (Known (Int (signed_digits_value 10 text))) else None))

-- whether any process may write a register of this kind, by the word of `--writers`: `any`, which an atomic register may
-- say alone, or `first`
abbrev pub any_in : Kind → Text → Option Bool
any_in kind text = if bytes_eq text (codes "first") then Some false else (if bytes_eq text (codes "any") && is_atomic kind then Some true else None)

-- the number of shards that a text gives: digits, after a plus or none, from 1 to 64
abbrev pub shards_in : Text → Option ℕ
shards_in text = if is_unsigned_in 1 64 text then Some (digits_value 10 (without_leading_plus text)) else None

-- the field of moments that a text names: `index` or `time`
abbrev pub moments_in : Text → Option MomentField
moments_in text = if bytes_eq text (codes "index") then Some Index else (if bytes_eq text (codes "time") then Some Time else None)

-- the form of a report that a text names: `text`, `summary`, `json`, `edn`, `github`, `junit` or `trace`
abbrev pub form_in : Text → Option ReportForm
form_in text =
    if bytes_eq text (codes "text") then Some Report
    else (if bytes_eq text (codes "summary") then Some Summary
    else (if bytes_eq text (codes "json") then Some Json
    else (if bytes_eq text (codes "edn") then Some Edn
    else (if bytes_eq text (codes "github") then Some GitHub
    else (if bytes_eq text (codes "junit") then Some Junit
    else (if bytes_eq text (codes "trace") then Some Trace else None))))))

-- a report of this form is made of records, in JSON or EDN
abbrev pub has_records : ReportForm → Bool
has_records Report = false
has_records Summary = false
has_records Json = true
has_records Edn = true
has_records GitHub = false
has_records Junit = false
has_records Trace = false

-- a report of this form names the lines of elements
abbrev pub names_lines : ReportForm → Bool
names_lines Report = false
names_lines Summary = false
names_lines Json = true
names_lines Edn = true
names_lines GitHub = true
names_lines Junit = true
names_lines Trace = false

-- the word of `--only`, to a report of this form: `failing`, that only the registers that fail have a record; none
-- where it is another word, or the report has no records
abbrev pub only_in : ReportForm → Text → Option Bool
only_in form text = if bytes_eq text (codes "failing") && has_records form then Some true else None

-- the picture that the flags `--svg`, `--html` and `--ascii` ask for: lines of text without any; none where two are set
abbrev pub picture_in : Bool → Bool → Bool → Option Picture
picture_in svg html ascii =
    if svg then (if html || ascii then None else Some pictures.Svg)
    else (if html then (if ascii then None else Some pictures.Html)
    else (if ascii then Some pictures.Ascii else Some pictures.Text))

-- the colours that a text names: `auto`, `light` or `dark`
abbrev pub theme_in : Text → Option ThemeWord
theme_in text =
    if bytes_eq text (codes "auto") then Some Auto
    else (if bytes_eq text (codes "light") then Some Light
    else (if bytes_eq text (codes "dark") then Some Dark else None))

-- whether a picture is drawn in lines of a terminal
abbrev pub is_in_lines : Picture → Bool
is_in_lines pictures.Text = true
is_in_lines pictures.Ascii = true
is_in_lines pictures.Svg = false
is_in_lines pictures.Html = false

-- whether findings of this form are lines for people
abbrev pub is_for_people : LintForm → Bool
is_for_people lint_forms.Human = true
is_for_people lint_forms.Short = false
is_for_people lint_forms.GitHub = false
is_for_people lint_forms.Json = false

-- the colours that a text asks for, of lines for people or of something else: `never`, `auto` or `always`; something else
-- has none by `auto`, and `always` does not go with it
abbrev pub colours_in : Bool → Text → Option ColourWord
colours_in for_people text =
    if bytes_eq text (codes "never") then Some colours.Never
    else (if bytes_eq text (codes "auto") then Some (if for_people then colours.Auto else colours.Never)
    else (if bytes_eq text (codes "always") && for_people then Some colours.Always else None))

-- the form of findings that a text names: `human`, `short`, `github` or `json`
abbrev pub lint_form_in : Text → Option LintForm
lint_form_in text =
    if bytes_eq text (codes "human") then Some lint_forms.Human
    else (if bytes_eq text (codes "short") then Some lint_forms.Short
    else (if bytes_eq text (codes "github") then Some lint_forms.GitHub
    else (if bytes_eq text (codes "json") then Some lint_forms.Json else None)))

-- what the lines of `watch` are that a text names: `text`, lines for people, or `json`
abbrev pub line_form_in : Text → Option LineForm
line_form_in text = if bytes_eq text (codes "text") then Some line_forms.Text else (if bytes_eq text (codes "json") then Some line_forms.Json else None)

-- the number that a text gives: digits, after a plus or none, below 2^64
abbrev pub count_in : Text → Option ℕ
count_in text = if is_unsigned_in 0 (2 ^ 64 - 1) text then Some (digits_value 10 (without_leading_plus text)) else None

-- the traces among the arguments that were found
abbrev pub traces_in : List Row → List Text
traces_in rows = unwrap_or (all_of (codes "TRACE") rows) []

-- what the value of the argument of this name gives, by this reading; none where it is not there or gives nothing
abbrev pub said_in : {A : Type 0} → (Text → Option A) → Text → List Row → Option A
said_in says name rows = option_and_then says (first_of name rows)

-- the flag of this name is among the arguments: its value is `true` where it is, and `false` where it is not
abbrev pub is_set : Text → List Row → Bool
is_set name rows = option_map_or (λ value. bytes_eq value (codes "true")) (first_of name rows) false

-- only the registers that fail have a record, by the arguments to a report of this form: all of them have one where
-- `--only` is not given
abbrev pub only_by : ReportForm → List Row → Option Bool
only_by form rows = option_map_or (only_in form) (first_of (codes "only") rows) (Some false)

-- the status that a text gives: digits, after a plus or none, from 0 to 255
abbrev pub status_in : Text → Option ℕ
status_in text = if is_unsigned_in 0 255 text then Some (digits_value 10 (without_leading_plus text)) else None

-- what has to be met by these arguments, or none
abbrev pub demand_by : List Row → Option Demand
demand_by rows =
    option_and_then (λ least. option_and_then (λ least_each. option_map (λ doubt. record { least = least; least_each = least_each; doubt = doubt })
    (said_in status_in (codes "doubt") rows))
    (said_in count_in (codes "least-each") rows))
    (said_in count_in (codes "least") rows)

-- the tower that these optional words ask for, of `--tower` and `--each`: that of atomic registers where neither is given,
-- and none where both are
abbrev pub tower_in : Option Text → Option Text → Option AskedTower
tower_in (Some file) None = Some (OfFile file)
tower_in (Some file) (Some each) = None
tower_in None None = Some (OfTraces Atomic)
tower_in None (Some each) = option_map OfTraces (kind_named each)

-- the tower that these arguments ask for, or none
abbrev pub tower_by : List Row → Option AskedTower
tower_by rows = tower_in (first_of (codes "tower") rows) (first_of (codes "each") rows)

-- what `check` asks for by these values and the other arguments; none where they name no trace
abbrev pub check_of : AskedTower → ℕ → MomentField → ReportForm → Bool → Demand → List Row → Option AskedCheck
check_of tower shards moments form only_failing demand rows =
    if length (traces_in rows) == 0 then None
    else Some (record { tower = tower; shards = shards; moments = moments; order = first_of (codes "order") rows; form = form; only_failing = only_failing; demand = demand; traces = traces_in rows })

-- what `check` asks for by these arguments, or none
abbrev pub check_by : List Row → Option AskedCheck
check_by rows =
    option_and_then (λ tower. option_and_then (λ shards. option_and_then (λ moments. option_and_then (λ form.
    option_and_then (λ only_failing. option_and_then (λ demand. check_of tower shards moments form only_failing demand rows)
    (demand_by rows))
    (only_by form rows))
    (said_in form_in (codes "as") rows))
    (said_in moments_in (codes "moment") rows))
    (said_in shards_in (codes "shards") rows))
    (tower_by rows)

-- what `watch` asks for by these values and the other arguments; none where they name no trace
abbrev pub watch_of : AskedTower → MomentField → ℕ → LineForm → ℕ → Demand → List Row → Option AskedWatch
watch_of tower moments shards form settle demand rows =
    if length (traces_in rows) == 0 then None
    else Some (record { tower = tower; shards = shards; moments = moments; form = form; until_fail = is_set (codes "until-fail") rows; settle = settle; demand = demand; traces = traces_in rows })

-- what `watch` asks for by these arguments, or none
abbrev pub watch_by : List Row → Option AskedWatch
watch_by rows =
    option_and_then (λ tower. option_and_then (λ moments. option_and_then (λ shards. option_and_then (λ form.
    option_and_then (λ settle. option_and_then (λ demand. watch_of tower moments shards form settle demand rows)
    (demand_by rows))
    (said_in count_in (codes "settle") rows))
    (said_in line_form_in (codes "as") rows))
    (said_in shards_in (codes "shards") rows))
    (said_in moments_in (codes "moment") rows))
    (tower_by rows)

-- the picture that the flags among the arguments ask for; none where two are set
abbrev pub picture_by : List Row → Option Picture
picture_by rows = picture_in (is_set (codes "svg") rows) (is_set (codes "html") rows) (is_set (codes "ascii") rows)

-- what `show` asks for by these values and the other arguments; none where they name no trace
abbrev pub show_of : AskedTower → MomentField → Picture → ℕ → ThemeWord → ColourWord → Demand → List Row → Option AskedShow
show_of tower moments picture around theme colours demand rows =
    if length (traces_in rows) == 0 then None
    else Some (record { tower = tower; moments = moments; register = first_of (codes "register") rows; picture = picture; around = around; all = is_set (codes "all") rows; width = said_in count_in (codes "width") rows; theme = theme; colours = colours; demand = demand; traces = traces_in rows })

-- what `show` asks for by these arguments, or none
abbrev pub show_by : List Row → Option AskedShow
show_by rows =
    option_and_then (λ tower. option_and_then (λ moments. option_and_then (λ picture. option_and_then (λ around.
    option_and_then (λ theme. option_and_then (λ colours. option_and_then (λ demand. show_of tower moments picture around theme colours demand rows)
    (demand_by rows))
    (said_in (colours_in (is_in_lines picture)) (codes "colour") rows))
    (said_in theme_in (codes "theme") rows))
    (said_in count_in (codes "around") rows))
    (picture_by rows))
    (said_in moments_in (codes "moment") rows))
    (tower_by rows)

-- whether neither a tower file nor a trace is asked for
abbrev pub is_nothing : AskedTower → List Text → Bool
is_nothing (OfFile file) traces = false
is_nothing (OfTraces kind) traces = length traces == 0

-- what `lint` asks for by these values and the other arguments; none where they name neither a tower file nor a trace
abbrev pub lint_of : AskedTower → MomentField → LintForm → ℕ → ColourWord → List Row → Option AskedLint
lint_of tower moments form most colours rows =
    if is_nothing tower (traces_in rows) then None
    else Some (record { tower = tower; moments = moments; form = form; most = most; denied = first_of (codes "deny") rows; colours = colours; traces = traces_in rows })

-- what `lint` asks for by these arguments, or none
abbrev pub lint_by : List Row → Option AskedLint
lint_by rows =
    option_and_then (λ tower. option_and_then (λ moments. option_and_then (λ form. option_and_then (λ most.
    option_and_then (λ colours. lint_of tower moments form most colours rows)
    (said_in (colours_in (is_for_people form)) (codes "colour") rows))
    (said_in count_in (codes "max") rows))
    (said_in lint_form_in (codes "as") rows))
    (said_in moments_in (codes "moment") rows))
    (tower_by rows)

-- whether any process may write a register of this kind, by the arguments: where `--writers` is not given, of an atomic
-- one alone
abbrev pub any_by : Kind → List Row → Option Bool
any_by kind rows = option_map_or (any_in kind) (first_of (codes "writers") rows) (Some (is_atomic kind))

-- what `keys` asks for by these values and the other arguments; none where they name no trace
abbrev pub keys_of : Kind → Initial → Bool → List Row → Option AskedKeys
keys_of kind initial any_writes rows =
    if length (traces_in rows) == 0 then None
    else Some (record { kind = kind; initial = initial; any_writes = any_writes; traces = traces_in rows })

-- what `keys` asks for by these arguments, or none
abbrev pub keys_by : List Row → Option AskedKeys
keys_by rows =
    option_and_then (λ kind. option_and_then (λ initial. option_and_then (λ any_writes. keys_of kind initial any_writes rows)
    (any_by kind rows))
    (said_in (initial_named kind) (codes "initial") rows))
    (said_in kind_named (codes "kind") rows)

-- the command of this name with what its arguments ask for, or none
abbrev pub command_by : Text → List Row → Option Asked
command_by name rows =
    if bytes_eq name (codes "check") then option_map Check (check_by rows)
    else (if bytes_eq name (codes "watch") then option_map Watch (watch_by rows)
    else (if bytes_eq name (codes "show") then option_map Show (show_by rows)
    else (if bytes_eq name (codes "lint") then option_map Lint (lint_by rows)
    else (if bytes_eq name (codes "keys") then option_map Keys (keys_by rows)
    else (if bytes_eq name (codes "safe") then Some (Safe (first_of (codes "TRACE") rows))
    else (if bytes_eq name (codes "tower") then option_map Tower (first_of (codes "FILE") rows)
    else (if bytes_eq name (codes "explain") then option_map (Explain (first_of (codes "CODE") rows)) (said_in (colours_in true) (codes "colour") rows)
    else (if bytes_eq name (codes "version") then Some Version
    else (if bytes_eq name (codes "manual") then Some Manual
    else option_map Completion (said_in shell_named (codes "SHELL") rows))))))))))

-- the command that was found in the words, with what its arguments ask for, or none
abbrev pub asked_by : Option (Text × List Row) → Option Asked
asked_by None = None
asked_by (Some entered) = command_by entered.0 entered.1

-- the word is `--version` or `-V`
abbrev pub is_version_word : Text → Bool
is_version_word word = bytes_eq word (codes "--version") || bytes_eq word (codes "-V")

-- the words are the program's name and `--version` or `-V`, and no more
abbrev pub ask_version : List Text → Bool
ask_version (program ∷ word ∷ []) = is_version_word word
ask_version _ = false

-- what words ask for, of which the first is the program's name: the version, or the command that `clap` finds in them
abbrev pub asked : List Text → Option Asked
asked words = if ask_version words then Some Version else asked_by (subcommand_of command_line words)

-- the words ask for the version, or `clap` finds no fault in them
abbrev pub IsWellFormed : List Text → Type 0
IsWellFormed words = ask_version words ≡ false → fault_of command_line words ≡ []

-- what the program's value of a tower asks for
abbrev pub asked_tower : TowerWord → AskedTower
asked_tower (words.File name) = OfFile name.now
asked_tower (words.Each kind) = OfTraces kind

-- what the program's value of `check` asks for
abbrev pub asked_check : HeldCheck → AskedCheck
asked_check check = record {
  tower = asked_tower check.tower;
  shards = check.shards;
  moments = check.moments;
  order = option_map (λ name. name.now) check.order;
  form = check.form;
  only_failing = check.only_failing;
  demand = check.demand;
  traces = map (λ name. name.now) check.traces.items;
}

-- what the program's value of `watch` asks for
abbrev pub asked_watch : HeldWatch → AskedWatch
asked_watch watch = record {
  tower = asked_tower watch.tower;
  shards = watch.shards;
  moments = watch.moments;
  form = watch.form;
  until_fail = watch.until_fail;
  settle = watch.settle;
  demand = watch.demand;
  traces = map (λ name. name.now) watch.traces.items;
}

-- what the program's value of `show` asks for
abbrev pub asked_show : HeldShow → AskedShow
asked_show show = record {
  tower = asked_tower show.tower;
  moments = show.moments;
  register = option_map (λ name. name.now) show.register;
  picture = show.picture;
  around = show.around;
  all = show.all;
  width = show.width;
  theme = show.theme;
  colours = show.colours;
  demand = show.demand;
  traces = map (λ name. name.now) show.traces.items;
}

-- what the program's value of `lint` asks for
abbrev pub asked_lint : HeldLint → AskedLint
asked_lint lint = record {
  tower = asked_tower lint.tower;
  moments = lint.moments;
  form = lint.form;
  most = lint.most;
  denied = option_map (λ codes. codes.now) lint.denied;
  colours = lint.colours;
  traces = map (λ name. name.now) lint.traces.items;
}

-- what the program's value of `keys` asks for
abbrev pub asked_keys : HeldKeys → AskedKeys
asked_keys keys = record {
  kind = keys.kind;
  initial = keys.initial;
  any_writes = keys.any_writes;
  traces = map (λ name. name.now) keys.traces.items;
}

-- what the program's value of a command asks for
abbrev pub asked_of : Command → Asked
asked_of (commands.Safe trace) = Safe (option_map (λ name. name.now) trace)
asked_of (commands.Check check) = Check (asked_check check)
asked_of (commands.Watch watch) = Watch (asked_watch watch)
asked_of (commands.Show show) = Show (asked_show show)
asked_of (commands.Lint lint) = Lint (asked_lint lint)
asked_of (commands.Keys keys) = Keys (asked_keys keys)
asked_of (commands.Tower file) = Tower file.now
asked_of (commands.Explain code colours) = Explain (option_map (λ code. code.now) code) colours
asked_of commands.Version = Version
asked_of commands.Manual = Manual
asked_of (commands.Completion shell) = Completion shell

-- the colours that a command asks for: those of `show`, `lint` and `explain`; no other has any
abbrev pub colours_asked : Asked → ColourWord
colours_asked (Show show) = show.colours
colours_asked (Lint lint) = lint.colours
colours_asked (Explain code colours) = colours
colours_asked _ = colours.Never

-- a check, or a watch, has from 1 to 64 shards
abbrev pub HasShards : Command → Type 0
HasShards (commands.Check check) = (1 ≤ check.shards) × (check.shards ≤ 64)
HasShards (commands.Watch watch) = (1 ≤ watch.shards) × (watch.shards ≤ 64)
HasShards _ = ⊤

-- a check, a watch, a picture or a call of `keys` has one trace or more
abbrev pub HasTraces : Command → Type 0
HasTraces (commands.Check check) = 0 < length check.traces.items
HasTraces (commands.Watch watch) = 0 < length watch.traces.items
HasTraces (commands.Show show) = 0 < length show.traces.items
HasTraces (commands.Keys keys) = 0 < length keys.traces.items
HasTraces _ = ⊤

-- the word is no option: it does not begin with a hyphen, or is the hyphen alone
abbrev pub is_no_option : Text → Bool
is_no_option [] = true
is_no_option (byte ∷ bytes) = not (byte == 45) || length bytes == 0
