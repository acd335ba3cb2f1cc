-- What the entries of commands and arguments say of the command line.
use Rattle.std.specs.Prelude.{◌≡◌, ℕ, true, false, List, [], ◌∷◌, codes, length, Some}
use Rattle.clap.specs.Lexer.{usize_max}
use Rattle.clap.specs.Walk.{texts}
use Rattle.clap.specs.Words.{App, Rule, app_of, new_app, new_rule, rule_of, with_rule, with_subcommand}
use Rattle.clap.specs.declared.Arg.{Arg}
use Rattle.clap.specs.declared.builder.command.Command.{Command}
pub use Rattle.clap.specs.declared.builder.command.Command.TheViews.{out-Command as fields_of}
use Rattle.clap.specs.declared.builder.action.ArgAction.TheVariants.{SetTrue}
use Rattle.clap.specs.declared.builder.value_parser.ValueParser.TheVariants as parsers
use Rattle.words.specs.declared.argument.Argument.{Argument}
use Rattle.words.specs.declared.argument.Argument.TheVariants as arguments
use Rattle.words.specs.declared.argument.ArgumentEntry.{ArgumentEntry}
use Rattle.words.specs.declared.argument.Takes.{Takes}
use Rattle.words.specs.declared.argument.Takes.TheVariants.{Nothing, Text, Number, Place, Places}
use Rattle.words.specs.declared.cli.CommandEntry.{CommandEntry}
use Rattle.words.specs.Words.{amiss_rule, any_traces_rule, colour_rule, count_rule, deny_rule, doubt_rule, each_rule, flag_rule, form_rule, initial_rule, kind_rule, moment_rule, only_rule, order_rule, register_rule, shards_rule, shell_rule, theme_rule, tower_rule, traces_rule, width_rule, writers_rule}

-- the rule of an argument
abbrev pub argument_rule : Argument → Rule
argument_rule arguments.Tower = tower_rule
argument_rule arguments.Each = each_rule
argument_rule arguments.Kind = kind_rule
argument_rule arguments.Initial = initial_rule
argument_rule arguments.Writers = writers_rule
argument_rule arguments.TowerFile = record (new_rule (codes "FILE")) { required = true }
argument_rule arguments.Trace = new_rule (codes "TRACE")
argument_rule arguments.Traces = traces_rule
argument_rule arguments.AnyTraces = any_traces_rule
argument_rule arguments.Shards = shards_rule
argument_rule arguments.Moment = moment_rule
argument_rule arguments.Order = order_rule
argument_rule arguments.Form = form_rule
argument_rule arguments.LineForm = form_rule
argument_rule arguments.LintForm = amiss_rule
argument_rule arguments.Only = only_rule
argument_rule arguments.Least = count_rule (codes "least") (codes "0")
argument_rule arguments.LeastEach = count_rule (codes "least-each") (codes "0")
argument_rule arguments.Doubt = doubt_rule
argument_rule arguments.UntilFail = flag_rule (codes "until-fail")
argument_rule arguments.Settle = count_rule (codes "settle") (codes "0")
argument_rule arguments.Register = register_rule
argument_rule arguments.Svg = flag_rule (codes "svg")
argument_rule arguments.Html = flag_rule (codes "html")
argument_rule arguments.Ascii = flag_rule (codes "ascii")
argument_rule arguments.Around = count_rule (codes "around") (codes "3")
argument_rule arguments.All = flag_rule (codes "all")
argument_rule arguments.Width = width_rule
argument_rule arguments.ThemeWord = theme_rule
argument_rule arguments.Colour = colour_rule
argument_rule arguments.Most = count_rule (codes "max") (codes "3")
argument_rule arguments.Denied = deny_rule
argument_rule arguments.Code = new_rule (codes "CODE")
argument_rule arguments.Shell = shell_rule

-- the rule that an entry says, but for what the argument takes
abbrev pub plain_rule : ArgumentEntry → Rule
plain_rule entry = record (new_rule entry.name.now) { value_names = length entry.value_names.now; defaults = texts entry.defaults.now; required = entry.is_required }

-- a rule, with what an argument of this name takes
abbrev pub with_takes : Takes → List ℕ → Rule → Rule
with_takes Nothing name rule = record rule { long = Some name; action = Some SetTrue }
with_takes Text name rule = record rule { long = Some name }
with_takes (Number least most) name rule = record rule { long = Some name; parser = Some (parsers.Unsigned least most) }
with_takes Place name rule = rule
with_takes Places name rule = record rule { range = Some (record { start_inclusive = 1; end_inclusive = usize_max }) }

-- the rule that an entry says
abbrev pub entry_rule : ArgumentEntry → Rule
entry_rule entry = with_takes entry.takes entry.name.now (plain_rule entry)

-- a command, with these arguments added in turn
abbrev pub with_arguments : App → List Argument → App
with_arguments app [] = app
with_arguments app (argument ∷ arguments) = with_arguments (with_rule app (argument_rule argument)) arguments

-- the command that an entry says
abbrev pub line_of : CommandEntry → App
line_of entry = with_arguments (new_app entry.name.now) entry.arguments.now

-- a line, with the commands of these entries added in turn
abbrev pub with_commands : App → List CommandEntry → App
with_commands line [] = line
with_commands line (entry ∷ entries) = with_commands (with_subcommand line (line_of entry).top) entries

-- `clap`'s value of a command is this command, and none of its arguments is global, that is, goes to commands below it
abbrev pub IsLine : App → Command → Type 0
IsLine app line = (app_of line ≡ app) × ((fields_of line).has_globals ≡ false)

-- `clap`'s value of an argument has this rule, and it is not global
abbrev pub IsArgument : Rule → Arg → Type 0
IsArgument rule arg = (rule_of arg ≡ rule) × (arg.global ≡ false)
