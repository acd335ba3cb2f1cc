-- What an argument or a command that is added makes of a command line.
use Rattle.std.proofs.Common.{◌≡◌, ◌∙◌, ◌||◌, ◌<◌, ◌+◌, ℕ, Bool, false, List, ◌∷◌, length, get_or, drop, refl, sym, ap, ap₂, add-one, drop-cons}
use Rattle.clap.specs.Words.{AddsArg, AddsSubcommand, App, Rule, app_of, rule_of, with_rule, with_subcommand}
use Rattle.clap.specs.declared.Arg.{Arg}
use Rattle.clap.specs.declared.builder.command.Command.{Command}
use Rattle.words.specs.declared.argument.Argument.{Argument}
use Rattle.words.specs.declared.cli.CommandEntry.{CommandEntry}
use Rattle.words.specs.Entries.{IsLine, argument_rule, fields_of, line_of, with_arguments, with_commands}

with_argument : (old new : Command) (argument : Arg) (app : App) (rule : Rule) → IsLine app old → rule_of argument ≡ rule → argument.global ≡ false → AddsArg old argument new → IsLine (with_rule app rule) new
with_argument old new argument app rule is rule_is local adds =
    (adds.shape local ∙ ap₂ with_rule is.0 rule_is, adds.globals ∙ ap₂ (λ (a b : Bool). a || b) is.1 local)

with_command : (old new below : Command) (app app_below : App) → app_of old ≡ app → IsLine app_below below → AddsSubcommand old below new → app_of new ≡ with_subcommand app app_below.top
with_command old new below app app_below is below_is adds =
    adds.shape below_is.1 ∙ ap₂ with_subcommand is (ap (λ (a : App). a.top) below_is.0)

-- the first of the arguments that are left, added, and those after it
arguments_left : (app : App) (arguments : List Argument) (i : ℕ) (default : Argument) → i < length arguments
    → with_arguments (with_rule app (argument_rule (get_or arguments i default))) (drop (i + 1) arguments) ≡ with_arguments app (drop i arguments)
arguments_left app arguments i default below =
    let left : drop i arguments ≡ get_or arguments i default ∷ drop (i + 1) arguments = rw add-one (drop-cons arguments i default below) in
    sym (ap (with_arguments app) left)

-- the first of the commands that are left, added, and those after it
commands_left : (line : App) (entries : List CommandEntry) (i : ℕ) (default : CommandEntry) → i < length entries
    → with_commands (with_subcommand line (line_of (get_or entries i default)).top) (drop (i + 1) entries) ≡ with_commands line (drop i entries)
commands_left line entries i default below =
    let left : drop i entries ≡ get_or entries i default ∷ drop (i + 1) entries = rw add-one (drop-cons entries i default below) in
    sym (ap (with_commands line) left)

-- a command, with one more of the arguments that are left
pub next_argument : (old new : Command) (argument : Arg) (rule : Rule) (arguments : List Argument) (i : ℕ) (default : Argument) (all : App) → i < length arguments
    → with_arguments (app_of old) (drop i arguments) ≡ all → (fields_of old).has_globals ≡ false
    → rule_of argument ≡ rule → argument.global ≡ false → rule ≡ argument_rule (get_or arguments i default) → AddsArg old argument new
    → (with_arguments (app_of new) (drop (i + 1) arguments) ≡ all) × ((fields_of new).has_globals ≡ false)
next_argument old new argument rule arguments i default all below left local rule_is argument_local rule_named adds =
    let line = with_argument old new argument (app_of old) (argument_rule (get_or arguments i default)) (refl, local) (rule_is ∙ rule_named) argument_local adds in
    (ap (λ (app : App). with_arguments app (drop (i + 1) arguments)) line.0 ∙ arguments_left (app_of old) arguments i default below ∙ left, line.1)

-- a line, with one more of the commands that are left
pub next_command : (old new below : Command) (entries : List CommandEntry) (i : ℕ) (default : CommandEntry) (all : App) → i < length entries
    → with_commands (app_of old) (drop i entries) ≡ all → IsLine (line_of (get_or entries i default)) below → AddsSubcommand old below new
    → with_commands (app_of new) (drop (i + 1) entries) ≡ all
next_command old new below entries i default all within left below_is adds =
    ap (λ (line : App). with_commands line (drop (i + 1) entries)) (with_command old new below (app_of old) (line_of (get_or entries i default)) refl below_is adds)
    ∙ commands_left (app_of old) entries i default within ∙ left
