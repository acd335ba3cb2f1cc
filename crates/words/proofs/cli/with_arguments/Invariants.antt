use Rattle.std.proofs.Common.{◌≡◌, false, drop}
use Rattle.clap.specs.Words.{app_of}
use Rattle.words.specs.declared.cli.Vocabulary.TheVariants.{Open}
use Rattle.words.specs.Entries.{fields_of, with_arguments}
use Rattle.words.proofs.cli.with_arguments.Given as goal

-- this command with the arguments that are left is the one asked for with all
abbrev pub invariant-loop-argument : goal.invariant-loop-argument
invariant-loop-argument l = l.vocabulary ≡ Open → (fields_of l.initial.line).has_globals ≡ false
    → (with_arguments (app_of l.line) (drop l.argument-index l.arguments) ≡ with_arguments (app_of l.initial.line) l.arguments) × ((fields_of l.line).has_globals ≡ false)
