use Rattle.std.proofs.Common.{◌≡◌, drop}
use Rattle.clap.specs.Words.{app_of}
use Rattle.words.specs.declared.cli.Vocabulary.TheVariants.{Open}
use Rattle.words.specs.Entries.{with_commands}
use Rattle.words.proofs.cli.with_commands.Given as goal

-- this line with the commands that are left is the one asked for with all
abbrev pub invariant-loop-entry : goal.invariant-loop-entry
invariant-loop-entry l = l.vocabulary ≡ Open → with_commands (app_of l.line) (drop l.entry-index l.entries) ≡ with_commands (app_of l.initial.line) l.entries
