use Rattle.clap.specs.Words.{app_of}
use Rattle.words.specs.Entries.{with_commands}
use Rattle.words.proofs.Lines.{next_command}
use Rattle.words.proofs.cli.with_commands.Goals as goal

pub loop-entry-preserved : goal.loop-entry-preserved
loop-entry-preserved c = λ is_open.
    next_command c.loop-entry.line c.in_ok-line.line c.in_ok-command.command c.args.entries.now c.loop-entry.entry-index _
    (with_commands (app_of c.args.line) c.args.entries.now) c.loop-entry-test.true (c.loop-entry.invariant is_open) (c.in_ok-command.ensures is_open) c.in_ok-line.ensures
