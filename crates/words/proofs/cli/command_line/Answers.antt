use Rattle.std.proofs.Common.{rules, ap, ◌≡◌, ◌∙◌}
use Rattle.std.proofs.lemmas.Result.{IfOk-weaker}
use Rattle.clap.specs.Words.{App, app_of}
use Rattle.words.specs.Entries.{with_commands}
use Rattle.words.specs.Words.{program_line}
use Rattle.words.proofs.cli.command_line.Goals as goal

pub returns : goal.returns
returns c = λ is_open.
    let alone : app_of c.subcommand_required-line.result ≡ program_line = search rules in
    let whole = ap (λ (app : App). with_commands app c.commands.result.now) alone ∙ c.commands.ensures in
    IfOk-weaker c.with_commands.result _ _ (λ line h. h ∙ whole) (c.with_commands.ensures is_open)
