use Rattle.std.proofs.Common.{sym, ◌∙◌}
use Rattle.words.proofs.words.read_words.Goals as goal

pub returns-clause-passes : goal.returns-clause-passes
returns-clause-passes g c = rw (sym c.is_for_version.ensures ∙ c.if-is_for_version.false) c.read_command.ensures.passes
