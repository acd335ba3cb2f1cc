use Rattle.std.proofs.Common.{sym}
use Rattle.commands.proofs.commands.run.Goals as goal

pub returns-in-Ok-clause-input : goal.returns-in-Ok-clause-input
returns-in-Ok-clause-input g c = rw c.in-Ok.is (λ other. c.run_words-outcome.ensures.input (λ wants. other (rw (sym c.as_slice.ensures.value) wants)))
