use Rattle.std.proofs.Common.{◌++◌, refl}
use Rattle.std.proofs.lemmas.Result.{on_ok_weaker}
use Rattle.words.specs.Words.{asked_check}
use Rattle.check_command.specs.Checked.{advice_text}
use Rattle.check_command.proofs.checking.print_summary.Goals as goal

pub returns-clause-printed : goal.returns-clause-printed
returns-clause-printed g c =
    let logs = c.args.outcome.now.judged.now.run.logs.items in
    on_ok_weaker c.summary.result
    (λ made. (
      made.0 ++ advice_text (asked_check c.args.asked.now) logs,
      record { summary = made.0; is = rw c.least_asked-least.ensures at made.1; text_is = refl },
      rw (c.deref-2.ensures, c.in_ok-advice.ensures, c.deref.ensures.value) at made.2,
    ))
    c.summary.ensures.summary
