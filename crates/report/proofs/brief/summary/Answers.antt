use Rattle.std.proofs.Common.{string_bytes}
use Rattle.std.proofs.lemmas.Result.{on_ok_weaker}
use Rattle.report.proofs.brief.summary.Goals as goal

pub returns-clause-summary : goal.returns-clause-summary
returns-clause-summary g c =
    on_ok_weaker c.write_whole.result
    (λ written. (string_bytes c.in_ok-text.text, c.in_ok-text.ensures, rw c.in_ok-push_str.ensures.bytes at written))
    c.write_whole.ensures.text
