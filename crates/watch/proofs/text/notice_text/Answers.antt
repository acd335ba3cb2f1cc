use Rattle.std.proofs.Common.{refl}
use Rattle.watch.specs.Text.{text_of_notice}
use Rattle.watch.proofs.Doubting.{ok_then}
use Rattle.watch.proofs.text.notice_text.Goals as goal

pub returns-in-Line : goal.returns-in-Line
unfolding text_of_notice
returns-in-Line c = rw c.in-Line.is (ok_then c.line_text.result (λ text is earlier are. is) c.line_text.ensures)

pub returns-in-Record : goal.returns-in-Record
unfolding text_of_notice
returns-in-Record c = rw c.in-Record.is (ok_then c.record_text.result (λ text is earlier are. is earlier (are refl)) c.record_text.ensures)
