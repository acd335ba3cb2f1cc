use Rattle.std.proofs.Common.{refl}
use Rattle.watch.proofs.Doubting.{on_ok_then}
use Rattle.watch.proofs.printer.note_left.Goals as goal

pub returns-in-Record : goal.returns-in-Record
returns-in-Record c = on_ok_then c.note.result (λ noted earlier are is. noted earlier (are is)) c.note.ensures

pub returns-in-Line : goal.returns-in-Line
returns-in-Line c = λ earlier are is. absurd (let h = c.in-Line.is in cc)
