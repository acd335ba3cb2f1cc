use Rattle.std.proofs.Common.{sym}
use Rattle.watch.proofs.Doubting.{ok_then}
use Rattle.watch.proofs.text.record_text.Goals as goal

pub returns : goal.returns
returns c = ok_then c.record_with.result (λ text is earlier are. let doubt = c.in_ok-doubt.ensures earlier are in rw (sym doubt.0, sym doubt.1) is) c.record_with.ensures
