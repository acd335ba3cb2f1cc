use Rattle.watch.proofs.Failing.{fails_again_known, fails_again_unread}
use Rattle.watch.proofs.laws.a_failed_register_never_holds_again.Goals as goal

pub returns : goal.returns
returns c = record { known = fails_again_known; unread = fails_again_unread }
