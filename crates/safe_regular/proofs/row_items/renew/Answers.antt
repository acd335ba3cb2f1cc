use Rattle.safe_regular.proofs.Exchanged.{is_renewed}
use Rattle.safe_regular.proofs.row_items.renew.Goals as goal

pub returns-clause-renewed : goal.returns-clause-renewed
returns-clause-renewed c = rw c.renew_in.ensures.items (is_renewed c.args.item c.args.line.now.items)
