use Rattle.watch.proofs.SettledAll.{settled_of, told_at_once}
use Rattle.watch.proofs.laws.only_what_heals_is_left_out.Goals as goal

pub returns : goal.returns
returns c = record { settled = settled_of; at_once = told_at_once }
