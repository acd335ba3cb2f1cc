use Rattle.watch.proofs.ToldAll.{told_all, told_first}
use Rattle.watch.proofs.laws.what_was_told_is_what_changed.Goals as goal

pub returns : goal.returns
returns c = record { all = told_all; first = told_first }
