use Rattle.intervals.proofs.Appended.{accepted_again}
use Rattle.intervals.proofs.laws.operations_apart_are_accepted.Goals as goal

pub returns : goal.returns
returns c = λ claim front rest op apart. accepted_again claim front op rest apart
