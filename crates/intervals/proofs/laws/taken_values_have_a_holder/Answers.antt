use Rattle.intervals.proofs.Holders.{initial_exactly, named_write, none_exactly}
use Rattle.intervals.proofs.laws.taken_values_have_a_holder.Goals as goal

pub returns : goal.returns
returns c = record { initial = initial_exactly; write = named_write; none = none_exactly }
