use Rattle.intervals.proofs.MomentHolders.{named_first, none_exactly}
use Rattle.intervals.proofs.laws.taken_moments_have_a_holder.Goals as goal

pub returns : goal.returns
returns c = record {
  named = λ ops op moment id e. (named_first ops op moment id e).0;
  beginning_first = λ ops op moment id e. (named_first ops op moment id e).1;
  none = none_exactly;
}
