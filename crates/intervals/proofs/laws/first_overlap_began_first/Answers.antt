use Rattle.intervals.proofs.Claimed.{overlap_named, overlap_nowhere, none_overlap}
use Rattle.intervals.proofs.laws.first_overlap_began_first.Goals as goal

pub returns : goal.returns
returns c = record { named = overlap_named; none = λ ops ids. ((λ e. none_overlap ops e ids), overlap_nowhere ops) }
