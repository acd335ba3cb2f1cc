use Rattle.timeline.proofs.InOrder.{left_exactly}
use Rattle.timeline.proofs.laws.ends_left_of_what_it_precedes.Goals as goal

pub returns : goal.returns
returns c = λ ops marks spans steps places i j end a b s t are spanned apart room positive many at_a span_a at_b span_b ends. left_exactly ops marks spans steps places i j end a b s t are spanned apart room positive many at_a span_a at_b span_b ends
