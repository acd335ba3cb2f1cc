use Rattle.show.proofs.Shifted.{left_of_what_it_precedes}
use Rattle.show.proofs.laws.ends_left_of_what_it_precedes.Goals as goal

pub returns : goal.returns
returns c = λ subject extent scene steps places i j end a b s t is apart room positive many at_a span_a at_b span_b ends.
    left_of_what_it_precedes c.ends_left_of_what_it_precedes.ensures scene.ops.items scene.marks.items scene.spans.items steps places i j end a b s t is.marks is.spans apart room positive many at_a span_a at_b span_b ends
