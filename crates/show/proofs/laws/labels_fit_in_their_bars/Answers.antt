use Rattle.show.proofs.Fitting.{labels_fit}
use Rattle.show.proofs.laws.labels_fit_in_their_bars.Goals as goal

pub returns : goal.returns
returns c = λ subject extent scene measure wants others places i span label is ends wanted kept at_span at_label.
    labels_fit c.ends_left_of_what_it_precedes.ensures subject extent scene measure wants others places i span label is ends wanted kept at_span at_label
