use Rattle.feeders.proofs.TextsElements.{slices_of}
use Rattle.feeders.proofs.laws.elements_are_slices.Goals as goal

pub returns : goal.returns
returns c = λ input broken pieces are. slices_of input broken pieces are
