use Rattle.show.proofs.Fronts.{labelled}
use Rattle.show.proofs.laws.a_moment_is_the_front_and_its_label.Goals as goal

pub returns : goal.returns
returns c = λ subject extent scene number mark is at. labelled scene.marks.items scene.front scene.moments.items is.front is.moments number mark at
