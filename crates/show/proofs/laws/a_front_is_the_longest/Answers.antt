use Rattle.show.proofs.Fronts.{all_go_on, longest_of}
use Rattle.show.proofs.laws.a_front_is_the_longest.Goals as goal

pub returns-clause-each : goal.returns-clause-each
returns-clause-each c = all_go_on

pub returns-clause-longest : goal.returns-clause-longest
returns-clause-longest c = longest_of
