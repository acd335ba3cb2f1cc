use Rattle.jepsen_form.proofs.Items.{at_most_one_item, at_least_one_item, elsewhere}
use Rattle.jepsen_form.proofs.laws.one_item.Goals as goal

pub returns : goal.returns
returns c = record {
  some = at_least_one_item c.members_of_vector.ensures.some c.members_of_vector.ensures.elements c.pairs_of_map.ensures.some c.pairs_of_map.ensures.elements c.pairs_of_map.ensures.values;
  one = at_most_one_item c.members_of_vector.ensures.one c.pairs_of_map.ensures.one;
  elsewhere = elsewhere;
}
