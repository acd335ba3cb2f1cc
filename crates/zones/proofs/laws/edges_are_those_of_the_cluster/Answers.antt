use Rattle.zones.proofs.Cluster.{members_of, member_of, least_at_most, greatest_at_least, least_of_one, greatest_of_one, least_initial}
use Rattle.zones.proofs.laws.edges_are_those_of_the_cluster.Goals as goal

pub returns : goal.returns
returns c = record {
  members = λ ops value op. members_of value ops value op;
  least = λ initial ops value op h. least_at_most initial ops value op (member_of initial ops value op h);
  greatest = λ initial ops value op h. greatest_at_least initial ops value op (member_of initial ops value op h);
  least_of_one = least_of_one;
  greatest_of_one = greatest_of_one;
  initial = least_initial;
}
