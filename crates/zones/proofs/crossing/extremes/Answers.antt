use Rattle.zones.specs.Cluster.{least_end_of, greatest_begin_of}
use Rattle.zones.proofs.Cluster.{conflict_is}
use Rattle.zones.proofs.Extremes.{greatest_found, not_never}
use Rattle.zones.proofs.crossing.extremes.Goals as goal

pub returns : goal.returns
returns c start one_may other_may is recorded distinct conflict =
    let ops = c.args.table.now.ops in
    let initial = start in
    let one = c.args.one in
    let other = c.args.other in
    let (first, second) = (conflict_is initial ops one other).0 conflict in
    record {
      a_least = c.first_to_end.ensures start one_may is recorded distinct (not_never (least_end_of initial ops one) (greatest_begin_of initial ops other) first);
      b_greatest = greatest_found initial ops other c.in_ok-b.b (c.in_ok-b.ensures is recorded distinct);
      c_least = c.first_to_end-2.ensures start other_may is recorded distinct (not_never (least_end_of initial ops other) (greatest_begin_of initial ops one) second);
      d_greatest = greatest_found initial ops one c.in_ok-d.d (c.in_ok-d.ensures is recorded distinct);
    }
