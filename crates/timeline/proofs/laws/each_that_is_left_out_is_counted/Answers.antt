use Rattle.timeline.proofs.Counting.{all_counted}
use Rattle.timeline.proofs.laws.each_that_is_left_out_is_counted.Goals as goal

pub returns : goal.returns
returns c = all_counted
