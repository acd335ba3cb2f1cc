use Rattle.shards.proofs.PassAlone.{fresh_alone, live_alone, of_plan_alone, others_alone, refused_alone, submitted_alone, told_alone}
use Rattle.shards.proofs.laws.a_feeder_alone_is_served_as_with_a_pass.Goals as goal

pub returns : goal.returns
returns c = record {
  of_plan = λ plan journals feeder. of_plan_alone plan feeder journals;
  submitted = submitted_alone;
  told = told_alone;
  others = others_alone;
  refused = λ plan journals feeder. refused_alone plan feeder journals;
  live = λ plan journals feeder. live_alone plan feeder journals;
  fresh = fresh_alone;
}
