-- the plan of the opening
use Rattle.shards.specs.Plan.{plan_of}
use Rattle.feeders.proofs.run.read_alone.Given as goal

abbrev pub ghosts-alone_in : goal.ghosts-alone_in
ghosts-alone_in g a = record { plan = plan_of 0 a.setup.tower.now a.setup.shards 1 }
