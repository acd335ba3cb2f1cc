-- the plan of the opening
use Rattle.std.proofs.Common.{length}
use Rattle.shards.specs.Plan.{plan_of}
use Rattle.feeders.proofs.run.run_traces.Given as goal

abbrev pub ghosts-run_in : goal.ghosts-run_in
ghosts-run_in g a = record { plan = plan_of 0 a.setup.tower.now a.setup.shards (length a.traces.now) }
