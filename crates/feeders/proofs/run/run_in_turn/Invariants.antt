-- the plan of the opening
use Rattle.std.proofs.Common.{vec_len}
use Rattle.shards.specs.Plan.{plan_of}
use Rattle.feeders.proofs.run.run_in_turn.Given as goal

abbrev pub ghosts-turn_in : goal.ghosts-turn_in
ghosts-turn_in g a = record { plan = plan_of 0 a.setup.tower.now a.setup.shards (vec_len a.readers) }
