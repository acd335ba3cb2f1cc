-- The passes of the first feeders, before anything is done with them.
use Rattle.std.proofs.Common.{◌≡◌, ◌+◌, ℕ, List, [], ◌∷◌, ◌++◌, map, arith}
use Rattle.std.specs.List.{range_with_len}
use Rattle.std.proofs.lemmas.List.FromFn.{map-range_with_len_more}
use Rattle.shards.specs.Plan.{Plan}
use Rattle.shards.specs.Pass.{PassModel, new_pass}

-- the passes of the first feeders, and that of the next one
pub fresh_more : (plan : Plan) (feeder : ℕ) (passes : List PassModel) (pass : PassModel) →
    passes ≡ map (new_pass plan) (range_with_len 0 feeder) → pass ≡ new_pass plan feeder →
    passes ++ pass ∷ [] ≡ map (new_pass plan) (range_with_len 0 (feeder + 1))
fresh_more plan feeder passes pass so_far is =
    rw (map-range_with_len_more (new_pass plan) 0 feeder feeder (omega arith), so_far, is)
