-- A pool of spare nodes, one for each reserved place.
use Rattle.std.specs.Prelude.{ℕ}

-- the places of a node pool: how many are free, and how many are taken
pub record PoolPlaces : Type 0 where
  pub free : ℕ
  pub taken : ℕ
