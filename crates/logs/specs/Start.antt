-- How a feeder begins.
use Rattle.std.specs.Prelude.{ℕ, List, []}
use Rattle.shards.specs.declared.entry.NumberedEntry.{NumberedEntry}

-- how a feeder begins: its number, and the entries of its own that its pass has in each shard by then
pub record Start : Type 0 where
  pub feeder : ℕ
  pub had : ℕ → List NumberedEntry

-- the start of the feeder of this number, whose pass has no entry yet
abbrev pub first_start : ℕ → Start
first_start feeder = record { feeder = feeder; had = λ at. [] }
