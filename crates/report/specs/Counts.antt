-- How many operations stand in the registers of a tower.
use Rattle.std.specs.Prelude.{◌≡◌, ◌≤◌, ◌↔◌, ℕ, List, [], map, length, sum, All, Contains, IfSome, IsNone}
use Rattle.std.specs.Option.{option_map_or}
use Rattle.std.specs.List.{range_with_len}
use Rattle.tower_file.specs.Contents.{TowerModel}
use Rattle.shards.specs.Closing.{ClosedShard, book_of}
use Rattle.report.specs.declared.counts.Counts.{Counts}

-- how many operations stand in a register, unfinished ones among them; 0 where it has no book
abbrev pub standing_in : List ClosedShard → ℕ → ℕ
standing_in closed number = option_map_or (λ held. length held.ops) (book_of closed number) 0

-- how many operations stand in each register of the tower, by number
abbrev pub standing_counts : TowerModel → List ClosedShard → List ℕ
standing_counts tower closed = map (standing_in closed) (range_with_len 0 (length tower.registers))

-- how many operations stand in all registers, the sum of these numbers, and in one, the least of them, if there are any
pub record AreCounts (each : List ℕ) (counts : Counts) : Type 0 where
  pub all : counts.all ≡ sum each
  pub none : IsNone counts.least ↔ (each ≡ [])
  pub one : IfSome counts.least (Contains each)
  pub least : IfSome counts.least (λ least. All (λ many. least ≤ many) each)
