-- As many registers are explained as findings are given.
use Rattle.std.proofs.Common.{◌≡◌, ◌+◌, ◌∷◌, [], ℕ, suc, List, length, refl, ap}
use Rattle.tower_file.specs.Contents.{TowerModel}
use Rattle.shards.specs.Closing.{ClosedShard}
use Rattle.report.specs.declared.finding.Finding.{Finding}
use Rattle.records.specs.declared.allowed.Allowed.{Allowed}
use Rattle.records.specs.Explained.{AreAllowed}

pub as_many : (tower : TowerModel) (closed : List ClosedShard) (n : ℕ) (findings : List Finding) (allowed : List (List Allowed)) → AreAllowed tower closed n findings allowed → length allowed ≡ length findings
as_many tower closed n [] [] are = refl
as_many tower closed n [] (one ∷ others) are = absurd are
as_many tower closed n (finding ∷ findings) [] are = absurd are
as_many tower closed n (finding ∷ findings) (one ∷ others) are = ap suc (as_many tower closed (n + 1) findings others are.1)
