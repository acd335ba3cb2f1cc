-- Which wrong read is reported; no public clause uses these words.
use Rattle.std.specs.Prelude.{◌≤◌, List, Contains, Option, Some, None, IsTrue}
use Rattle.intervals.specs.declared.operation.Op.{Op}
use Rattle.intervals.specs.Terms.{ClaimModel}
use Rattle.intervals.specs.Judging.{is_wrong_read, end_number}

-- r is a wrong read of the list, and no wrong read of the list ended earlier
pub record IsFirstEnded (claim : ClaimModel) (ops : List Op) (r : Op) : Type 0 where
  pub present : Contains ops r
  pub wrong : IsTrue (is_wrong_read claim ops r)
  pub first : (other : Op) → Contains ops other → IsTrue (is_wrong_read claim ops other) → end_number r ≤ end_number other

-- the wrong read that ended first, or none where no read is wrong
abbrev pub IsFirstWrong : ClaimModel → List Op → Option Op → Type 0
IsFirstWrong claim ops None = (r : Op) → Contains ops r → ¬ IsTrue (is_wrong_read claim ops r)
IsFirstWrong claim ops (Some r) = IsFirstEnded claim ops r
