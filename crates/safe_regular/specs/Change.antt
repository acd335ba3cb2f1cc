-- What an accepted edit does to the operations of one writer's register; no public clause uses these words.
use Rattle.std.specs.Prelude.{◌≡◌, ℕ, ◌≤◌, ◌+◌, ◌⊎◌, List, length, Contains, Option, Some, None}
use Rattle.intervals.specs.declared.operation.Op.{Op}
use Rattle.intervals.specs.Terms.{ClaimModel}
use Rattle.safe_regular.specs.Held.{AreOneWriters}

-- the operation is in the list, or it is the optional one beside the list
abbrev pub IsAmong : List Op → Option Op → Op → Type 0
IsAmong others one x = Contains others x ⊎ (one ≡ Some x)

-- the number of optional operations that are there: 1 or 0
abbrev pub more_by : Option Op → ℕ
more_by None = 0
more_by (Some op) = 1

-- the operations before and after an edit: an optional old one goes, an optional new one comes, the others stay; before
-- and after they are those of one writer's register (`AreOneWriters`)
pub record IsChangeOf (claim : ClaimModel) (ops after : List Op) (old new : Option Op) : Type 0 where
  pub others : List Op
  pub apart_before : AreOneWriters claim ops
  pub apart_after : AreOneWriters claim after
  pub was : (x : Op) → Contains ops x → IsAmong others old x
  pub in_before : (x : Op) → IsAmong others old x → Contains ops x
  pub is : (x : Op) → Contains after x → IsAmong others new x
  pub in_after : (x : Op) → IsAmong others new x → Contains after x
  pub not_old : (x y : Op) → Contains others x → old ≡ Some y → ¬ (x ≡ y)
  pub not_new : (x y : Op) → Contains others x → new ≡ Some y → ¬ (x ≡ y)
  pub count : length after ≤ length ops + more_by new
