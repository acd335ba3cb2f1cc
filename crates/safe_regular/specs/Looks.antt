-- The writes that are looked at to judge a read, from its end back; no public clause uses these words.
use Rattle.std.specs.Prelude.{◌≢◌, ℕ, ◌<◌, ◌≤◌, Bool, true, not, ◌&&◌, List, Contains, Option, Some, None, if◌then◌else◌}
use Rattle.intervals.specs.declared.operation.Op.{Op}
use Rattle.intervals.specs.Judging.{end_number, is_allowed}
use Rattle.intervals.specs.Operation.{Precedes, IsWrite, precedes, same_value, value_of}
use Rattle.intervals.specs.Terms.{ClaimModel}
use Rattle.safe_regular.specs.LookUp.{BeginsBefore, IsLastOf}

-- no write that begins at the moment or later, and before the read ends, precedes the read or has its value
abbrev pub ArePassed : List Op → Op → ℕ → Type 0
ArePassed ops r moment = (v : Op) → Contains ops v → IsWrite v → moment ≤ v.begin.0 → v.begin.0 < end_number r → (¬ Precedes v r) × (value_of r.act ≢ value_of v.act)

-- `last` is the last write to begin before some moment, or none; that moment is no later than the end of the read, and
-- the writes from there to that end neither precede the read nor have its value (`ArePassed`)
pub record IsLookedUp (ops : List Op) (r : Op) (last : Option Op) : Type 0 where
  pub moment : ℕ
  pub reached : moment ≤ end_number r
  pub passed : ArePassed ops r moment
  pub is : IsLastOf (BeginsBefore moment) ops last

-- the test that a safe register's read is wrong, by w, the last write to begin before it ends: its value is not
-- allowed, or w precedes it and has another value; without w, its value is not the initial one
abbrev pub is_wrong_by : ClaimModel → Op → Option Op → Bool
is_wrong_by claim r None = not (same_value (value_of r.act) claim.initial)
is_wrong_by claim r (Some w) =
    if is_allowed claim.domain claim.initial (value_of r.act) then not (same_value (value_of r.act) (value_of w.act)) && precedes w r else true
