-- Which of the notices that are told are written, where a failure that heals soon is not.
use Rattle.std.specs.Prelude.{◌≡◌, ◌==◌, ℕ, Bool, true, false, not, List, [], ◌∷◌, ◌++◌, filter}
use Rattle.shards.specs.declared.entry.VerdictChange.{VerdictChange}
use Rattle.logs.specs.declared.notice.Notice.{Notice}
use Rattle.logs.specs.declared.notice.Notice.TheVariants.{Changed, Refused, Broke, Ended}

-- whether a notice is a change of the verdict on the register of this number
abbrev pub is_change_of : ℕ → Notice → Bool
is_change_of register (Changed feeder place line change) = change.register.0 == register
is_change_of register (Refused feeder place line left_out) = false
is_change_of register (Broke feeder broken line) = false
is_change_of register (Ended feeder elements) = false

-- the changes of the verdict on this register among notices, in order
abbrev pub notices_of : ℕ → List Notice → List Notice
notices_of register notices = filter (is_change_of register) notices

-- whether a notice is no change of a verdict: a refusal, a break or an end
abbrev pub is_no_change : Notice → Bool
is_no_change (Changed feeder place line change) = false
is_no_change (Refused feeder place line left_out) = true
is_no_change (Broke feeder broken line) = true
is_no_change (Ended feeder elements) = true

-- whether a notice says that a register fails
abbrev pub says_fails : Notice → Bool
says_fails (Changed feeder place line change) = not change.holds
says_fails (Refused feeder place line left_out) = false
says_fails (Broke feeder broken line) = false
says_fails (Ended feeder elements) = false

-- the second list is the first one less pairs of one that fails and the next one, which does not
pub data LessPairs {A : Type 0} (fails : A → Bool) : List A → List A → Type 0 where
  nothing : LessPairs fails [] []
  kept : {all left : List A} (one : A) → LessPairs fails all left → LessPairs fails (one ∷ all) (one ∷ left)
  healed : {all left : List A} (failing holding : A) → fails failing ≡ true → fails holding ≡ false → LessPairs fails all left
      → LessPairs fails (failing ∷ holding ∷ all) left

-- whether a change is to `fails`
abbrev pub change_fails : VerdictChange → Bool
change_fails change = not change.holds

-- the changes of the verdict on this register among changes, in order
abbrev pub changes_on : ℕ → List VerdictChange → List VerdictChange
changes_on register changes = filter (λ change. change.register.0 == register) changes

-- what is held back of one register: nothing, or that it fails
abbrev pub IsHeldBack : List Notice → Type 0
IsHeldBack [] = Unit {0}
IsHeldBack (notice ∷ []) = says_fails notice ≡ true
IsHeldBack (notice ∷ other ∷ more) = ⊥

-- of the changes of one register that were told those at the end are held back, and those before are written less pairs
-- of a failure that healed and what healed it
pub record IsSettledUpTo (told held written : List Notice) : Type 0 where
  pub settled : List Notice
  pub parts : told ≡ settled ++ held
  pub less : LessPairs says_fails settled written
  pub held_back : IsHeldBack held

-- the changes of one register that were told are written less such pairs; where the watch stopped, all of them or all
-- but the last, which is then held back
abbrev pub IsSettled : Bool → List Notice → List Notice → Type 0
IsSettled true told written = (held : List Notice) × IsSettledUpTo told held written
IsSettled false told written = LessPairs says_fails told written

-- what was written of what was told, given for how many elements of each trace a failure is held back: all of it where
-- that is none; else all refusals, breaks and ends, in order, and of each register what is settled (`IsSettled`)
pub record AreWrittenOf (settle : ℕ) (stopped : Bool) (told written : List Notice) : Type 0 where
  pub at_once : settle ≡ 0 → told ≡ written
  pub others : filter is_no_change told ≡ filter is_no_change written
  pub by_register : (register : ℕ) → IsSettled stopped (notices_of register told) (notices_of register written)
