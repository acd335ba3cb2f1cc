-- When a failure that is held back is written: how far each feeder has come, and how far it is waited for.
use Rattle.std.specs.Prelude.{◌≡◌, ◌≢◌, ◌≤◌, ◌⊎◌, ◌==◌, ◌||◌, ◌+◌, ℕ, length, slice_index_or, zero, suc, Bool, true, false, nat_le, List, [], ◌∷◌, ◌++◌, All, Contains, filter, map, not, replicate, if◌then◌else◌}
use Rattle.std.specs.List.{list_all, zip}
use Rattle.logs.specs.declared.notice.Notice.{Notice}
use Rattle.logs.specs.declared.notice.Notice.TheVariants.{Changed, Refused, Broke, Ended}
use Rattle.records.specs.Run.{at_most_u64}
use Rattle.watch.specs.declared.settling.Advance.{Advance}
use Rattle.watch.specs.declared.settling.Advance.TheVariants.{Took, Over}
use Rattle.watch.specs.declared.settling.Held.{Held}
use Rattle.watch.specs.declared.settling.FeederProgress.{FeederProgress}
use Rattle.watch.specs.declared.settling.PlacedChange.{PlacedChange}
use Rattle.watch.specs.Settling.{says_fails}

-- how far a feeder has come when it took one more element, or is over
abbrev pub advanced : FeederProgress → Advance → FeederProgress
advanced progress Took = record { taken = at_most_u64 (progress.taken + 1); over = progress.over }
advanced progress Over = record { taken = progress.taken; over = true }

-- how far feeders have come when the one of this number went on; where there is none of this number all stays as it is
abbrev pub advanced_at : List FeederProgress → ℕ → Advance → List FeederProgress
advanced_at [] feeder advance = []
advanced_at (one ∷ progress) zero advance = advanced one advance ∷ progress
advanced_at (one ∷ progress) (suc feeder) advance = one ∷ advanced_at progress feeder advance

-- so many feeders that have taken nothing and are not over; none where no failure is held back
abbrev pub progress_begun : ℕ → ℕ → List FeederProgress
progress_begun settle feeders = if settle == 0 then [] else replicate feeders (record { taken = 0; over = false })

-- how many elements each feeder is waited for to have taken, where a failure comes while the one of this number takes
-- one: `settle` more than it took, that one counted
abbrev pub until_of : List FeederProgress → ℕ → ℕ → List ℕ
until_of progress settle feeder = map (λ one. at_most_u64 (one.taken + settle)) (advanced_at progress feeder Took)

-- whether a feeder took at least so many elements, or is over
abbrev pub has_come : FeederProgress → ℕ → Bool
has_come progress least = progress.over || nat_le least progress.taken

-- whether each feeder has come as far as it is waited for; one that no number is given for is not waited for
abbrev pub is_due : List ℕ → List FeederProgress → Bool
is_due until progress = list_all (λ pair. has_come pair.0 pair.1) (zip progress until)

-- how many elements the first feeder is waited for to have taken
abbrev pub least_of : Held → ℕ
least_of held = slice_index_or held.until.items 0 0

-- how many elements a feeder is waited for to have taken, where it fails a register by the element that it takes now
abbrev pub most_of : ℕ → FeederProgress → ℕ
most_of settle one = at_most_u64 (at_most_u64 (one.taken + 1) + settle)

-- what is held back of the first feeder waits for so many elements of it, or more
abbrev pub WaitLonger : ℕ → List Held → Type 0
WaitLonger least [] = Unit {0}
WaitLonger least (held ∷ later) = (held.placed.feeder ≡ 0 → least ≤ least_of held) × WaitLonger least later

-- each waits for one feeder alone, for so many elements of it at most; and what came later, of that feeder, no shorter
abbrev pub WaitInTurn : ℕ → List Held → Type 0
WaitInTurn most [] = Unit {0}
WaitInTurn most (held ∷ later) = (length held.until.items ≡ 1) × (least_of held ≤ most) × WaitLonger (least_of held) later × WaitInTurn most later

-- whether the first of what is held back is due
abbrev pub has_due : List Held → List FeederProgress → Bool
has_due [] progress = false
has_due (first ∷ held) progress = is_due first.until.items progress

-- whether what is held back is of another register than the one of which this notice tells a change
abbrev pub is_of_another : Notice → Held → Bool
is_of_another (Changed feeder place line change) held = not (held.placed.change.register.0 == change.register.0)
is_of_another (Refused feeder place line left_out) held = true
is_of_another (Broke feeder broken line) held = true
is_of_another (Ended feeder elements) held = true

-- the notice of a change
abbrev pub notice_of : PlacedChange → Notice
notice_of placed = Changed placed.feeder placed.place placed.line placed.change

-- the notice of a change that is held back
abbrev pub held_notice : Held → Notice
held_notice held = notice_of held.placed

-- the notices of changes that are held back, in order
abbrev pub held_notices : List Held → List Notice
held_notices held = map held_notice held

-- what is held back when this notice came: what is left of what was held back before, with all that is of another
-- register, in its order, but for one at most; and after it what is of this register, and waits from now on: where a
-- failure is to be held back and the notice is one, that notice
pub record AreHeldFrom (progress : List FeederProgress) (settle : ℕ) (notice : Notice) (before now : List Held) : Type 0 where
  pub left : List Held
  pub new : List Held
  pub parts : now ≡ left ++ new
  pub all_left : All (Contains before) left
  pub others_left : filter (is_of_another notice) before ≡ filter (is_of_another notice) left
  pub in_order : (left ≡ before) ⊎ ((front : List Held) × (back : List Held) × (one : Held) × (before ≡ front ++ one ∷ back) × (left ≡ front ++ back))
  pub waits : All (λ held. (is_of_another notice held ≡ false) × (held.until.items ≡ until_of progress settle held.placed.feeder)) new
  pub failure : settle ≢ 0 → says_fails notice ≡ true → held_notices new ≡ notice ∷ []

-- those that were held back first, each of them due, are not held back any longer
abbrev pub AreDueFirst : List FeederProgress → List Held → List Held → Type 0
AreDueFirst progress before now = (due : List Held) × (before ≡ due ++ now) × All (λ held. is_due held.until.items progress ≡ true) due
