-- Entries with rising numbers, and the next entry of a journal at their end.
use Rattle.std.proofs.Common.{◌≡◌, ◌<◌, ◌-◌, ℕ, List, [], ◌∷◌, ◌++◌, suc, length, ⊎_elim, arith}
use Rattle.std.specs.Prelude.{IfSome}
use Rattle.std.specs.List.{AllByRecursion}
use Rattle.std.proofs.lemmas.Option.{slice_get_past, IfSome_then}
use Rattle.std.proofs.lemmas.Bool.{cases_lt}
use Rattle.shards.specs.declared.entry.Entry.{Entry}
use Rattle.shards.specs.declared.entry.NumberedEntry.{NumberedEntry}
use Rattle.shards.specs.Pass.{HasEntry, last_in}
use Rattle.shards.specs.Shard.{Rises}

-- where the last number is below a bound, all numbers are
all_below : (bound : ℕ) (entries : List NumberedEntry) → Rises entries →
    IfSome (last_in entries) (λ last. last.number < bound) → AllByRecursion (λ entry. entry.number < bound) entries
all_below bound [] rises last = tt
all_below bound (entry ∷ []) rises last = (last, tt)
all_below bound (entry ∷ (next ∷ entries)) rises last =
    let at : suc (suc (length entries)) - 1 ≡ suc (suc (length entries) - 1) = omega arith in
    let rest = all_below bound (next ∷ entries) rises.1 (rw at at last) in
    (omega arith, rest)

-- numbers above a bound, and one more above it at the end
above_more : (bound : ℕ) (entries : List NumberedEntry) (known : NumberedEntry) →
    AllByRecursion (λ entry. bound < entry.number) entries → bound < known.number →
    AllByRecursion (λ entry. bound < entry.number) (entries ++ known ∷ [])
above_more bound [] known all beyond = (beyond, tt)
above_more bound (entry ∷ entries) known all beyond = (all.0, above_more bound entries known all.1 beyond)

-- rising entries go on rising with a number above all at the end
rises_more : (entries : List NumberedEntry) (known : NumberedEntry) → Rises entries →
    AllByRecursion (λ entry. entry.number < known.number) entries → Rises (entries ++ known ∷ [])
rises_more [] known rises below = (tt, tt)
rises_more (entry ∷ entries) known rises below =
    (above_more entry.number entries known rises.0 below.0, rises_more entries known rises.1 below.1)

-- an entry that a journal has lies within it
has_within : (journal : List Entry) (known : NumberedEntry) → HasEntry journal known → known.number < length journal
has_within journal known has =
    ⊎_elim (λ within. within) (λ past. absurd (let none = slice_get_past journal known.number past in cc))
    (cases_lt known.number (length journal))

-- where a journal has the last of rising entries, its next entry may be added
pub rises_entered : (journal : List Entry) (entries : List NumberedEntry) (known : NumberedEntry) → Rises entries →
    IfSome (last_in entries) (HasEntry journal) → known.number ≡ length journal → Rises (entries ++ known ∷ [])
rises_entered journal entries known rises last next =
    let below = IfSome_then (last_in entries) {P = HasEntry journal} {Q = λ at. at.number < known.number} last
    (λ at has. let within = has_within journal at has in omega arith) in
    rises_more entries known rises (all_below known.number entries rises below)
