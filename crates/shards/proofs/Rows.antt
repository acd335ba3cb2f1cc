-- The rows of a feeder's entries, and one entry more.
use Rattle.std.proofs.Common.{◌≡◌, ◌∙◌, ℕ, ◌≤◌, List, [], ◌∷◌, ◌++◌, length, get_or, map, set, refl, ap, suc, arith}
use Rattle.std.proofs.Math.Seq.{get_or-append_seam, map-set_same}
use Rattle.std.proofs.Math.ListN.{get_or-append}
use Rattle.std.proofs.lemmas.List.{map-append}
use Rattle.shards.specs.declared.entry.NumberedEntry.{NumberedEntry}
use Rattle.shards.specs.declared.compact.CompactEntry.{CompactEntry}
use Rattle.shards.specs.declared.compact.CompactEntry.TheVariants.{Invoked, Answered, Whole}
use Rattle.shards.specs.declared.submitted.Submitted.{Submitted}
use Rattle.shards.specs.Compact.{AreWithin, entries_by, entry_by, no_entry, entries_wanted}

pub same_entries : (feeder : ℕ) (whole whole' : List NumberedEntry) (rows rows' : List CompactEntry) → whole ≡ whole' → rows ≡ rows' → entries_by feeder whole rows ≡ entries_by feeder whole' rows'
same_entries feeder whole whole' rows rows' same same' = λ i. entries_by feeder (same i) (same' i)

-- the entries that a `Submitted` keeps
abbrev pub entries_of : ℕ → Submitted → List NumberedEntry
entries_of feeder own = entries_by feeder own.whole.items own.rows.items

-- the place of one shard is replaced by another with equal rows: the entries stay
pub reserved : (feeder : ℕ) (own : List Submitted) (at : ℕ) (x y : Submitted) → x ≡ get_or own at x → y.whole.items ≡ x.whole.items → y.rows.items ≡ x.rows.items
    → map (entries_of feeder) (set own at y) ≡ map (entries_of feeder) own
reserved feeder own at x y is whole rows =
    map-set_same (entries_of feeder) own at y x (same_entries feeder y.whole.items x.whole.items y.rows.items x.rows.items whole rows ∙ ap (entries_of feeder) is)

-- with one more entry kept whole, the entry of a row stays
entry_more : (feeder : ℕ) (whole : List NumberedEntry) (known : NumberedEntry) (row : CompactEntry) → entries_wanted row ≤ length whole → entry_by feeder (whole ++ known ∷ []) row ≡ entry_by feeder whole row
entry_more feeder whole known (Invoked holds register number event process act begin text) within = refl
entry_more feeder whole known (Answered holds register number event value end text) within = refl
entry_more feeder whole known (Whole place) within = get_or-append whole (known ∷ []) no_entry place (omega (arith, within))

entries_more : (feeder : ℕ) (whole : List NumberedEntry) (known : NumberedEntry) (rows : List CompactEntry) → AreWithin (length whole) rows → entries_by feeder (whole ++ known ∷ []) rows ≡ entries_by feeder whole rows
entries_more feeder whole known [] within = refl
entries_more feeder whole known (row ∷ rows) within = λ i. entry_more feeder whole known row (within 0 row (omega arith)) i ∷ entries_more feeder whole known rows (λ k d less. within (suc k) d (omega (arith, less))) i

-- one more row adds its entry
pub entry_push : (feeder : ℕ) (whole : List NumberedEntry) (rows : List CompactEntry) (row : CompactEntry) (known : NumberedEntry) → entry_by feeder whole row ≡ known
    → entries_by feeder whole (rows ++ row ∷ []) ≡ entries_by feeder whole rows ++ known ∷ []
entry_push feeder whole rows row known is =
    map-append (entry_by feeder whole) rows (row ∷ []) ∙ ap (λ (last : NumberedEntry). entries_by feeder whole rows ++ last ∷ []) is

-- one more row with an entry kept whole adds that entry
pub whole_push : (feeder : ℕ) (whole : List NumberedEntry) (rows : List CompactEntry) (known : NumberedEntry) → AreWithin (length whole) rows
    → entries_by feeder (whole ++ known ∷ []) (rows ++ Whole (length whole) ∷ []) ≡ entries_by feeder whole rows ++ known ∷ []
whole_push feeder whole rows known within =
    entry_push feeder (whole ++ known ∷ []) rows (Whole (length whole)) known (get_or-append_seam whole known [] no_entry)
    ∙ ap (λ (entries : List NumberedEntry). entries ++ known ∷ []) (entries_more feeder whole known rows within)
