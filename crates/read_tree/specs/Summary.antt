-- What each node keeps of the items below it, so that an uncovered read shows without a look at each item.
use Rattle.std.specs.Prelude.{◌≡◌, ℕ, ◌-◌, ◌^◌, ◌≤◌, max, min, Bool, false, ◌||◌, nat_lt, nat_le, List, [], ◌∷◌, Option, Some, None, if◌then◌else◌}
use Rattle.std.specs.Option.{option_or}
use Rattle.intervals.specs.declared.operation.Value.TheVariants.{Nil}
use Rattle.intervals.specs.Operation.{same_value}
use Rattle.read_tree.specs.declared.item.RowItem.{RowItem}
use Rattle.read_tree.specs.declared.item.Cover.{Cover}
use Rattle.read_tree.specs.declared.summary.Prefix.{Prefix}
use Rattle.read_tree.specs.declared.summary.ReadSummary.{ReadSummary}
use Rattle.read_tree.specs.Items.{cover_of, is_some_uncovered}

-- the last cover of the list, or c, the last one before it, where the list has none
abbrev pub cover_after : Option Cover → List RowItem → Option Cover
cover_after c [] = c
cover_after c (x ∷ items) = cover_after (if x.covers then Some (cover_of x) else c) items

-- the least moment of the items; 2^64 - 1 where there are none
unfoldable pub least_moment : List RowItem → ℕ
least_moment [] = 2 ^ 64 - 1
least_moment (x ∷ items) = min x.moment.0 (least_moment items)

-- the prefix that has no reads; a prefix is what is kept of the reads before the first cover
abbrev pub no_prefix : Prefix
no_prefix = record { value = Nil; far = 0; other = 0 }

-- some read of the prefix (the reads before the first cover) is uncovered by c, the cover before it
unfoldable pub is_prefix_uncovered : Option Cover → Prefix → Bool
is_prefix_uncovered None p = nat_lt 0 p.far
is_prefix_uncovered (Some c) p =
    if same_value p.value c.value
    then (if c.by_value then nat_lt c.reach p.far || nat_lt 0 p.other else nat_lt c.reach p.other)
    else nat_lt (if c.by_value then 0 else c.reach) p.far

-- two prefixes as one, where a reaches at least as far: a's value and reach, and the greatest reach of a read of
-- another value
abbrev pub with_others : Prefix → Prefix → Prefix
with_others a b = record { value = a.value; far = a.far; other = max a.other (if same_value b.value a.value then b.other else b.far) }

-- two prefixes as one: the greatest reach, the value of that read, and the greatest reach of a read of another value
abbrev pub merged : Prefix → Prefix → Prefix
merged a b = if nat_le b.far a.far then with_others a b else with_others b a

-- the summary of no items
abbrev pub no_summary : ReadSummary
no_summary = record { prefix = no_prefix; last = None; uncovered = false; least = 2 ^ 64 - 1 }

-- the summary of one item
unfoldable pub summary_of_item : RowItem → ReadSummary
summary_of_item x = if x.covers
    then record { prefix = no_prefix; last = Some (cover_of x); uncovered = false; least = least_moment (x ∷ []) }
    else record { prefix = record { value = x.value; far = x.reach; other = 0 }; last = None; uncovered = false; least = least_moment (x ∷ []) }

-- the prefix of two lists, one after the other: the first list's where that has a cover (its last one is given), else
-- both as one
abbrev pub prefix_of : Option Cover → Prefix → Prefix → Prefix
prefix_of None a b = merged a b
prefix_of (Some c) a b = a

-- the first list has a last cover, and some read in the second list's prefix is uncovered by it
abbrev pub meets_uncovered : Option Cover → Prefix → Bool
meets_uncovered None b = false
meets_uncovered (Some c) b = is_prefix_uncovered (Some c) b

-- the summary of two lists, one after the other, from the summaries of both
unfoldable pub join_reads : ReadSummary → ReadSummary → ReadSummary
join_reads s t = record {
  prefix = prefix_of s.last s.prefix t.prefix;
  last = option_or t.last s.last;
  uncovered = (s.uncovered || t.uncovered) || meets_uncovered s.last t.prefix;
  least = min s.least t.least;
}

-- the summary says of the items whether some read is uncovered and which cover is last, after any cover before them,
-- and the least moment
pub record IsSummaryOf (s : ReadSummary) (items : List RowItem) : Type 0 where
  pub covers : (c : Option Cover) → is_some_uncovered c items ≡ (is_prefix_uncovered c s.prefix || s.uncovered)
  pub last : (c : Option Cover) → cover_after c items ≡ option_or s.last c
  pub valid : s.prefix.other ≤ s.prefix.far
  pub least : s.least ≡ least_moment items
