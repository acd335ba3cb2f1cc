-- How a tree of boxes is seen: its items, its height and its summary, and what these have to do with one another.
use Rattle.std.specs.Prelude.{◌≡◌, ℕ, ◌+◌, ◌*◌, ◌^◌, ◌<◌, ◌≤◌, max, List, [], length, Option, Some, None}

-- how a tree of boxes is seen: its items from left to right, how many nodes its longest way down has, and its optional
-- summary
pub record Layers (T S : Type 0) : Type 0 where
  pub items : List T
  pub height : ℕ
  pub summary : Option S

-- how a tree without nodes is seen: no items, height 0, no summary
abbrev pub no_layers : {T S : Type 0} → Layers T S
no_layers = record { items = []; height = 0; summary = None }

-- neither height is greater than the other by more than `by`
abbrev pub DifferByAtMost : ℕ → ℕ → ℕ → Type 0
DifferByAtMost by l r = (l ≤ r + by) × (r ≤ l + by)

-- the height is at most 2 · d for each d such that there are fewer than 2^d items
pub record IsLow {T : Type 0} (items : List T) (height : ℕ) : Type 0 where
  pub bound : (d : ℕ) → length items < 2 ^ d → height ≤ 2 * d

-- the height of a node once it is settled over sides of these heights: the greater of them or 1 more, and 1 more where
-- they differ by at most 1
pub record IsBalancedHeight (left right height : ℕ) : Type 0 where
  pub least : max left right ≤ height
  pub most : height ≤ max left right + 1
  pub near : DifferByAtMost 1 left right → height ≡ max left right + 1

-- the optional summary is one of the items; where there is none, there are no items
abbrev pub IsSummed : {T S : Type 0} → (S → List T → Type 0) → Option S → List T → Type 0
IsSummed IsOf None items = items ≡ []
IsSummed IsOf (Some s) items = IsOf s items

-- the summary of an item and of the items after it, whose own summary is optional
unfoldable pub with_first : {T S : Type 0} → (T → S) → (S → S → S) → T → Option S → S
with_first one join x None = one x
with_first one join x (Some s) = join (one x) s

-- the summary of items, whose own summary is optional, and of the items after them
unfoldable pub joined : {S : Type 0} → (S → S → S) → Option S → S → S
joined join None s = s
joined join (Some l) s = join l s

-- a tree keeps its height and its summary
pub record KeepsLayers {T S : Type 0} (old new : Layers T S) : Type 0 where
  pub height : new.height ≡ old.height
  pub summary : new.summary ≡ old.summary
