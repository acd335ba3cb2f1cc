-- The edges of zones: one before every moment, the moments themselves, and one after them.
use Rattle.std.specs.Prelude.{ℕ, Bool, true, false, ◌==◌, nat_lt, IsTrue, if◌then◌else◌}
use Rattle.zone_tree.specs.declared.edge.Edge.{Edge}
use Rattle.zone_tree.specs.declared.edge.Edge.TheVariants.{Before, At, Never}

-- 0 for `Before`, 1 for each moment, 2 for `Never`
abbrev pub rank : Edge → ℕ
rank Before = 0
rank (At m) = 1
rank Never = 2

-- the test for `ComesBefore`
abbrev pub edge_before : Edge → Edge → Bool
edge_before Before Before = false
edge_before Before (At n) = true
edge_before Before Never = true
edge_before (At m) Before = false
edge_before (At m) (At n) = nat_lt m.0 n.0
edge_before (At m) Never = true
edge_before Never b = false

-- the first edge comes before the second: `Before`, then the moments one after another, then `Never`
abbrev pub ComesBefore : Edge → Edge → Type 0
ComesBefore a b = IsTrue (edge_before a b)

-- the earlier of two edges
abbrev pub earlier_edge : Edge → Edge → Edge
earlier_edge a b = if edge_before b a then b else a

-- the later of two edges
abbrev pub later_edge : Edge → Edge → Edge
later_edge a b = if edge_before a b then b else a

-- the test whether two edges are one
abbrev pub same_edge : Edge → Edge → Bool
same_edge Before Before = true
same_edge Before (At n) = false
same_edge Before Never = false
same_edge (At m) Before = false
same_edge (At m) (At n) = m.0 == n.0
same_edge (At m) Never = false
same_edge Never Before = false
same_edge Never (At n) = false
same_edge Never Never = true
