-- Zones and their conflicts: Gibbons and Korach 1997.
use Rattle.std.specs.Prelude.{IsTrue, if◌then◌else◌}
use Rattle.zone_tree.specs.declared.edge.Edge.{Edge}
use Rattle.zone_tree.specs.declared.zone.Zone.{Zone}
use Rattle.zone_tree.specs.Edge.{ComesBefore}

-- the zone is a forward one: it runs from the least end in its cluster to the greatest beginning
abbrev pub IsForward : Zone → Type 0
IsForward z = IsTrue z.forward

-- the least end in the zone's cluster: the left edge of a forward zone, the right edge of a backward one
abbrev pub least_end : Zone → Edge
least_end z = if z.forward then z.left else z.right

-- the greatest beginning in the zone's cluster: the right edge of a forward zone, the left edge of a backward one
abbrev pub greatest_begin : Zone → Edge
greatest_begin z = if z.forward then z.right else z.left

-- the left edge comes before the right one in a forward zone, and not after it in a backward one
abbrev pub HasOrderedEdges : Zone → Type 0
HasOrderedEdges z = (IsForward z → ComesBefore z.left z.right) × (¬ IsForward z → ¬ ComesBefore z.right z.left)

-- two zones conflict: the least end in the cluster of each comes before the greatest beginning in that of the other
abbrev pub Conflicts : Zone → Zone → Type 0
Conflicts a b = ComesBefore (least_end a) (greatest_begin b) × ComesBefore (least_end b) (greatest_begin a)

-- two zones overlap: the left edge of each comes before the right edge of the other
abbrev pub ZonesOverlap : Zone → Zone → Type 0
ZonesOverlap a b = ComesBefore a.left b.right × ComesBefore b.left a.right

-- the first zone lies inside the second: its left edge comes after, and its right edge before, the other's
abbrev pub LiesInside : Zone → Zone → Type 0
LiesInside a b = ComesBefore b.left a.left × ComesBefore a.right b.right
