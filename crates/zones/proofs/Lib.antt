-- the earlier and the later edge, what a list contains, judged operations, a value that no operation has
mod EdgeOrder
mod Members
mod Judged
mod Fresh
-- the two indexes: what a change makes of them, the places that they reserve, what a look-up in them says
mod Rows
mod Held
mod Lookups
-- a list can be sorted; the members of a cluster have its edges; what comes before what in an arrangement
mod Sorting
mod Cluster
mod Nearest
-- an exchange of two zones for two others of which one or both stay
mod Exchanged
-- a register is faultless exactly where it has an arrangement, and then the one order in turn is one
mod Excluded
mod InTurn
mod Existence
mod Start
mod OneTurn
-- whether zones are clean does not depend on their order
mod AnyOrder
-- what an edit changes: the judged operations, the values that have a write, the items of a tree, the zones in it
mod Edited
mod Written
mod PerValue
mod Moved
mod Lengths
-- the first conflict has one first crossing, made of the extremes of two clusters, and the edges that show them
mod FirstCrossing
mod Extremes
mod Ends
-- who has the value of a write already
mod WriteHolder
-- the judge: its tree has each zone once, its parts belong together after each edit, and its verdict is right
mod InTree
mod Admitted
mod Unjudged
mod Verdict
-- the computed first unwritten, early and writeless reads are those that the relations mean
mod FirstReads
mod Writeless
-- values at fault: what an edit makes of their stretches, of edges and records, and which reads the stretches show
mod Stretches
mod EdgesOf
mod Recorded
mod FirstStretch
-- the zone of the initial value before those of the tree
mod Front
-- operations sorted by their keys are in turn
mod KeyOrder
-- clusters may cross threads
pub mod Crosses
