-- the tests of reads decide what safe and regular registers promise; members of a list; the operation of least key
pub mod Agreement
pub mod Members
pub mod LeastOf
-- the rows of a `RisingMap`; the order of spots, by which an `OrderedIndex` is searched
mod RisingRows
mod Spots
-- the first overlap of writes (X12): the next write by beginning, and why to compare each with the next is enough
mod InTurn
mod Overlapping
-- the first repeat of a value (X13), slot by slot; equal spots
pub mod Fronts
mod Repeats
pub mod SameSpot
-- the table: the operations in its slots, and the look-ups by id and by moment after an edit
mod Slots
mod Indexed
-- verdicts depend on judged operations alone; whether one read is wrong, and refusals of writes, on writes alone
mod JudgedAlone
-- what a refusal names: the first that passes a test, what has a value (X8), which operation has a moment (X4)
pub mod Found
pub mod Holders
mod MomentHolders
-- `StandApart` after any edits: what an accepted edit says, one property at a time, then after claims, then of all
pub mod Accepted
pub mod Ids
pub mod EachPair
pub mod Claimed
pub mod Standing
pub mod Appended
-- a safe or regular register holds exactly when no read is wrong; texts decide no reply and no verdict
pub mod Verdicts
mod Texts
mod Arrangements
