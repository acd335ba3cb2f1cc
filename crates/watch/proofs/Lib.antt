-- what exchanges keep; members of lists; judged operations; a value that no write has
pub mod Shuffles
pub mod Members
pub mod JudgedOps
pub mod Unused
-- the verdict before an edit from that after it: the order of an atomic register, the reads of the other kinds
pub mod Orders
pub mod RightReads
-- the same for each edit that comes last
pub mod AfterAppend
pub mod AfterAmend
pub mod AfterWithdraw
-- a register that fails never holds again
pub mod Failing
-- the steps of a trace that edits nothing, in the order of its moments
pub mod Placing
pub mod Waits
pub mod Plain
pub mod Unfailed
pub mod Elements
-- worked edits
pub mod Worked
-- what notices give, as the front of what they are to give; what they tell of a shard, as the changes of its journal;
-- what a watch leaves
pub mod Fronts
pub mod ToldAll
pub mod Concluding
-- the elements that notices say were left out, by register
pub mod Doubting
-- what is settled of what is told; how far feeders come, and what is held back until then; what a teller was told and
-- wrote; what is written of a register, as the changes of its shard's journal
pub mod Passing
pub mod Advancing
pub mod InTurn
pub mod Telling
pub mod SettledAll
-- a watch of one plain trace: the first failure of a register is final
pub mod FirstFailure
pub mod OnePlain
