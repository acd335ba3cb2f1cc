-- the fault: one is reported exactly where some read is wrong
pub mod Faults
-- one writer's operations: writes follow one another, reads end one by one, and which wrong read is the first
pub mod Apart
pub mod Members
pub mod First
-- the check of a write: three look-ups find the first write that it overlaps
pub mod Overlap
-- look-ups: what filtered and longer lists contain, what is found at a moment, the index of the writes after an edit
pub mod Lists
pub mod LookUp
pub mod Index
pub mod Shelves
-- the operations after an accepted edit: what of them is kept, which one goes and which one comes
pub mod Edited
pub mod Changed
-- the tree after an edit: which next writes stay, which spots differ, what an exchange leaves; all parts agree again
pub mod Next
pub mod Told
pub mod Exchanged
pub mod Settled
-- the verdict of the tree: the last cover before a read is that of the nearest write, and leaves wrong reads uncovered
pub mod Nearest
pub mod Covered
pub mod Named
-- a single writer's judge may cross threads
pub mod Crosses
-- the items after an edit: they are those of the operations, also where a cover is left as it is
pub mod Laid
pub mod Kept
-- one read: which writes decide its verdict, which edits leave it alone, and that the writes looked at suffice
pub mod Seen
pub mod Looks
-- the rows of reads: put in, found and judged again, and right after an edit
pub mod Rows
pub mod RowsAfter
-- the step from rows to the tree: the items of all operations are put in, one after another
pub mod Laying
