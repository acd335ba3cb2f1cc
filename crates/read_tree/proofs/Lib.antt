-- spots are in one strict order, and items by their spots
pub mod Order
pub mod InOrder
-- summaries are joined as lists are, and two are one where their fields are
pub mod Joins
pub mod Same
-- the uncovered read that ended first, around one more item
pub mod Firsts
-- which items a changed list contains, and which a search finds
pub mod Members
-- the last cover before a spot, and what the tests of a list say of its reads
pub mod Told
-- a tree of reads may cross threads
pub mod Crosses
