-- which of two elements goes before the other; whose element comes next, by heads, and how it is found
pub mod Before
pub mod NextHead
-- which element comes next of whole lists: there is one order, each list keeps its own in it, and its moments rise
pub mod Next
pub mod OneOrder
pub mod EachList
pub mod Rise
