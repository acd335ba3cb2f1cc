-- edges are in one strict order, as moments are, which are the keys of stretches
pub mod EdgeOrder
pub mod MomentOrder
-- when two zones conflict, and that a list in order of which two conflict has one first conflict
mod TwoZones
mod Farthest
mod OneFirst
mod FirstFound
-- the zones of a tree: the place of one, their one order, and the zones around one
pub mod Places
mod OneOrder
mod Sides
-- summaries are joined as the lists are
mod Summaries
mod StretchSummaries
-- what the look-ups find, at the sides of a node and at the top; the zones after an edge, one after another
mod Finds
mod Looks
mod StretchLooks
mod Meetings
mod Tops
mod Items
-- the conflict bit of a summary; the first conflict, also with a zone before those of the tree
mod Seams
mod FirstConflicts
mod InFront
-- the binary digits that bound the steps of an edit
pub mod Digits
-- trees of zones and of stretches may cross threads
pub mod Crosses
