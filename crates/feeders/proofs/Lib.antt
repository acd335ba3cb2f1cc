-- the steps of a trace: with one element more, those of a prefix, and what is done for one step more
pub mod Items
pub mod Prefixes
pub mod Doing
-- the last bytes of a trace that comes in chunks, with one chunk more
pub mod Holding
-- one element more: it is paired and carried out; steps that lend no text; the register of a step is the plan's
pub mod Going
pub mod Lending
pub mod Naming
-- why a feeder stops
pub mod Stopping
-- the element that waits: it is read, paired and carried out; the prefix of a chunk with which it ended
pub mod Settling
pub mod Fronts
-- a trace that is in memory as a whole, what a pass has after a call, passes with what their feeders are given, and what a run leaves
pub mod Reading
pub mod Telling
pub mod Split
pub mod Finished
-- a lone feeder, which has no pass
pub mod Served
pub mod Turns
-- the law of texts: each text of an operation that stands after a run is an element of its feeder's trace
pub mod TextsStanding
pub mod TextsElements
pub mod TextsItems
pub mod TextsLists
pub mod TextsSteps
pub mod TextsEntries
pub mod TextsRun
-- a trace that comes in chunks: what a source gives, an input read whole, a chunk, an element, the end, and a pass between two calls
pub mod Sourcing
pub mod Pieces
pub mod Taking
pub mod Feeds
pub mod AtEnd
pub mod Adding
pub mod Streaming
pub mod Between
-- what a feeder is lent may be lent to another thread
pub mod Crosses
