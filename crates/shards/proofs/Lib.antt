-- a shard: where the book of a register is, what one more entry leaves, the journal that it keeps, and how it begins
mod Slots
mod Journals
mod Opened
mod Kept
mod KeptJournals
mod Changed
mod EachChange
-- laws of legal journals: prefixes, edits and replies, and a lone feeder
mod Legal
mod Lone
-- passes: their entries rise, what a pass knows, learns and submits, and the rows that it keeps entries in
mod Rising
mod Farther
mod Fresh
mod Knowing
mod Told
mod Rows
mod InStep
-- closing: the walk over the own entries, passes and their feeders, shards that do not fit, one fault
mod Starts
mod Passes
mod Unfit
mod OneFault
-- closing without a fault: own entries cover those of a journal, journals are settled, none has a stranger
mod Covers
mod Merged
mod Strangers
-- calls of an auditor: what a shard comes to is what the auditor comes to
mod Locked
-- what is left at the end: passes for the feeders without one, and the closed shards
mod Others
mod Ended
-- a lone feeder: its pass, its edits and questions in its shards, and how they begin
mod PassAlone
mod CallsAlone
mod OpenedAlone
mod EndedAlone
-- what may cross threads
pub mod Crosses
