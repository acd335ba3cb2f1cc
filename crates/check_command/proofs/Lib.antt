-- what a command that was not broken off has written
mod Endings
-- the one register of `safe`: its journal, replies and refusals are those of the trace's steps
mod AloneReplies
mod AloneRefusals
mod AloneJournal
mod Alone
-- at a status other than 2 what was read is whole
mod Whole
