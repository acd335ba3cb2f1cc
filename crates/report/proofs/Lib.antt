-- the lines that list the registers of a tower
pub mod Listings
-- what is found of the registers, and the culprits: the test by findings finds those that fail while their parts hold
pub mod Found
pub mod Blamed
-- the order of a register is that of its book
pub mod Orders
-- threads may read the books that an auditor leaves
pub mod Crosses
-- the batches of lines, put end to end, are the lines of all registers
pub mod Batches
-- the refusals by code come to all refusals
pub mod Refusals
-- the codes of refusals by frequency
pub mod Frequency
-- what is in doubt: the elements that were left out are noted of their registers
pub mod Doubts
-- a change of a verdict says enough of its fault to say what that rests on
pub mod Shown
-- the text of a summary
mod Summaries
