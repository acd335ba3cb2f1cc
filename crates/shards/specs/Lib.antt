-- words of the public clauses
pub mod Plan
pub mod Plain
pub mod Journal
pub mod VerdictChange
pub mod Pass
pub mod Steps
pub mod Merge
pub mod Closing
pub mod Alone
pub mod Code
-- words of private clauses
pub mod GhostEntries
pub mod Compact
pub mod Shard
