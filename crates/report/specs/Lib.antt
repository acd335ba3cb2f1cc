-- words of the public clauses
pub mod Listing
pub mod Finding
pub mod Culprit
pub mod Section
pub mod Batch
pub mod Notes
pub mod Order
pub mod Report
pub mod Counts
pub mod Failing
pub mod Refused
pub mod Few
pub mod Summary
pub mod Doubt
pub mod Doubted
-- words of private clauses
pub mod Doubting
pub mod Tallied
