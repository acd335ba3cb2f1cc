-- words of the public clauses
pub mod Cluster
pub mod Fault
pub mod AtFirst
pub mod Crossing
pub mod Turn
pub mod Together
-- words of private clauses
pub mod Examples
pub mod Members
pub mod Edges
pub mod Records
pub mod Index
pub mod Faults
pub mod Moves
pub mod Zoned
pub mod Refused
pub mod Order
