-- words of the public clauses
pub mod Judge
pub mod Held
-- words of private clauses
pub mod Apart
pub mod LookUp
pub mod First
pub mod Index
pub mod Writes
pub mod RowItems
pub mod Change
pub mod Seen
pub mod Looks
pub mod Rows
