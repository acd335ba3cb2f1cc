-- words of the public clauses
pub mod Completion
pub mod Words
-- words of private clauses
pub mod Entries
