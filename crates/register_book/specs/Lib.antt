-- words of the public clauses
pub mod Reply
pub mod Fault
pub mod Around
pub mod BookModel
-- words of private clauses
pub mod Judge
