-- words of the public clauses
pub mod Named
pub mod File
pub mod Tower
-- words of private clauses
pub mod Kept
