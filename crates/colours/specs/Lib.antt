-- words of the public clauses
pub mod Painted
