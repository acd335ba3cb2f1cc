-- words of the public clauses
pub mod Names
pub mod Fault
pub mod Register
