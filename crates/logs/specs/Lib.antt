-- words of the public clauses
pub mod Code
pub mod Broken
pub mod Steps
pub mod Start
pub mod Doings
pub mod Run
