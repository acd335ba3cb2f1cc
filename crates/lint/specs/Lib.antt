-- words of the public clauses
pub mod LeftWith
pub mod Found
pub mod Idle
pub mod Grade
pub mod Message
pub mod Head
pub mod Quoted
pub mod Short
pub mod Tower
-- words of private clauses
pub mod Marked
