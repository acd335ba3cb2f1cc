-- words of the public clauses
pub mod Order
pub mod Worked
