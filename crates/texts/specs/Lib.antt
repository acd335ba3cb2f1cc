-- words of the public clauses
pub mod Codes
pub mod Printing
