-- words of the public clauses
pub mod Denied
pub mod Looked
