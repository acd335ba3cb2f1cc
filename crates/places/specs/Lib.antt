-- words of the public clauses
pub mod LineColumn
pub mod Location
pub mod Spots
pub mod Copied
