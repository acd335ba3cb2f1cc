-- words of the public clauses
pub mod Bytes
pub mod Grammar
pub mod Text
pub mod Fault
pub mod Prefixes
pub mod Integer
pub mod Pairs
pub mod Lent
pub mod Given
pub mod Reading
pub mod Splitting
pub mod Flat
-- words of private clauses
pub mod Token
pub mod Resuming
pub mod Taking
pub mod Within
pub mod Skipping
pub mod Standing
