-- words of the public clauses
pub mod Edge
pub mod Zone
pub mod Conflict
pub mod Order
pub mod StretchOrder
pub mod Digits
-- words of private clauses
pub mod Summary
pub mod Node
pub mod Look
pub mod StretchSummary
pub mod StretchLook
