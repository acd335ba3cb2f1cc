-- words of the public clauses
pub mod Items
-- words of private clauses
pub mod Order
pub mod Summary
