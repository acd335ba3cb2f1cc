-- words of the public clauses
pub mod Order
pub mod Layers
pub mod Node
-- words of private clauses
pub mod NodePool
