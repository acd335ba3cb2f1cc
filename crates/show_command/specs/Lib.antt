-- words of the public clauses
pub mod Shown
-- words of private clauses: what is drawn of a register
pub mod Drawn
