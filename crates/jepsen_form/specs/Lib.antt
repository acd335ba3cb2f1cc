-- words of the public clauses
pub mod Fields
pub mod Item
pub mod Mention
pub mod Code
pub mod Whole
-- words of private clauses
pub mod Form
