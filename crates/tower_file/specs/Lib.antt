-- words of the public clauses
pub mod Steps
pub mod Stating
pub mod Form
pub mod Contents
pub mod Reading
pub mod Keeping
pub mod Tower
pub mod Located
pub mod Alone
-- words of private clauses
pub mod Views
pub mod Stated
