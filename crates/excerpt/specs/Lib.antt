-- words of the public clauses
pub mod Event
pub mod Shown
pub mod Excerpt
