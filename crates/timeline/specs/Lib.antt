-- words of the public clauses
pub mod Choice
pub mod Axis
pub mod Place
pub mod Row
pub mod Seat
