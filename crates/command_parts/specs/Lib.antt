-- words of the public clauses
pub mod Call
pub mod Complaint
pub mod Files
pub mod Job
pub mod Kept
pub mod Status
pub mod Tower
