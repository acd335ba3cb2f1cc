-- words of the public clauses
pub mod Invocation
pub mod Code
pub mod Accepted
pub mod Step
pub mod Waiting
pub mod Known
pub mod Answering
pub mod About
-- words of private clauses
pub mod Registers
