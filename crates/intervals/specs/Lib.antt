-- words of the public clauses
pub mod Operation
pub mod Least
pub mod Terms
pub mod Edit
pub mod Target
pub mod Bare
pub mod Standing
pub mod Refusal
pub mod Code
pub mod Kind
pub mod Judging
pub mod Histories
pub mod OrderedIndex
pub mod Table
-- words of private clauses
pub mod Rising
pub mod Moments
pub mod InTurn
pub mod FirstWrites
