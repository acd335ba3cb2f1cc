-- words of the public clauses
pub mod Access
pub mod Setting
pub mod Prefixes
pub mod Readers
pub mod Feeding
pub mod Intake
pub mod Adding
pub mod Ending
pub mod Texts
-- words of private clauses
pub mod Progress
pub mod Pending
pub mod TailBuffer
pub mod Lending
pub mod Source
