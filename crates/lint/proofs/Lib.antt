-- what is found in each trace is found in all
pub mod Found
-- what holds of a call's result
mod Results
-- the unused ones of the first registers
pub mod Idle
