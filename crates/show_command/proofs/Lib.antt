-- what a command that was not broken off has written
mod Endings
-- the name, the value at first and the order of what is drawn
pub mod Subjects
