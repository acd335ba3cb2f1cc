-- what is escaped, and what is one line
pub mod Escapes
pub mod Lines
pub mod Commands
-- how many commands and cases there are
pub mod Counts
-- what is too few of all alone, and of each alone
pub mod TooFew
