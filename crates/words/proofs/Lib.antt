-- what the getters of `clap` give, and what texts mean as numbers
pub mod Arguments
-- the arguments that are found in words say which command they ask for
pub mod Commands
-- the command line of the program, argument by argument
pub mod Lines
-- what words ask for, in the cases that the laws write out
pub mod Asking
