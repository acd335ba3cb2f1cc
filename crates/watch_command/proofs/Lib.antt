-- what a command that was not broken off has written, and one that was
mod Endings
