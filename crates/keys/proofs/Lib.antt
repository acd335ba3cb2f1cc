-- what a loop over the elements of a text has added
mod Adding
-- lists that are alike, place by place
mod Alike
-- names that are kept, by their bytes
mod Keeping
-- the lines of registers
mod Lines
-- each name comes once
mod Once
