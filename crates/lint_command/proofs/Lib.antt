-- the codes that are named between commas
mod Denying
-- what `lint` found
mod Findings
-- the lines of a log are of elements of the text
mod NamedElements
