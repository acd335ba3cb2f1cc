-- what is added in two steps, and the lines of all records
pub mod Steps
pub mod AllLines
-- what is explained of the registers
pub mod Explaining
-- the records tell the report, and each is whole
pub mod Telling
pub mod Words
pub mod Shapes
-- a record in EDN is one element
pub mod EdnStrings
pub mod EdnElements
