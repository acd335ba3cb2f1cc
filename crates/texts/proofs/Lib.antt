-- each code of each fault is listed
pub mod EachCode
-- the entries of parts, and their lines, as one list
pub mod Parts
