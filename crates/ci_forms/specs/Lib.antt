-- words of the public clauses
pub mod Facts
pub mod GitHub
pub mod Xml
pub mod Junit
pub mod Ci
-- words of the laws
pub mod Bytes
