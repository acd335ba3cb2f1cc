-- files and inputs whose bytes are known: what was read of them is what they hold
pub mod Readings
-- the texts that are kept of traces
pub mod KeptTexts
-- what traces name, whose bytes are known
mod NamedIn
-- what is so of the tower file that is asked for
pub mod Towers
