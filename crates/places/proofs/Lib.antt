-- lines and columns after the bytes of a text
pub mod PlaceAfter
-- what holds of each two of two lists
pub mod Zipped
-- what is kept of texts, while readers give them
pub mod Copied
