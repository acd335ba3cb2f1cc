-- what the program reads is what the file says: names, loops over vectors, keys, texts, levels, registers, the tower
pub mod Names
pub mod Loops
pub mod Vectors
pub mod Texts
pub mod Levels
pub mod Places
pub mod Towers
-- where a fault is: the span that the program finds is that place, and there is one at most
pub mod Locating
pub mod OnePlace
-- the laws: a text is read as one form, says one tower or has one fault, never that of memory; known initial values
pub mod Forms
pub mod Unique
pub mod Wanting
pub mod Answering
pub mod Knowing
-- the text of the example, worked out token by token
pub mod Spelled
pub mod Alone
