-- fields: a keyword names one field, and a loop over the pairs finds the fields of a map
pub mod Keys
pub mod Loops
-- what is under `:value`
pub mod UnderValues
-- laws: an element has one item, which names registers of the tower
pub mod Items
pub mod Registers
