-- the rows of places and registers: binary search, and one more row
pub mod Rows
-- one more item: what a pairing knows after it, and the step that it gives
pub mod Standing
-- laws: the events of a process take turns, and an answer edits the operation of its invocation
pub mod Turns
-- law: steps are on registers that items name
pub mod Naming
