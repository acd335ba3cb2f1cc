-- words of the public clauses
pub mod Printed
pub mod Run
