-- words of the public clauses
pub mod Coming
pub mod Trace
pub mod Final
pub mod Healing
pub mod Doubt
pub mod Text
pub mod Settling
pub mod Noted
pub mod Watched
-- words of private clauses: what a teller is seen as; when what it holds back is written; what is left to be noted of a
-- trace
pub mod Teller
pub mod Due
pub mod Left
