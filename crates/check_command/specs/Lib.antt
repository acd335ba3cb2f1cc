-- words of the public clauses
pub mod Verdict
pub mod Checked
-- words of private clauses
pub mod Audit
