-- a claim of another kind: the new judge accepts all operations again
pub mod Again
-- a check: its error is the refusal
pub mod Refusals
-- an edit: the state after it, by the reply
pub mod Replied
-- a safe or regular register: no read is wrong exactly where it keeps its claim
pub mod Verdicts
-- a witness: its operations stand, and each is found by its id
pub mod Ids
pub mod Stand
-- an order: there is none exactly where an atomic register does not hold
pub mod Orders
-- the laws of witnesses: each excludes every arrangement, and there is at most one
pub mod Excluding
pub mod OneWitness
-- a book may cross threads
pub mod Crosses
