-- The model of a book, and how many levels an edit goes down its tree of zones.
use Rattle.std.specs.Prelude.{ℕ, ◌+◌, ◌*◌, List, length}
use Rattle.intervals.specs.declared.operation.Op.{Op}
use Rattle.intervals.specs.Terms.{ClaimModel, RegisterState}
use Rattle.zone_tree.specs.Digits.{binary_digits}
use Rattle.intervals.specs.Operation.{writes}

-- a book as its clauses see it: the claim, the operations that stand, and how many levels edits have gone down trees of
-- zones so far, at most 2^64 - 1
pub record BookModel : Type 0 where
  pub claim : ClaimModel
  pub ops : List Op
  pub steps : ℕ

-- the claim and the operations of a book, without its steps
abbrev pub claimed_of : BookModel → RegisterState
claimed_of kept = record { claim = kept.claim; ops = kept.ops }

-- 4 · (2 · digits(w + 1) + 1), w the number of writes: the most levels that an edit goes down the tree of zones
abbrev pub most_steps : List Op → ℕ
most_steps ops = 4 * (2 * binary_digits (length (writes ops) + 1) + 1)
