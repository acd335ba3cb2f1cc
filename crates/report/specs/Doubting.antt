-- What is in doubt of registers after some of the log lines; for private clauses alone.
use Rattle.std.specs.Prelude.{◌≡◌, ◌<◌, ℕ, Bool, false, List, length, Option, Some, None}
use Rattle.pairing.specs.declared.about.About.{About}
use Rattle.register_book.specs.declared.fault.InRole.{InRole}
use Rattle.report.specs.declared.doubt.Doubt.{Doubt}
use Rattle.report.specs.declared.finding.Finding.{Finding}
use Rattle.report.specs.Doubt.{is_about, is_rested_on, left_out_at, rests_at, touches, witness_at}

-- of each register is noted which elements were left out, by a list of them for each test of what one is about
pub record AreNotedSoFar (findings : List Finding) (doubts : List Doubt) (left : (About → Bool) → List (ℕ × ℕ)) : Type 0 where
  pub many : length doubts ≡ length findings
  pub left_out : (number : ℕ) → number < length findings → left_out_at doubts number ≡ left (is_about number)
  pub rests_on : (number : ℕ) → number < length findings → rests_at doubts number ≡ left (is_rested_on number (witness_at findings number))

-- an element touches the operation of a slot, where it has one
abbrev pub touches_slot : About → Option InRole → Bool
touches_slot about None = false
touches_slot about (Some one) = touches about one.op
