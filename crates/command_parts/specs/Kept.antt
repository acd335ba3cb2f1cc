-- The texts that a command keeps of traces, for the places of elements.
use Rattle.std.specs.Prelude.{◌≡◌, ◌≤◌, ℕ, Bool, true, false, List, ◌++◌, length, Option, Some, None}
use Rattle.std.specs.List.{slice_get}
use Rattle.logs.specs.declared.log.Broken.{Broken}
use Rattle.logs.specs.declared.log.Log.{Log}
use Rattle.places.specs.declared.copying.Kept.{Kept}
use Rattle.places.specs.Copied.{IsKeptOf}

-- the text is a prefix of what a reader had left, at least up to the byte at which the trace broke
pub record IsPrefixTo (broken : Broken) (left text : List ℕ) : Type 0 where
  pub rest : List ℕ
  pub parts : left ≡ text ++ rest
  pub reaches : broken.place ≤ length text

-- the text that is kept of a trace: all that its reader had left, or where the trace broke a prefix that reaches that
abbrev pub IsKeptTo : Option Broken → List ℕ → List ℕ → Type 0
IsKeptTo None left text = text ≡ left
IsKeptTo (Some broken) left text = IsPrefixTo broken left text

-- what is kept is enough for a trace that broke so: all bytes up to there, or all of its text where it did not break
abbrev pub IsEnough : Kept → Option Broken → Type 0
IsEnough kept None = kept.ended ≡ true
IsEnough kept (Some broken) = broken.place ≤ length kept.bytes.items

-- the text is what is kept of a trace with this log, given its copy
abbrev pub IsTextOf : Log → Kept → List ℕ → Type 0
IsTextOf log kept text = (left : List ℕ) → IsKeptOf left kept.bytes.items kept.ended → IsKeptTo log.broken left text

-- a text is kept of each trace; nothing is said of one where what its reader had left is not known
pub record AreTracesKept (lefts : List (Option (List ℕ))) (logs : List Log) (texts : List (List ℕ)) : Type 0 where
  pub many : length texts ≡ length lefts
  pub each : (trace : ℕ) (left : List ℕ) (log : Log) (text : List ℕ) → slice_get lefts trace ≡ Some (Some left) → slice_get logs trace ≡ Some log → slice_get texts trace ≡ Some text → IsKeptTo log.broken left text

-- a text is kept of each trace where that is asked for
abbrev pub AreKeptIf : Bool → List (Option (List ℕ)) → List Log → List (List ℕ) → Type 0
AreKeptIf true lefts logs texts = AreTracesKept lefts logs texts
AreKeptIf false lefts logs texts = Unit {0}
