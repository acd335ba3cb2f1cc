-- Which bytes of a reader are its trace.
use Rattle.std.specs.Prelude.{◌≡◌, ℕ, Bool, true, false, List, [], ◌∷◌, ◌++◌, Option, Some, None}
use Rattle.logs.specs.declared.log.Broken.{Broken}
use Rattle.logs.specs.declared.log.Log.{Log}
use Rattle.logs.specs.Broken.{is_of_reading}

-- whether a trace's reading broke off (N1 or N2); false where the trace did not break, or by a fault of its text
abbrev pub broke_reading : Option Broken → Bool
broke_reading None = false
broke_reading (Some broken) = is_of_reading broken.code

-- the reading of the log's trace did not break off: the trace did not break, or by a fault of its text
abbrev pub IsNotOfReading : Log → Type 0
IsNotOfReading log = broke_reading log.broken ≡ false

-- the trace is all of these bytes; or, where the reading broke off, a prefix of them
abbrev pub IsReadUpTo : Bool → List ℕ → List ℕ → Type 0
IsReadUpTo false all trace = trace ≡ all
IsReadUpTo true all trace = (rest : List ℕ) × (all ≡ trace ++ rest)

-- the trace is what was read of a reader that had these bytes left: all, or a prefix where the reading broke off;
-- nothing is said where they are not known
abbrev pub IsReadOf : Option (List ℕ) → Option Broken → List ℕ → Type 0
IsReadOf None broken trace = Unit {0}
IsReadOf (Some all) broken trace = IsReadUpTo (broke_reading broken) all trace

-- each trace is what was read of its reader (`IsReadOf`), as its log says where it broke; the lists are of one length
abbrev pub AreReadOf : List (Option (List ℕ)) → List Log → List (List ℕ) → Type 0
AreReadOf [] [] [] = Unit {0}
AreReadOf (left ∷ lefts) (log ∷ logs) (trace ∷ traces) = IsReadOf left log.broken trace × AreReadOf lefts logs traces
AreReadOf lefts logs traces = ⊥
