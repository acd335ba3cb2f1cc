-- Where a trace broke, and which elements it has then.
use Rattle.std.specs.Prelude.{◌≡◌, ◌⊎◌, ℕ, Bool, true, false, IsTrue, List, [], length, Option, Some, None}
use Rattle.edn_reader.specs.declared.fault.EdnFault.{EdnFault}
use Rattle.edn_reader.specs.declared.fault.EdnFault.TheVariants as edn
use Rattle.edn_reader.specs.Grammar.{ElementModel}
use Rattle.edn_reader.specs.Text.{IsText, IsViable}
use Rattle.edn_reader.specs.Fault.{FaultOf, AreElementsBefore, AreElementsSoFar}
use Rattle.logs.specs.declared.log.Broken.{Broken}
use Rattle.logs.specs.declared.log.BreakCode.{BreakCode}
use Rattle.logs.specs.declared.log.BreakCode.TheVariants.{Truncated, StrayClose, WrongClose, TooDeep, OddMap, TagWithoutElement, ReadFailed, TooLong}

-- the break of a trace whose text has this first fault; none where the fault is that memory was refused
abbrev pub broken_by : EdnFault → Option Broken
broken_by (edn.Truncated place) = Some (record { code = Truncated; place = place })
broken_by (edn.StrayClose place) = Some (record { code = StrayClose; place = place })
broken_by (edn.WrongClose place) = Some (record { code = WrongClose; place = place })
broken_by (edn.TooDeep place) = Some (record { code = TooDeep; place = place })
broken_by (edn.OddMap place) = Some (record { code = OddMap; place = place })
broken_by (edn.TagWithoutElement place) = Some (record { code = TagWithoutElement; place = place })
broken_by (edn.Memory place) = None

-- whether this is a break of the reading (N1, N2), and not of the text (E1 to E6)
abbrev pub is_of_reading : BreakCode → Bool
is_of_reading Truncated = false
is_of_reading StrayClose = false
is_of_reading WrongClose = false
is_of_reading TooDeep = false
is_of_reading OddMap = false
is_of_reading TagWithoutElement = false
is_of_reading ReadFailed = true
is_of_reading TooLong = true

-- the trace broke at the first fault of its text, and these are the elements before that
abbrev pub BrokeByText : List ℕ → Broken → List ElementModel → Type 0
BrokeByText input broken pieces = (fault : EdnFault) × FaultOf input fault × AreElementsBefore input pieces × (broken_by fault ≡ Some broken)

-- the reading of the trace broke off at the end of the input, which could still go on to be a text; these are the
-- elements that have ended, whatever would have followed
abbrev pub BrokeByReading : List ℕ → Broken → List ElementModel → Type 0
BrokeByReading input broken pieces = IsTrue (is_of_reading broken.code) × (broken.place ≡ length input) × IsViable input × AreElementsSoFar input [] pieces

-- the elements of a trace: those of its text; or, where it broke, those that ended before that
abbrev pub AreElements : List ℕ → Option Broken → List ElementModel → Type 0
AreElements input None pieces = IsText input pieces
AreElements input (Some broken) pieces = BrokeByText input broken pieces ⊎ BrokeByReading input broken pieces
