-- What a teller is seen as.
use Rattle.std.specs.Prelude.{◌≡◌, ◌⊎◌, ℕ, Bool, List, [], ◌∷◌, ◌++◌, Option, Result, Ok, Err, filter, if◌then◌else◌, true, false}
use Rattle.std.specs.Io.KnownBytes.{Appends}
use Rattle.tower_file.specs.Contents.{Register}
use Rattle.logs.specs.declared.notice.Notice.{Notice}
use Rattle.watch.specs.declared.run.Terms.{Terms}
use Rattle.watch.specs.declared.settling.Held.{Held}
use Rattle.watch.specs.declared.settling.FeederProgress.{FeederProgress}
use Rattle.watch.specs.declared.teller.TellerState.{TellerState}
use Rattle.watch.specs.declared.teller.TellerState.TheVariants.{Going, Stopped, OutOfMemory, Unwritable}
use Rattle.watch.specs.declared.printer.Unwritten.{Unwritten}
use Rattle.watch.specs.declared.printer.Unwritten.TheVariants as unwritten
use Rattle.watch.specs.Due.{WaitInTurn, has_due, most_of}
use Rattle.watch.specs.Settling.{AreWrittenOf, IsHeldBack, IsSettledUpTo, is_no_change, notices_of, says_fails}
use Rattle.watch.specs.declared.doubt.LeftSoFar.{LeftSoFar}
use Rattle.watch.specs.Doubt.{AreLeftFor}
use Rattle.watch.specs.Text.{text_of_notices, texts_after}
use Rattle.watch.specs.Watched.{IsEnd, ends_at}

-- a teller as it is seen: what it was told, what of that it holds back, how far each feeder has come, and whether it
-- takes more
pub record TellerModel : Type 0 where
  pub told : List Notice
  pub held : List Held
  pub progress : List FeederProgress
  pub state : TellerState

-- a teller that goes on wrote what was due: what is held back first is not
abbrev pub HasWrittenDue : TellerState → List FeederProgress → List Held → Type 0
HasWrittenDue state progress held = state ≡ Going → has_due held progress ≡ false

-- a teller of one feeder that goes on holds back in turn
abbrev pub HoldsInTurn : TellerState → ℕ → List FeederProgress → List Held → Type 0
HoldsInTurn state settle progress held = state ≡ Going → (one : FeederProgress) → progress ≡ one ∷ [] → WaitInTurn (most_of settle one) held

-- the output has the texts of the notices that were written, and nothing more
abbrev pub HasWritten : TellerState → Type 0
HasWritten Going = Unit {0}
HasWritten Stopped = Unit {0}
HasWritten OutOfMemory = Unit {0}
HasWritten Unwritable = ⊥

-- each notice that was taken was told, and is written, held back, or one of a pair that is neither
abbrev pub HasTold : TellerState → Type 0
HasTold Going = Unit {0}
HasTold Stopped = Unit {0}
HasTold OutOfMemory = ⊥
HasTold Unwritable = ⊥

-- a teller that goes on wrote nothing that ends the watch; one that stopped wrote that last
abbrev pub IsStateAfter : Bool → List Notice → TellerState → Type 0
IsStateAfter until_fail written Going = IsEnd until_fail written false
IsStateAfter until_fail written Stopped = IsEnd until_fail written true
IsStateAfter until_fail written OutOfMemory = Unit {0}
IsStateAfter until_fail written Unwritable = Unit {0}

-- the state of a teller that took a notice and wrote it, or could not
abbrev pub state_after : Result Unit Unwritten → Bool → Notice → TellerState
state_after (Ok done) until_fail notice = if ends_at until_fail notice then Stopped else Going
state_after (Err unwritten.Memory) until_fail notice = OutOfMemory
state_after (Err unwritten.Write) until_fail notice = Unwritable

-- a printer as it is seen: what the output has, and the elements that were left out so far
pub record PrinterModel : Type 0 where
  pub out : Option (List ℕ)
  pub left : LeftSoFar

-- after these earlier notices others were written, one after the other; a teller that did so is in this state
pub record IsWritten (terms : Terms) (registers : List Register) (earlier written : List Notice) (state : TellerState) (old new : Option (List ℕ)) (kept : LeftSoFar) : Type 0 where
  pub texts : HasWritten state → Appends old new (texts_after terms.form registers earlier written)
  pub left : HasTold state → AreLeftFor terms.form (earlier ++ written) kept
  pub after : IsStateAfter terms.until_fail written state

-- whatever was written earlier, these notices were written then
abbrev pub WritesOn : Terms → List Register → List Notice → TellerState → PrinterModel → PrinterModel → Type 0
WritesOn terms registers written state old new =
    (earlier : List Notice) → AreLeftFor terms.form earlier old.left → IsWritten terms registers earlier written state old.out new.out new.left

-- what was written and what is held back of what was told: where no failure is to be held back none is, and all is
-- written; else all refusals, breaks and ends are, in order, and of each register what is settled
pub record IsWrittenOrHeld (settle : ℕ) (told held written : List Notice) : Type 0 where
  pub at_once : settle ≡ 0 → (told ≡ written) × (held ≡ [])
  pub others : filter is_no_change told ≡ filter is_no_change written
  pub by_register : (register : ℕ) → IsSettledUpTo (notices_of register told) (notices_of register held) (notices_of register written)

-- what a teller was told is written, or held back
pub record IsTold (terms : Terms) (registers : List Register) (before : Option (List ℕ)) (now : PrinterModel) (told held : List Notice) (state : TellerState) : Type 0 where
  pub written : List Notice
  pub out : IsWritten terms registers [] written state before now.out now.left
  pub settled : HasTold state → IsWrittenOrHeld terms.settle told held written

-- a failure of one register that was held back and the change that heals it, of which nothing is written or left
pub record IsHealed (held new written left : List Notice) : Type 0 where
  pub failing : Notice
  pub holding : Notice
  pub held_is : held ≡ failing ∷ []
  pub new_is : new ≡ holding ∷ []
  pub fails : says_fails failing ≡ true
  pub holds : says_fails holding ≡ false
  pub none_written : written ≡ []
  pub none_left : left ≡ []

-- the changes of one register that were held back and the one that comes, if one does, are those that are written now
-- and then those that are left, held back; or what comes heals what was held back, and nothing is left of both
abbrev pub IsPassedOn : List Notice → List Notice → List Notice → List Notice → Type 0
IsPassedOn held new written left = IsHeldBack left × ((held ++ new ≡ written ++ left) ⊎ IsHealed held new written left)

-- what is written now, and what is held back from now on, given what was held back and what comes
pub record ArePassedOn (settle : ℕ) (held new written left : List Notice) : Type 0 where
  pub at_once : settle ≡ 0 → held ≡ [] → (new ≡ written) × (left ≡ [])
  pub others : filter is_no_change new ≡ filter is_no_change written
  pub by_register : (register : ℕ) → IsHeldBack (notices_of register held) → IsPassedOn (notices_of register held) (notices_of register new) (notices_of register written) (notices_of register left)

-- what was written of what was told, where a teller in this state is over
abbrev pub AreWrittenIn : TellerState → ℕ → List Notice → List Notice → Type 0
AreWrittenIn Going settle told written = AreWrittenOf settle false told written
AreWrittenIn Stopped settle told written = AreWrittenOf settle true told written
AreWrittenIn OutOfMemory settle told written = Unit {0}
AreWrittenIn Unwritable settle told written = Unit {0}

-- what a teller leaves of what it was told, where all is over; where that broke off, nothing is said of what was held back
pub record IsToldAll (terms : Terms) (registers : List Register) (before now : Option (List ℕ)) (told : List Notice) (finished : Bool) (state : TellerState) : Type 0 where
  pub written : List Notice
  pub texts : HasWritten state → Appends before now (text_of_notices terms.form registers written)
  pub after : IsStateAfter terms.until_fail written state
  pub settled : finished ≡ true → AreWrittenIn state terms.settle told written
