-- What was taken of a trace that comes in chunks.
use Rattle.std.specs.Prelude.{◌≡◌, ◌≤◌, ◌<◌, ◌+◌, ◌^◌, ℕ, Bool, true, false, List, [], ◌++◌, length, take, drop, Option, Some, None, Result}
use Rattle.std.specs.List.{AllZip}
use Rattle.edn_reader.specs.Grammar.{ElementModel}
use Rattle.edn_reader.specs.Splitting.{StandsAfter, keep}
use Rattle.jepsen_form.specs.declared.gist.RefusedForm.{RefusedForm}
use Rattle.jepsen_form.specs.declared.item.Item.{Item}
use Rattle.jepsen_form.specs.Item.{IsItem}
use Rattle.shards.specs.Pass.{PassModel}
use Rattle.feeders.specs.declared.intake.Intake.{Intake}
use Rattle.logs.specs.Broken.{AreElements}
use Rattle.feeders.specs.TailBuffer.{AreLastBytes}
use Rattle.feeders.specs.Pending.{CanSettle, HoldsAs, IsPending, IsTight}
use Rattle.feeders.specs.Progress.{IsFed}
use Rattle.feeders.specs.Readers.{IsNotOfReading}
use Rattle.feeders.specs.Setting.{Setting}

-- after `bytes`, before `next`, the splitter has given these elements; the kept bytes are the last of `bytes`, from no
-- later than the first that an element may still need, and no more elements were counted than bytes are before that one
pub record HasTaken (bytes next : List ℕ) (pieces : List ElementModel) (intake : Intake) : Type 0 where
  pub present : StandsAfter bytes next pieces intake.splitter
  pub holds : AreLastBytes bytes intake.kept
  pub low : intake.kept.from ≤ keep intake.splitter
  pub place : intake.progress.place ≤ keep intake.splitter

-- the intake can go on with `next`: its splitter and its kept bytes are as after some bytes, none is kept between two
-- elements, and an element that waits can be carried out
pub record CanGoOn (next : List ℕ) (intake : Intake) : Type 0 where
  pub bytes : List ℕ
  pub pieces : List ElementModel
  pub present : StandsAfter bytes next pieces intake.splitter
  pub holds : HoldsAs intake.pending bytes intake.kept
  pub low : intake.kept.from ≤ keep intake.splitter
  pub place : intake.progress.place ≤ keep intake.splitter
  pub counted : intake.progress.place ≤ intake.splitter.taken
  pub fits : intake.splitter.taken < 2 ^ 64
  pub tight : IsTight intake
  pub settle : CanSettle intake

-- the elements that have ended in `bytes`, before `next`, are fed, but for one at most that waits; the trace has not
-- broken in them
pub record HasFed (setting : Setting) (bytes next : List ℕ) (intake : Intake) (pass : PassModel) : Type 0 where
  pub pieces : List ElementModel
  pub waiting : List ElementModel
  pub items : List (Result Item RefusedForm)
  pub taken : HasTaken bytes next (pieces ++ waiting) intake
  pub read : AllZip (IsItem setting.tower setting.chosen) pieces items
  pub pending : IsPending setting items waiting intake pass
  pub unbroken : intake.progress.log.broken ≡ None

-- the trace is fed, up to its end or to where it broke, with this pass and the intake's log
abbrev pub HasEnded : Setting → List ℕ → Intake → PassModel → Type 0
HasEnded setting trace intake pass = IsFed setting trace (record { pass = pass; log = intake.progress.log })

-- the end of the trace was taken: its elements, up to where its text broke if it did, are fed, but for the last one
-- where that waits
pub record IsAtEnd (setting : Setting) (trace : List ℕ) (intake : Intake) (pass : PassModel) : Type 0 where
  pub pieces : List ElementModel
  pub waiting : List ElementModel
  pub items : List (Result Item RefusedForm)
  pub elements : AreElements trace intake.progress.log.broken (pieces ++ waiting)
  pub read : AllZip (IsItem setting.tower setting.chosen) pieces items
  pub pending : IsPending setting items waiting intake pass
  pub by_text : IsNotOfReading intake.progress.log

-- the trace broke in `bytes`: each trace that begins with them is fed (`HasEnded`), whatever follows
abbrev pub HasBroken : Setting → List ℕ → Intake → PassModel → Type 0
HasBroken setting bytes intake pass = (trace more : List ℕ) → trace ≡ bytes ++ more → HasEnded setting trace intake pass

-- after `bytes` came a chunk, and `next` comes next: the first bytes of the chunk are fed, as many as were used; or,
-- where no number is given, the trace broke in `bytes`, the chunk or `next`
abbrev pub GoesTo : Setting → List ℕ → List ℕ → List ℕ → Option ℕ → Intake → PassModel → Type 0
GoesTo setting bytes piece next None intake pass = HasBroken setting (bytes ++ (piece ++ next)) intake pass
GoesTo setting bytes piece next (Some used) intake pass = HasFed setting (bytes ++ take used piece) (drop used piece ++ next) intake pass

-- the first `used` bytes of a chunk were taken, and the intake can go on with the rest
pub record HasUsed (piece : List ℕ) (old : Intake) (used : ℕ) (new : Intake) : Type 0 where
  pub within : used ≤ length piece
  pub taken : new.splitter.taken ≡ old.splitter.taken + used
  pub can : CanGoOn (drop used piece) new

-- `bytes` are fed, and the trace goes on (`HasFed`); or, where it does not, it broke in them (`HasBroken`)
abbrev pub GoesOver : Bool → Setting → List ℕ → Intake → PassModel → Type 0
GoesOver true setting bytes intake pass = HasFed setting bytes [] intake pass
GoesOver false setting bytes intake pass = HasBroken setting bytes intake pass
