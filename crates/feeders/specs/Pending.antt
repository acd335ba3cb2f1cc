-- The element that ended last, until its step is carried out. Only private clauses speak of it.
use Rattle.std.specs.Prelude.{◌≡◌, ◌≤◌, ◌<◌, ◌+◌, ◌-◌, ◌^◌, ℕ, List, [], ◌∷◌, ◌++◌, length, drop, Option, IfSome, Result}
use Rattle.std.specs.Borrow.{Bor}
use Rattle.std.specs.List.{AllZip}
use Rattle.edn_reader.specs.Grammar.{ElementModel, IsElement}
use Rattle.edn_reader.specs.Splitting.{SplitterModel, IsLast, keep}
use Rattle.tower_file.specs.Contents.{TowerModel}
use Rattle.jepsen_form.specs.declared.gist.RefusedForm.{RefusedForm}
use Rattle.jepsen_form.specs.declared.item.Item.{Item}
use Rattle.jepsen_form.specs.declared.item.MomentField.{MomentField}
use Rattle.jepsen_form.specs.Item.{IsItem}
use Rattle.shards.specs.Plan.{Plan}
use Rattle.shards.specs.Pass.{PassModel}
use Rattle.feeders.specs.declared.intake.Intake.{Intake}
use Rattle.feeders.specs.declared.tail_buffer.TailBuffer.{TailBuffer}
use Rattle.feeders.specs.declared.pending.Pending.{Pending}
use Rattle.feeders.specs.declared.pending.Pending.TheVariants.{Nothing, Whole, Lent, Paired}
use Rattle.feeders.specs.declared.progress.Progress.{Progress}
use Rattle.feeders.specs.TailBuffer.{AreLastBytes}
use Rattle.feeders.specs.Progress.{IsAhead, IsAt, IsPaired, PairedUpTo}
use Rattle.feeders.specs.Setting.{Setting}
use Rattle.logs.specs.Start.{Start}

-- the item, where one was read, is that of the element that ended last, if that element has this text
abbrev pub IsItemOfLast : TowerModel → MomentField → SplitterModel → List ℕ → Option (Result Item RefusedForm) → Type 0
IsItemOfLast tower chosen splitting text item = IfSome item (λ item. (last : ElementModel) → IsLast splitting last → last.text ≡ text → IsItem tower chosen last item)

-- the page, where there is one, has these bytes
abbrev pub IsPageOf : Option (Bor (List ℕ)) → List ℕ → Type 0
IsPageOf page bytes = IfSome page (λ page. page.now ≡ bytes)

-- an element was read to this state: its item is held, and the progress is as it was; or it was paired at once, and its
-- step is held
abbrev pub IsReadAs : TowerModel → MomentField → ElementModel → Progress → Progress → Pending → Type 0
IsReadAs tower chosen piece old new Nothing = ⊥
IsReadAs tower chosen piece old new (Whole start) = ⊥
IsReadAs tower chosen piece old new (Lent item) = IsItem tower chosen piece item × (new ≡ old)
IsReadAs tower chosen piece old new (Paired step) =
    (item : Result Item RefusedForm) × IsItem tower chosen piece item × PairedUpTo new × (new.place ≡ old.place) × (new.log ≡ old.log)
    × ((plan : Plan) (start : Start) (items : List (Result Item RefusedForm)) (pass : PassModel) → IsAt plan start items old pass → IsPaired plan start items item step new pass)

-- this is the element that ended last, and its bytes are the kept ones from the place `start` on
abbrev pub KeepsElement : ℕ → ElementModel → Intake → Type 0
KeepsElement start last intake = IsLast intake.splitter last × (last.text ≡ drop (start - intake.kept.from) intake.kept.bytes.items)

-- the elements of `items` are carried out, and at most one waits after them, in this state: not read yet, read, or
-- paired
abbrev pub IsPendingAs : Pending → Setting → List (Result Item RefusedForm) → List ElementModel → Intake → PassModel → Type 0
IsPendingAs Nothing setting items waiting intake pass = (waiting ≡ []) × IsAt setting.plan setting.start items intake.progress pass
IsPendingAs (Whole start) setting items waiting intake pass =
    (last : ElementModel) × (waiting ≡ last ∷ []) × KeepsElement start last intake × IsAt setting.plan setting.start items intake.progress pass
IsPendingAs (Lent item) setting items waiting intake pass =
    (last : ElementModel) × (waiting ≡ last ∷ []) × IsItem setting.tower setting.chosen last item × IsAt setting.plan setting.start items intake.progress pass
IsPendingAs (Paired step) setting items waiting intake pass =
    (last : ElementModel) × (waiting ≡ last ∷ []) × ((item : Result Item RefusedForm) × IsItem setting.tower setting.chosen last item × IsPaired setting.plan setting.start items item step intake.progress pass)

-- the elements of `items` are carried out, and at most one waits after them, in the state that the intake has for it
abbrev pub IsPending : Setting → List (Result Item RefusedForm) → List ElementModel → Intake → PassModel → Type 0
IsPending setting items waiting intake pass = IsPendingAs intake.pending setting items waiting intake pass

-- the elements of `items` and those that waited after them are carried out
abbrev pub AreSettled : Setting → List (Result Item RefusedForm) → List ElementModel → Progress → PassModel → Type 0
AreSettled setting items waiting progress pass =
    (more : List (Result Item RefusedForm)) × AllZip (IsItem setting.tower setting.chosen) waiting more × IsAt setting.plan setting.start (items ++ more) progress pass

-- the element that ended last is the kept bytes from the place `start` on, and nothing was taken after it
pub record CanRead (start : ℕ) (intake : Intake) : Type 0 where
  pub low : intake.kept.from ≤ start
  pub high : start ≤ intake.kept.from + length intake.kept.bytes.items
  pub element : (last : ElementModel) × IsLast intake.splitter last × IsElement last × (last.text ≡ drop (start - intake.kept.from) intake.kept.bytes.items)
  pub starts : intake.splitter.ended.start ≡ start
  pub ends : intake.splitter.taken ≡ intake.kept.from + length intake.kept.bytes.items

-- the element that ended last is, from the place `start` on, the kept bytes followed by `front`, the first bytes of a
-- chunk; nothing was taken after it
pub record CanReadBehind (start : ℕ) (front : List ℕ) (intake : Intake) : Type 0 where
  pub low : intake.kept.from ≤ start
  pub high : start ≤ intake.kept.from + length intake.kept.bytes.items + length front
  pub element : (last : ElementModel) × IsLast intake.splitter last × IsElement last × (last.text ≡ drop (start - intake.kept.from) (intake.kept.bytes.items ++ front))
  pub starts : intake.splitter.ended.start ≡ start
  pub ends : intake.splitter.taken ≡ intake.kept.from + length intake.kept.bytes.items + length front
  pub keep_is : keep intake.splitter ≡ intake.splitter.taken
  pub counted : intake.progress.place < intake.splitter.taken
  pub fits : intake.splitter.taken < 2 ^ 64

-- no element has begun after the one that waits, and fewer elements were counted than bytes taken
pub record WaitsBetweenElements (intake : Intake) : Type 0 where
  pub keep_is : keep intake.splitter ≡ intake.splitter.taken
  pub counted : intake.progress.place < intake.splitter.taken
  pub fits : intake.splitter.taken < 2 ^ 64

-- what waits in this state, if anything, can be carried out, after it is read and paired where it was not yet
abbrev pub CanSettleAs : Pending → Intake → Type 0
CanSettleAs Nothing intake = IsAhead intake.progress
CanSettleAs (Whole start) intake = IsAhead intake.progress × CanRead start intake × WaitsBetweenElements intake
CanSettleAs (Lent item) intake = IsAhead intake.progress × WaitsBetweenElements intake
CanSettleAs (Paired step) intake = PairedUpTo intake.progress × WaitsBetweenElements intake

-- what waits, if anything, can be carried out
pub record CanSettle (intake : Intake) : Type 0 where
  pub by : CanSettleAs intake.pending intake

-- the buffer holds the last of these bytes; nothing is said of it where an element waits to be read from it
abbrev pub HoldsAs : Pending → List ℕ → TailBuffer → Type 0
HoldsAs Nothing bytes kept = AreLastBytes bytes kept
HoldsAs (Whole start) bytes kept = Unit {0}
HoldsAs (Lent item) bytes kept = AreLastBytes bytes kept
HoldsAs (Paired step) bytes kept = AreLastBytes bytes kept

-- between two elements no byte is kept; nothing is said where an element waits to be read from the kept bytes
abbrev pub IsTightAs : Pending → Intake → Type 0
IsTightAs Nothing intake = keep intake.splitter ≡ intake.splitter.taken → intake.kept.bytes.items ≡ []
IsTightAs (Whole start) intake = Unit {0}
IsTightAs (Lent item) intake = keep intake.splitter ≡ intake.splitter.taken → intake.kept.bytes.items ≡ []
IsTightAs (Paired step) intake = keep intake.splitter ≡ intake.splitter.taken → intake.kept.bytes.items ≡ []

-- the kept bytes are none between two elements, in the state that the intake has for an element that waits
abbrev pub IsTight : Intake → Type 0
IsTight intake = IsTightAs intake.pending intake

-- the element that waits went on, and nothing was taken meanwhile: the splitter and where the trace broke are
-- unchanged, and the buffer still holds the last of the bytes, and no more than before
pub record IsBeside (old new : Intake) : Type 0 where
  pub splitter : new.splitter ≡ old.splitter
  pub broken : new.progress.log.broken ≡ old.progress.log.broken
  pub holds : (bytes : List ℕ) → length bytes ≡ old.splitter.taken → AreLastBytes bytes old.kept → AreLastBytes bytes new.kept
  pub holds_as : (bytes : List ℕ) → length bytes ≡ old.splitter.taken → HoldsAs old.pending bytes old.kept → HoldsAs new.pending bytes new.kept
  pub low : old.kept.from ≤ keep old.splitter → new.kept.from ≤ keep old.splitter
  pub tight : IsTight old → IsTight new

-- no element waits to be read: one that waits was read already
abbrev pub IsToBePaired : Pending → Type 0
IsToBePaired Nothing = Unit {0}
IsToBePaired (Whole start) = ⊥
IsToBePaired (Lent item) = Unit {0}
IsToBePaired (Paired step) = Unit {0}

-- no element waits to be read or to be paired: one that waits was paired already
abbrev pub IsToBeCarriedOut : Pending → Type 0
IsToBeCarriedOut Nothing = Unit {0}
IsToBeCarriedOut (Whole start) = ⊥
IsToBeCarriedOut (Lent item) = ⊥
IsToBeCarriedOut (Paired step) = Unit {0}

-- how many elements wait, 0 or 1
abbrev pub count_of : Pending → ℕ
count_of Nothing = 0
count_of (Whole start) = 1
count_of (Lent item) = 1
count_of (Paired step) = 1
