-- A trace that comes in chunks: one element more, what waits, and where the trace breaks.
use Rattle.std.proofs.Common.{◌≡◌, ◌⊎◌, inl, inr, ℕ, ◌+◌, ◌-◌, ◌≤◌, ◌<◌, ◌^◌, List, [], ◌∷◌, ◌++◌, length, take, drop, Option, Some, None, Ok, refl, sym, ap, subst, ◌∙◌, arith, append_assoc, append-nil, length-drop}
use Rattle.std.specs.List.{AllByRecursion, AllZip}
use Rattle.std.proofs.Math.Seq.{take-length, drop-length, take-add, take-append-add}
use Rattle.std.proofs.lemmas.List.{drop-take, take-append-drop}
use Rattle.edn_reader.specs.declared.fault.EdnFault.{EdnFault}
use Rattle.edn_reader.specs.declared.fault.EdnFault.TheVariants as edn
use Rattle.edn_reader.specs.Grammar.{ElementModel, IsElement}
use Rattle.edn_reader.specs.Text.{IsFront}
use Rattle.edn_reader.specs.Fault.{wanted_at}
use Rattle.edn_reader.specs.Splitting.{Finishes, IsLast, IsElementAt, KeepsFault, SplitterModel, StandsAfter, TakesUpTo, keep}
use Rattle.jepsen_form.specs.Item.{IsItem}
use Rattle.shards.specs.Pass.{PassModel}
use Rattle.feeders.specs.declared.intake.Intake.{Intake}
use Rattle.feeders.specs.declared.tail_buffer.TailBuffer.{TailBuffer}
use Rattle.logs.specs.declared.log.Broken.{Broken}
use Rattle.feeders.specs.declared.pending.Pending.{Pending}
use Rattle.feeders.specs.declared.pending.Pending.TheVariants.{Nothing, Whole, Lent, Paired}
use Rattle.feeders.specs.declared.progress.Progress.{Progress}
use Rattle.logs.specs.Broken.{AreElements, broken_by}
use Rattle.feeders.specs.Intake.{CanGoOn, HasBroken, HasFed, HasTaken}
use Rattle.feeders.specs.TailBuffer.{AreLastBytes}
use Rattle.feeders.specs.Pending.{CanSettle, CanSettleAs, HoldsAs, IsBeside, WaitsBetweenElements, IsPending, IsPendingAs, AreSettled, count_of, IsTight}
use Rattle.feeders.specs.Progress.{HasDone, IsAhead, IsAt}
use Rattle.feeders.specs.Setting.{Setting}
use Rattle.logs.specs.Steps.{steps_of}
use Rattle.feeders.proofs.Holding.{drop_twice}

-- more bytes that come next may be named
pub known_more : (bytes next rest : List ℕ) (pieces : List ElementModel) (splitting : SplitterModel) → StandsAfter bytes next pieces splitting → StandsAfter bytes (next ++ rest) pieces splitting
known_more bytes next rest pieces splitting present = λ input more is. present input (rest ++ more) (is ∙ ap (λ (xs : List ℕ). bytes ++ xs) (append_assoc next rest more))

pub taken_more : (bytes next rest : List ℕ) (pieces : List ElementModel) (intake : Intake) → HasTaken bytes next pieces intake → HasTaken bytes (next ++ rest) pieces intake
taken_more bytes next rest pieces intake taken = record {
  present = known_more bytes next rest pieces intake.splitter taken.present;
  holds = taken.holds;
  low = taken.low;
  place = taken.place;
}

pub can_more : (next rest : List ℕ) (intake : Intake) → CanGoOn next intake → CanGoOn (next ++ rest) intake
can_more next rest intake can = record {
  bytes = can.bytes;
  pieces = can.pieces;
  present = known_more can.bytes next rest can.pieces intake.splitter can.present;
  holds = can.holds;
  low = can.low;
  place = can.place;
  counted = can.counted;
  fits = can.fits;
  tight = can.tight;
  settle = can.settle;
}

-- how many bytes were taken
pub taken_is : (bytes next : List ℕ) (pieces : List ElementModel) (splitting : SplitterModel) → StandsAfter bytes next pieces splitting → splitting.taken ≡ length bytes
taken_is bytes next pieces splitting present = (present (bytes ++ (next ++ [])) [] refl).taken

-- the bytes of an element that ends within a chunk
pub span_text : (bytes piece : List ℕ) (used start end : ℕ) → end ≡ length bytes + used → start ≤ end → take (end - start) (drop start (bytes ++ piece)) ≡ drop start (bytes ++ take used piece)
span_text bytes piece used start end is within =
    sym (drop-take start (end - start) (bytes ++ piece))
    ∙ ap (λ (n : ℕ). drop start (take n (bytes ++ piece))) (omega (arith, is, within))
    ∙ ap (drop start) (take-append-add bytes piece used)

take_rest : (start end : ℕ) (bytes : List ℕ) → end ≡ length bytes → take (end - start) (drop start bytes) ≡ drop start bytes
take_rest start end bytes is = ap (λ (n : ℕ). take n (drop start bytes)) (omega (arith, is, length-drop start bytes)) ∙ take-length (drop start bytes)

pub rest_is : (at : ℕ) (piece : List ℕ) → take (length piece - at) (drop at piece) ≡ drop at piece
rest_is at piece = ap (λ (n : ℕ). take n (drop at piece)) (sym (length-drop at piece)) ∙ take-length (drop at piece)

-- a buffer with these bytes and another capacity still holds the last bytes
pub holds_same : (bytes : List ℕ) (old new : TailBuffer) → new.from ≡ old.from → new.bytes.items ≡ old.bytes.items → AreLastBytes bytes old → AreLastBytes bytes new
holds_same bytes old new from items holds = record {
  long = omega (arith, from, ap length items, holds.long);
  last = items ∙ holds.last ∙ ap (λ (n : ℕ). drop n bytes) (sym from);
}

-- a buffer from the end of the bytes on keeps none
pub none_kept : (bytes : List ℕ) (kept : TailBuffer) → kept.from ≡ length bytes → AreLastBytes bytes kept → kept.bytes.items ≡ []
none_kept bytes kept from holds = holds.last ∙ ap (λ (n : ℕ). drop n bytes) from ∙ drop-length bytes

-- the first `used` bytes of a chunk were taken
pub took : (bytes piece next : List ℕ) (pieces : List ElementModel) (used : ℕ) (new : Intake)
    → StandsAfter (bytes ++ take used piece) (drop used piece ++ next) pieces new.splitter → AreLastBytes (bytes ++ take used piece) new.kept
    → new.kept.from ≤ keep new.splitter → new.progress.place ≤ keep new.splitter → HasTaken (bytes ++ take used piece) (drop used piece ++ next) pieces new
took bytes piece next pieces used new present holds low place = record { present = present; holds = holds; low = low; place = place }

-- a whole chunk was taken, and no element ended
pub all_present : (bytes piece next : List ℕ) (pieces : List ElementModel) (used : ℕ) (new : SplitterModel) → used ≡ length piece → StandsAfter (bytes ++ piece) next pieces new
    → StandsAfter (bytes ++ take used piece) (drop used piece ++ next) pieces new
all_present bytes piece next pieces used new is present =
    let all : take used piece ≡ piece = ap (λ (n : ℕ). take n piece) is ∙ take-length piece in
    let none : drop used piece ≡ [] = ap (λ (n : ℕ). drop n piece) is ∙ drop-length piece in
    subst (λ (xs : List ℕ). StandsAfter (bytes ++ xs) (drop used piece ++ next) pieces new) (sym all)
    (subst (λ (xs : List ℕ). StandsAfter (bytes ++ piece) (xs ++ next) pieces new) (sym none) present)

pub all_held : (bytes piece : List ℕ) (used : ℕ) (kept : TailBuffer) → used ≡ length piece → AreLastBytes (bytes ++ piece) kept → AreLastBytes (bytes ++ take used piece) kept
all_held bytes piece used kept is holds = subst (λ (xs : List ℕ). AreLastBytes (bytes ++ xs) kept) (sym (ap (λ (n : ℕ). take n piece) is ∙ take-length piece)) holds

-- the intake can go on with the bytes that are left
pub goes_on : (bytes left : List ℕ) (pieces : List ElementModel) (new : Intake) → StandsAfter bytes (left ++ []) pieces new.splitter → HoldsAs new.pending bytes new.kept
    → new.kept.from ≤ keep new.splitter → new.progress.place ≤ keep new.splitter → new.progress.place ≤ new.splitter.taken → new.splitter.taken < 2 ^ 64 → IsTight new → CanSettle new → CanGoOn left new
goes_on bytes left pieces new present holds low place counted fits tight settle = record {
  bytes = bytes;
  pieces = pieces;
  present = subst (λ (next : List ℕ). StandsAfter bytes next pieces new.splitter) (append-nil left) present;
  holds = holds;
  low = low;
  place = place;
  counted = counted;
  fits = fits;
  tight = tight;
  settle = settle;
}

-- where nothing waits, the buffer holds the last of the bytes
pub holds_none : (pending : Pending) (bytes : List ℕ) (kept : TailBuffer) → pending ≡ Nothing → HoldsAs pending bytes kept → AreLastBytes bytes kept
holds_none pending bytes kept is holds = subst (λ (p : Pending). HoldsAs p bytes kept) is holds

pub none_holds : (pending : Pending) (bytes : List ℕ) (kept : TailBuffer) → pending ≡ Nothing → AreLastBytes bytes kept → HoldsAs pending bytes kept
none_holds pending bytes kept is holds = subst (λ (p : Pending). HoldsAs p bytes kept) (sym is) holds

pub ahead_none : (intake : Intake) → CanSettle intake → intake.pending ≡ Nothing → IsAhead intake.progress
ahead_none intake can is = subst (λ (p : Pending). CanSettleAs p intake) is can.by

-- what waits goes on, and what was taken stays taken
pub taken_beside : (bytes next : List ℕ) (pieces : List ElementModel) (old new : Intake) → IsBeside old new → new.progress.place ≤ keep old.splitter → HasTaken bytes next pieces old
    → HasTaken bytes next pieces new
taken_beside bytes next pieces old new beside place taken = record {
  present = subst (StandsAfter bytes next pieces) (sym beside.splitter) taken.present;
  holds = beside.holds bytes (sym (taken_is bytes next pieces old.splitter taken.present)) taken.holds;
  low = subst (λ (s : SplitterModel). new.kept.from ≤ keep s) (sym beside.splitter) (beside.low taken.low);
  place = subst (λ (s : SplitterModel). new.progress.place ≤ keep s) (sym beside.splitter) place;
}

pub can_beside : (next : List ℕ) (old new : Intake) → IsBeside old new → new.progress.place ≤ keep old.splitter → new.progress.place ≤ old.splitter.taken → CanSettle new → CanGoOn next old → CanGoOn next new
can_beside next old new beside place counted settle can = record {
  bytes = can.bytes;
  pieces = can.pieces;
  present = subst (StandsAfter can.bytes next can.pieces) (sym beside.splitter) can.present;
  holds = beside.holds_as can.bytes (sym (taken_is can.bytes next can.pieces old.splitter can.present)) can.holds;
  low = subst (λ (s : SplitterModel). new.kept.from ≤ keep s) (sym beside.splitter) (beside.low can.low);
  place = subst (λ (s : SplitterModel). new.progress.place ≤ keep s) (sym beside.splitter) place;
  counted = subst (λ (s : SplitterModel). new.progress.place ≤ s.taken) (sym beside.splitter) counted;
  fits = omega (arith, can.fits, ap (λ (s : SplitterModel). s.taken) beside.splitter);
  tight = beside.tight can.tight;
  settle = settle;
}

-- where an element waits, it can be counted too
between_of : (pending : Pending) (intake : Intake) → CanSettleAs pending intake → (count_of pending ≡ 0) ⊎ WaitsBetweenElements intake
between_of Nothing intake can = inl refl
between_of (Whole start) intake can = inr can.2
between_of (Lent item) intake can = inr can.1
between_of (Paired step) intake can = inr can.1

one_more : (intake : Intake) (place : ℕ) → (count_of intake.pending ≡ 0) ⊎ WaitsBetweenElements intake → intake.progress.place ≤ keep intake.splitter → intake.progress.place ≤ intake.splitter.taken
    → place ≡ intake.progress.place + count_of intake.pending → count_of intake.pending ≤ 1 → (place ≤ keep intake.splitter) × (place ≤ intake.splitter.taken)
one_more intake place (inl none) kept taken is most = (omega (arith, none, kept, is), omega (arith, none, taken, is))
one_more intake place (inr between) kept taken is most = (omega (arith, between.keep_is, between.counted, is, most), omega (arith, between.counted, is, most))

count_most : (pending : Pending) → count_of pending ≤ 1
count_most Nothing = omega arith
count_most (Whole start) = omega arith
count_most (Lent item) = omega arith
count_most (Paired step) = omega arith

pub counted_on : (intake : Intake) (place : ℕ) → CanSettle intake → intake.progress.place ≤ keep intake.splitter → intake.progress.place ≤ intake.splitter.taken
    → place ≡ intake.progress.place + count_of intake.pending → (place ≤ keep intake.splitter) × (place ≤ intake.splitter.taken)
counted_on intake place can kept taken is = one_more intake place (between_of intake.pending intake can.by) kept taken is (count_most intake.pending)

-- what holds of each of a list holds of the last one
last_of : {A : Type 0} (P : A → Type 0) (xs : List A) (x : A) → AllByRecursion P (xs ++ x ∷ []) → P x
last_of P [] x all = all.0
last_of P (first ∷ xs) x all = last_of P xs x all.1

abbrev pub AllElements : Type 0
AllElements = (input : List ℕ) (pieces : List ElementModel) (at : ℕ) → IsFront input pieces at → AllByRecursion IsElement pieces

-- the bytes of the element that ended in a chunk, as they are kept
pub told_text : (bytes piece next text : List ℕ) (pieces : List ElementModel) (used : ℕ) (span : ℕ × ℕ) (old new : SplitterModel) → (goes : TakesUpTo bytes piece next pieces old used (Some span) new)
    → text ≡ drop span.0 (bytes ++ take used piece) → goes.4.0.text ≡ text
told_text bytes piece next text pieces used span old new goes is =
    goes.4.1.2 ∙ span_text bytes piece used span.0 span.1 goes.1 (omega (arith, goes.4.1.1)) ∙ sym is

pub can_lend : (bytes piece next text : List ℕ) (pieces : List ElementModel) (used : ℕ) (span : ℕ × ℕ) (old new : SplitterModel) → TakesUpTo bytes piece next pieces old used (Some span) new → AllElements
    → text ≡ drop span.0 (bytes ++ take used piece) → (last : ElementModel) × IsLast new last × IsElement last × (last.text ≡ text)
can_lend bytes piece next text pieces used span old new goes elements is =
    let last = goes.4.0 in
    let input = bytes ++ ((piece ++ next) ++ []) in
    (last, goes.4.4, last_of IsElement pieces last (elements input (pieces ++ last ∷ []) span.1 (goes.4.3 input [] refl)), told_text bytes piece next text pieces used span old new goes is)

-- the bytes of the element that ended with the trace, as they are kept
pub last_text : (bytes text : List ℕ) (start end : ℕ) (last : ElementModel) → end ≡ length bytes → IsElementAt bytes start end last → text ≡ drop start (bytes ++ []) → last.text ≡ text
last_text bytes text start end last all spans is = spans.2 ∙ take_rest start end bytes all ∙ ap (drop start) (sym (append-nil bytes)) ∙ sym is

pub can_lend_last : (bytes text : List ℕ) (pieces : List ElementModel) (span : ℕ × ℕ) (old new : SplitterModel) → Finishes bytes pieces old (Ok (Some span)) new → AllElements
    → text ≡ drop span.0 (bytes ++ []) → (last : ElementModel) × IsLast new last × IsElement last × (last.text ≡ text)
can_lend_last bytes text pieces span old new ends elements is =
    let last = ends.3.0 in
    let text_of = ends.3.2 in
    (last, ends.3.4, last_of IsElement pieces last (elements bytes (pieces ++ last ∷ []) text_of.0 text_of.2), last_text bytes text span.0 span.1 last ends.0 ends.3.1 is)

-- a fault that breaks no trace says at which place memory was refused
pub wanted : (fault : EdnFault) → broken_by fault ≡ None → (place : ℕ) × (wanted_at fault ≡ Some place)
wanted (edn.Truncated place) is = absurd cc
wanted (edn.StrayClose place) is = absurd cc
wanted (edn.WrongClose place) is = absurd cc
wanted (edn.TooDeep place) is = absurd cc
wanted (edn.OddMap place) is = absurd cc
wanted (edn.TagWithoutElement place) is = absurd cc
wanted (edn.Memory place) is = (place, refl)

pub unwanted : (fault : EdnFault) (broken : Broken) → broken_by fault ≡ Some broken → wanted_at fault ≡ None
unwanted (edn.Truncated place) broken is = refl
unwanted (edn.StrayClose place) broken is = refl
unwanted (edn.WrongClose place) broken is = refl
unwanted (edn.TooDeep place) broken is = refl
unwanted (edn.OddMap place) broken is = refl
unwanted (edn.TagWithoutElement place) broken is = refl
unwanted (edn.Memory place) broken is = absurd cc

-- two pairs of lists that go together, one after the other
pub zip_join : {A B : Type 0} (R : A → B → Type 0) (xs : List A) (ys : List B) (more : List A) (others : List B) → AllZip R xs ys → AllZip R more others → AllZip R (xs ++ more) (ys ++ others)
zip_join R [] [] more others first second = second
zip_join R [] (y ∷ ys) more others first second = absurd first
zip_join R (x ∷ xs) [] more others first second = absurd first
zip_join R (x ∷ xs) (y ∷ ys) more others first second = (first.0, zip_join R xs ys more others first.1 second)

module _ (setting : Setting) where
  -- what waited was carried out
  pub fed_settled : (bytes next : List ℕ) (old new : Intake) (pass after : PassModel) → (fed : HasFed setting bytes next old pass) → AreSettled setting fed.items fed.waiting new.progress after
      → IsBeside old new → new.progress.place ≤ keep old.splitter → new.pending ≡ Nothing → HasFed setting bytes next new after
  fed_settled bytes next old new pass after fed settled beside place is = record {
    pieces = fed.pieces ++ fed.waiting;
    waiting = [];
    items = fed.items ++ settled.0;
    taken = subst (λ (ps : List ElementModel). HasTaken bytes next ps new) (sym (append-nil (fed.pieces ++ fed.waiting))) (taken_beside bytes next (fed.pieces ++ fed.waiting) old new beside place fed.taken);
    read = zip_join (IsItem setting.tower setting.chosen) fed.pieces fed.items fed.waiting settled.0 fed.read settled.1;
    pending = subst (λ (p : Pending). IsPendingAs p setting (fed.items ++ settled.0) [] new after) (sym is) (refl, settled.2);
    unbroken = beside.broken ∙ fed.unbroken;
  }

  -- what waited still does
  pub fed_waits : (bytes next : List ℕ) (old new : Intake) (pass after : PassModel) → (fed : HasFed setting bytes next old pass) → IsPending setting fed.items fed.waiting new after
      → IsBeside old new → new.progress.place ≤ keep old.splitter → HasFed setting bytes next new after
  fed_waits bytes next old new pass after fed waits beside place = record {
    pieces = fed.pieces;
    waiting = fed.waiting;
    items = fed.items;
    taken = taken_beside bytes next (fed.pieces ++ fed.waiting) old new beside place fed.taken;
    read = fed.read;
    pending = waits;
    unbroken = beside.broken ∙ fed.unbroken;
  }

  -- where nothing waits, all elements are fed
  pub none_waiting : (bytes next : List ℕ) (intake : Intake) (pass : PassModel) → intake.pending ≡ Nothing → (fed : HasFed setting bytes next intake pass)
      → (fed.waiting ≡ []) × IsAt setting.plan setting.start fed.items intake.progress pass
  none_waiting bytes next intake pass is fed = subst (λ (p : Pending). IsPendingAs p setting fed.items fed.waiting intake pass) is fed.pending

  pub all_fed : (bytes next : List ℕ) (intake : Intake) (pass : PassModel) → intake.pending ≡ Nothing → (fed : HasFed setting bytes next intake pass) → HasTaken bytes next fed.pieces intake
  all_fed bytes next intake pass is fed =
      subst (λ (ps : List ElementModel). HasTaken bytes next ps intake) (append-nil fed.pieces)
      (subst (λ (ws : List ElementModel). HasTaken bytes next (fed.pieces ++ ws) intake) (none_waiting bytes next intake pass is fed).0 fed.taken)

  -- more was taken, and no element ended
  pub fed_all : (bytes next bytes' next' : List ℕ) (old new : Intake) (pass : PassModel) → old.pending ≡ Nothing → new.pending ≡ Nothing → new.progress ≡ old.progress
      → (fed : HasFed setting bytes next old pass) → HasTaken bytes' next' fed.pieces new → HasFed setting bytes' next' new pass
  fed_all bytes next bytes' next' old new pass was is same fed taken = record {
    pieces = fed.pieces;
    waiting = [];
    items = fed.items;
    taken = subst (λ (ps : List ElementModel). HasTaken bytes' next' ps new) (sym (append-nil fed.pieces)) taken;
    read = fed.read;
    pending = subst (λ (p : Pending). IsPendingAs p setting fed.items [] new pass) (sym is)
        (refl, subst (λ (p : Progress). IsAt setting.plan setting.start fed.items p pass) (sym same) (none_waiting bytes next old pass was fed).1);
    unbroken = ap (λ (p : Progress). p.log.broken) same ∙ fed.unbroken;
  }

  -- one element more ended, and waits
  pub fed_one : (bytes next bytes' next' : List ℕ) (old new : Intake) (pass : PassModel) (last : ElementModel) → old.pending ≡ Nothing → new.progress.log.broken ≡ old.progress.log.broken
      → (fed : HasFed setting bytes next old pass) → HasTaken bytes' next' (fed.pieces ++ last ∷ []) new
      → (IsAt setting.plan setting.start fed.items old.progress pass → IsPending setting fed.items (last ∷ []) new pass) → HasFed setting bytes' next' new pass
  fed_one bytes next bytes' next' old new pass last was broken fed taken waits = record {
    pieces = fed.pieces;
    waiting = last ∷ [];
    items = fed.items;
    taken = taken;
    read = fed.read;
    pending = waits (none_waiting bytes next old pass was fed).1;
    unbroken = broken ∙ fed.unbroken;
  }

  -- the trace broke
  pub broke_at : (bytes next : List ℕ) (fault : EdnFault) (broken : Broken) (old new : Intake) (pass : PassModel) → old.pending ≡ Nothing
      → ((pieces : List ElementModel) → StandsAfter bytes next pieces old.splitter → KeepsFault bytes next pieces fault new.splitter)
      → broken_by fault ≡ Some broken → new.progress.log.lines ≡ old.progress.log.lines → new.progress.log.broken ≡ Some broken
      → HasFed setting bytes next old pass → HasBroken setting (bytes ++ next) new pass
  broke_at bytes next fault broken old new pass was faulty is lines set fed = λ trace more same.
      let taken = all_fed bytes next old pass was fed in
      let met = (faulty fed.pieces taken.present).1 trace more (same ∙ append_assoc bytes next more) in
      record {
        items = fed.items;
        are = record {
          pieces = fed.pieces;
          elements = subst (λ (b : Option Broken). AreElements trace b fed.pieces) (sym set) (inl (fault, met.0, met.1, is));
          read = fed.read;
        };
        done = subst (λ l. HasDone setting.plan setting.start pass l.items (steps_of setting.start.feeder fed.items)) (sym lines) (none_waiting bytes next old pass was fed).1.done;
      }

  -- more bytes that come next may be named
  pub fed_more : (bytes next rest : List ℕ) (intake : Intake) (pass : PassModel) → HasFed setting bytes next intake pass → HasFed setting bytes (next ++ rest) intake pass
  fed_more bytes next rest intake pass fed = record {
    pieces = fed.pieces;
    waiting = fed.waiting;
    items = fed.items;
    taken = taken_more bytes next rest (fed.pieces ++ fed.waiting) intake fed.taken;
    read = fed.read;
    pending = fed.pending;
    unbroken = fed.unbroken;
  }

  pub fed_along : (bytes bytes' next next' : List ℕ) (intake : Intake) (pass : PassModel) → bytes ≡ bytes' → next ≡ next' → HasFed setting bytes next intake pass → HasFed setting bytes' next' intake pass
  fed_along bytes bytes' next next' intake pass same rest fed =
      subst (λ (xs : List ℕ). HasFed setting xs next' intake pass) same (subst (λ (xs : List ℕ). HasFed setting bytes xs intake pass) rest fed)

  -- a chunk is fed up to the place `at`, and `used` more bytes of it
  pub fed_rest : (bytes piece : List ℕ) (at used : ℕ) (intake : Intake) (pass : PassModel)
      → HasFed setting ((bytes ++ take at piece) ++ take used (drop at piece)) (drop used (drop at piece) ++ []) intake pass
      → HasFed setting (bytes ++ take (at + used) piece) (drop (at + used) piece) intake pass
  fed_rest bytes piece at used intake pass =
      fed_along ((bytes ++ take at piece) ++ take used (drop at piece)) (bytes ++ take (at + used) piece) (drop used (drop at piece) ++ []) (drop (at + used) piece) intake pass
      (append_assoc bytes (take at piece) (take used (drop at piece)) ∙ ap (λ (xs : List ℕ). bytes ++ xs) (sym (take-add at used piece)))
      (append-nil (drop used (drop at piece)) ∙ drop_twice used at piece)

  pub broke_in : (bytes piece : List ℕ) (at : ℕ) (intake : Intake) (pass : PassModel) → HasBroken setting ((bytes ++ take at piece) ++ (drop at piece ++ [])) intake pass
      → HasBroken setting (bytes ++ piece) intake pass
  broke_in bytes piece at intake pass broken =
      subst (λ (xs : List ℕ). HasBroken setting xs intake pass)
      (append_assoc bytes (take at piece) (drop at piece ++ [])
      ∙ ap (λ (xs : List ℕ). bytes ++ xs) (ap (λ (xs : List ℕ). take at piece ++ xs) (append-nil (drop at piece)) ∙ take-append-drop at piece)) broken
