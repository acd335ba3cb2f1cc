-- A chunk is taken up to the end of the next element, or else to its own end.
use Rattle.std.proofs.Common.{◌≡◌, ◌⊎◌, inl, inr, ℕ, ◌+◌, ◌-◌, ◌≤◌, ◌<◌, ◌^◌, List, [], ◌∷◌, ◌++◌, length, take, drop, Option, Some, None, Result, Ok, Err, refl, sym, ap, subst, ◌∙◌, arith, length-drop, length-append, vec_len}
use Rattle.std.specs.Prelude.{MatchOption}
use Rattle.std.proofs.lemmas.List.{length-take-le}
use Rattle.edn_reader.specs.Grammar.{ElementModel}
use Rattle.edn_reader.specs.declared.fault.EdnFault.{EdnFault}
use Rattle.edn_reader.specs.declared.splitter.Taken.{Taken}
use Rattle.edn_reader.specs.Splitting.{IsLast, KeepsFault, SplitterModel, StandsAfter, TakesUpTo, WantsMemory, keep, TakesOn as SplitsOn}
use Rattle.jepsen_form.specs.declared.gist.RefusedForm.{RefusedForm}
use Rattle.jepsen_form.specs.declared.item.Item.{Item}
use Rattle.shards.specs.Pass.{PassModel}
use Rattle.feeders.specs.declared.intake.Intake.{Intake}
use Rattle.feeders.specs.declared.tail_buffer.TailBuffer.{TailBuffer}
use Rattle.feeders.specs.declared.pending.Pending.{Pending}
use Rattle.feeders.specs.declared.pending.Pending.TheVariants.{Nothing, Whole, Lent, Paired}
use Rattle.feeders.specs.declared.progress.Progress.{Progress}
use Rattle.logs.specs.declared.log.Broken.{Broken}
use Rattle.logs.specs.Broken.{broken_by}
use Rattle.feeders.specs.Intake.{CanGoOn, HasFed, HasTaken, HasUsed}
use Rattle.feeders.specs.TailBuffer.{AreLastBytes}
use Rattle.feeders.specs.Pending.{CanReadBehind, CanSettle, CanSettleAs, IsBeside, IsPending, count_of, IsTight, IsTightAs}
use Rattle.feeders.specs.Progress.{IsAhead, IsAt}
use Rattle.feeders.specs.Setting.{Setting}
use Rattle.feeders.proofs.Holding.{drop_twice, with_piece}
use Rattle.feeders.proofs.Pieces.{AllElements, all_fed, all_held, all_present, can_beside, can_lend, counted_on, fed_all, fed_one, goes_on, holds_none, holds_same, known_more, none_holds, taken_is, told_text, took, unwanted, wanted, none_kept}
use Rattle.feeders.proofs.Settling.{holds_any}

-- the first `used` bytes of a chunk were taken, and no element ended in them
pub record TookNone (piece : List ℕ) (used : ℕ) (old new : Intake) : Type 0 where
  pub within : used ≤ length piece
  pub taken : new.splitter.taken ≡ old.splitter.taken + used
  pub present : (bytes next : List ℕ) (pieces : List ElementModel) → StandsAfter bytes (piece ++ next) pieces old.splitter
      → StandsAfter (bytes ++ take used piece) (drop used piece ++ next) pieces new.splitter × (keep old.splitter ≤ keep new.splitter)
  pub holds : (taken : List ℕ) → AreLastBytes taken old.kept → AreLastBytes (taken ++ take used piece) new.kept
  pub low : old.kept.from ≤ keep new.splitter → new.kept.from ≤ keep new.splitter
  pub tight : keep new.splitter ≡ new.splitter.taken → new.kept.bytes.items ≡ []
  pub progress : new.progress ≡ old.progress
  pub pending : new.pending ≡ Nothing
  pub fits : new.splitter.taken < 2 ^ 64

-- the bytes before the first that an element may still need are let go, where that is not before the end of what was kept
abbrev pub LetsGo : ℕ → ℕ → TailBuffer → TailBuffer → Type 0
LetsGo first used old new = old.from + length old.bytes.items ≤ first → first ≤ old.from + length old.bytes.items + used → new.from ≡ first

pub let_go : (old roomed new : TailBuffer) (first used : ℕ) (piece : List ℕ) {kept : ℕ} → first ≡ kept → roomed.from ≡ old.from → roomed.bytes.items ≡ old.bytes.items → length piece ≡ used
    → (roomed.from + vec_len roomed.bytes ≤ first → first ≤ roomed.from + vec_len roomed.bytes + length piece → new.from ≡ first) → LetsGo kept used old new
let_go old roomed new first used piece is from items long lets low high =
    let many = ap length items in
    let counted : vec_len roomed.bytes ≡ length roomed.bytes.items = roomed.bytes.ok.0 in
    lets (omega (arith, is, from, many, counted, low)) (omega (arith, is, from, many, counted, long, high)) ∙ is

-- where no element is open after the bytes that were taken, none is kept
nothing_open : (bytes : List ℕ) (used : ℕ) (old new : Intake) → LetsGo (keep new.splitter) used old.kept new.kept → old.kept.from + length old.kept.bytes.items ≡ old.splitter.taken
    → new.splitter.taken ≡ old.splitter.taken + used → new.splitter.taken ≡ length bytes → AreLastBytes bytes new.kept → keep new.splitter ≡ new.splitter.taken → new.kept.bytes.items ≡ []
nothing_open bytes used old new lets end taken long holds between =
    none_kept bytes new.kept (lets (omega (arith, end, taken, between)) (omega (arith, end, taken, between)) ∙ between ∙ long) holds

-- the whole chunk was taken, and no element ended
pub takes_all : (piece : List ℕ) (used : ℕ) (old new : Intake) → (used ≤ length piece) × (new.splitter.taken ≡ old.splitter.taken + used)
    → ((bytes next : List ℕ) (pieces : List ElementModel) → StandsAfter bytes (piece ++ next) pieces old.splitter → TakesUpTo bytes piece next pieces old.splitter used None new.splitter)
    → (CanGoOn piece old) → ((taken : List ℕ) → AreLastBytes taken old.kept → AreLastBytes (taken ++ piece) new.kept) → (old.kept.from ≤ keep new.splitter → new.kept.from ≤ keep new.splitter)
    → LetsGo (keep new.splitter) (length piece) old.kept new.kept → old.pending ≡ Nothing → new.progress ≡ old.progress → new.pending ≡ Nothing → old.splitter.taken + length piece < 2 ^ 64 → TookNone piece used old new
takes_all piece used old new counted takes can holds low lets none progress pending fits =
    let all : used ≡ length piece = (takes can.bytes [] can.pieces (known_more can.bytes piece [] can.pieces old.splitter can.present)).0 in
    let held = holds_none old.pending can.bytes old.kept none can.holds in
    let long : old.splitter.taken ≡ length can.bytes = taken_is can.bytes piece can.pieces old.splitter can.present in
    record {
      within = counted.0;
      taken = counted.1;
      present = λ bytes next pieces present. let goes = takes bytes next pieces present in (all_present bytes piece next pieces used new.splitter goes.0 goes.1, goes.2);
      holds = λ taken held. all_held taken piece used new.kept all (holds taken held);
      low = low;
      tight = nothing_open (can.bytes ++ piece) (length piece) old new lets (held.long ∙ sym long) (omega (arith, counted.1, all)) (omega (arith, counted.1, all, long, length-append can.bytes piece)) (holds can.bytes held);
      progress = progress;
      pending = pending;
      fits = omega (arith, fits, counted.0, counted.1);
    }

-- the bytes before one at which memory was refused were taken
pub takes_some : (piece : List ℕ) (used place : ℕ) (old new : Intake)
    → ((bytes next : List ℕ) (pieces : List ElementModel) → StandsAfter bytes (piece ++ next) pieces old.splitter → (keep old.splitter ≤ keep new.splitter) × WantsMemory bytes piece next pieces place new.splitter)
    → (CanGoOn piece old) → used ≡ new.splitter.taken - old.splitter.taken → ((taken : List ℕ) → AreLastBytes taken old.kept → AreLastBytes (taken ++ take used piece) new.kept)
    → (old.kept.from ≤ keep new.splitter → new.kept.from ≤ keep new.splitter) → LetsGo (keep new.splitter) used old.kept new.kept → old.pending ≡ Nothing → new.progress ≡ old.progress → new.pending ≡ Nothing
    → old.splitter.taken + length piece < 2 ^ 64 → TookNone piece used old new
takes_some piece used place old new takes can is holds low lets none progress pending fits =
    let more = known_more can.bytes piece [] can.pieces old.splitter can.present in
    let goes = (takes can.bytes [] can.pieces more).1 in
    let long : old.splitter.taken ≡ length can.bytes = taken_is can.bytes piece can.pieces old.splitter can.present in
    let held = holds_none old.pending can.bytes old.kept none can.holds in
    let within : used ≤ length piece = omega (arith, is, goes.0, goes.1, goes.2, long) in
    let taken : new.splitter.taken ≡ old.splitter.taken + used = omega (arith, is, goes.0, goes.2, long) in
    record {
      within = within;
      taken = taken;
      present = λ bytes next pieces present.
          let wants = takes bytes next pieces present in
          let many : old.splitter.taken ≡ length bytes = taken_is bytes (piece ++ next) pieces old.splitter present in
          (subst (λ (n : ℕ). StandsAfter (bytes ++ take n piece) (drop n piece ++ next) pieces new.splitter) (omega (arith, is, wants.1.2, many)) wants.1.3, wants.0);
      holds = holds;
      low = low;
      tight = nothing_open (can.bytes ++ take used piece) used old new lets (held.long ∙ sym long) taken (omega (arith, taken, long, length-append can.bytes (take used piece), length-take-le used piece within)) (holds can.bytes held);
      progress = progress;
      pending = pending;
      fits = omega (arith, fits, goes.1, goes.2, long);
    }

pub used_on : (piece : List ℕ) (used : ℕ) (old new : Intake) → TookNone piece used old new → old.pending ≡ Nothing → CanGoOn piece old → HasUsed piece old used new
used_on piece used old new on none can =
    let more = known_more can.bytes piece [] can.pieces old.splitter can.present in
    let goes = on.present can.bytes [] can.pieces more in
    let place : new.progress.place ≡ old.progress.place = ap (λ (p : Progress). p.place) on.progress in
    record {
      within = on.within;
      taken = on.taken;
      can = goes_on (can.bytes ++ take used piece) (drop used piece) can.pieces new goes.0
          (none_holds new.pending (can.bytes ++ take used piece) new.kept on.pending (on.holds can.bytes (holds_none old.pending can.bytes old.kept none can.holds)))
          (on.low (omega (arith, can.low, goes.1))) (omega (arith, place, can.place, goes.1)) (omega (arith, place, can.counted, on.taken)) on.fits
          (subst (λ (p : Pending). IsTightAs p new) (sym on.pending) on.tight)
          (record { by = subst (λ (p : Pending). CanSettleAs p new) (sym on.pending) (subst IsAhead (sym on.progress) (subst (λ (p : Pending). CanSettleAs p old) none can.settle.by)) });
    }

pub fed_on : (setting : Setting) (piece : List ℕ) (used : ℕ) (old new : Intake) (pass : PassModel) (bytes next : List ℕ) → TookNone piece used old new → old.pending ≡ Nothing
    → HasFed setting bytes (piece ++ next) old pass → HasFed setting (bytes ++ take used piece) (drop used piece ++ next) new pass
fed_on setting piece used old new pass bytes next on none fed =
    let taken = all_fed setting bytes (piece ++ next) old pass none fed in
    let goes = on.present bytes next fed.pieces taken.present in
    fed_all setting bytes (piece ++ next) (bytes ++ take used piece) (drop used piece ++ next) old new pass none on.pending on.progress fed
    (took bytes piece next fed.pieces used new goes.0 (on.holds bytes taken.holds) (on.low (omega (arith, taken.low, goes.1)))
    (omega (arith, ap (λ (p : Progress). p.place) on.progress, taken.place, goes.1)))

-- memory was refused in a chunk
pub wants_memory : (fault : EdnFault) (old new : SplitterModel) (piece : List ℕ) → broken_by fault ≡ None → SplitsOn piece old (Err fault) new
    → (place : ℕ) × ((bytes next : List ℕ) (pieces : List ElementModel) → StandsAfter bytes (piece ++ next) pieces old → (keep old ≤ keep new) × WantsMemory bytes piece next pieces place new)
wants_memory fault old new piece none takes =
    let at = wanted fault none in (
      at.0,
      λ bytes next pieces present.
          let goes = takes bytes next pieces present in
          (goes.0, subst (λ (w : Option ℕ). MatchOption w (KeepsFault bytes (piece ++ next) pieces fault new) (λ place. WantsMemory bytes piece next pieces place new)) at.1 goes.1),
    )

-- how many bytes of a chunk were taken before memory was refused
pub taken_before : (fault : EdnFault) (old : Intake) (new : SplitterModel) (piece : List ℕ) → broken_by fault ≡ None → SplitsOn piece old.splitter (Err fault) new → CanGoOn piece old
    → (old.splitter.taken ≤ new.taken) × (new.taken ≤ old.splitter.taken + length piece)
taken_before fault old new piece none takes can =
    let goes = ((wants_memory fault old.splitter new piece none takes).1 can.bytes [] can.pieces (known_more can.bytes piece [] can.pieces old.splitter can.present)).1 in
    let long = taken_is can.bytes piece can.pieces old.splitter can.present in (omega (arith, goes.0, goes.2, long), omega (arith, goes.1, goes.2, long))

-- the bytes that are kept between two elements end where the splitter is
pub kept_is : (old : Intake) (piece : List ℕ) → old.pending ≡ Nothing → CanGoOn piece old → old.kept.from + length old.kept.bytes.items ≡ old.splitter.taken
kept_is old piece none can = (holds_none old.pending can.bytes old.kept none can.holds).long ∙ sym (taken_is can.bytes piece can.pieces old.splitter can.present)

-- the text has a fault in a chunk
pub keeps_fault : (fault : EdnFault) (broken : Broken) (old new : SplitterModel) (piece : List ℕ) → broken_by fault ≡ Some broken → SplitsOn piece old (Err fault) new
    → (bytes next : List ℕ) (pieces : List ElementModel) → StandsAfter bytes (piece ++ next) pieces old → KeepsFault bytes (piece ++ next) pieces fault new
keeps_fault fault broken old new piece is takes bytes next pieces present =
    subst (λ (w : Option ℕ). MatchOption w (KeepsFault bytes (piece ++ next) pieces fault new) (λ place. WantsMemory bytes piece next pieces place new)) (unwanted fault broken is) (takes bytes next pieces present).1

-- the buffer has another capacity
pub fed_roomed : (setting : Setting) (bytes next : List ℕ) (old new : Intake) (pass : PassModel) → old.pending ≡ Nothing → new.pending ≡ old.pending → new.progress ≡ old.progress → new.splitter ≡ old.splitter
    → new.kept.from ≡ old.kept.from → new.kept.bytes.items ≡ old.kept.bytes.items → HasFed setting bytes next old pass → HasFed setting bytes next new pass
fed_roomed setting bytes next old new pass none pending progress splitter from items fed =
    let taken = all_fed setting bytes next old pass none fed in
    fed_all setting bytes next bytes next old new pass none (pending ∙ none) progress fed
    (record {
      present = subst (StandsAfter bytes next fed.pieces) (sym splitter) taken.present;
      holds = holds_same bytes old.kept new.kept from items taken.holds;
      low = omega (arith, from, taken.low, ap keep splitter);
      place = omega (arith, ap (λ (p : Progress). p.place) progress, taken.place, ap keep splitter);
    })

-- an element ended with the first `used` bytes of a chunk
abbrev pub EndsOne : List ℕ → ℕ → ℕ × ℕ → Intake → Intake → Type 0
EndsOne piece used span old mid =
    (bytes next : List ℕ) (pieces : List ElementModel) → StandsAfter bytes (piece ++ next) pieces old.splitter → TakesUpTo bytes piece next pieces old.splitter used (Some span) mid.splitter

pub ends_so : (piece : List ℕ) (taken : Taken) (span : ℕ × ℕ) (old mid : Intake) → taken.whole ≡ Some span → SplitsOn piece old.splitter (Ok taken) mid.splitter → EndsOne piece taken.used span old mid
ends_so piece taken span old mid is takes bytes next pieces present =
    subst (λ (w : Option (ℕ × ℕ)). TakesUpTo bytes piece next pieces old.splitter taken.used w mid.splitter) is (takes bytes next pieces present)

front_is : (bytes piece : List ℕ) (used start : ℕ) (kept : TailBuffer) → AreLastBytes bytes kept → kept.from ≤ start
    → drop (start - kept.from) (kept.bytes.items ++ take used piece) ≡ drop start (bytes ++ take used piece)
front_is bytes piece used start kept holds low = with_piece bytes (take used piece) kept.bytes.items kept.from start (omega (arith, holds.long)) low holds.last

-- the element that ended can be read
pub can_read_after : (piece : List ℕ) (used : ℕ) (span : ℕ × ℕ) (old mid : Intake) → EndsOne piece used span old mid → AllElements → (used ≤ length piece) × (mid.splitter.taken ≡ old.splitter.taken + used)
    → mid.kept.from ≡ old.kept.from → mid.kept.bytes.items ≡ old.kept.bytes.items → mid.progress ≡ old.progress → old.pending ≡ Nothing → CanGoOn piece old → old.splitter.taken + length piece < 2 ^ 64
    → CanReadBehind span.0 (take used piece) mid
can_read_after piece used span old mid takes elements counted from items progress none can fits =
    let more = known_more can.bytes piece [] can.pieces old.splitter can.present in
    let goes = takes can.bytes [] can.pieces more in
    let long : old.splitter.taken ≡ length can.bytes = taken_is can.bytes piece can.pieces old.splitter can.present in
    let holds : AreLastBytes can.bytes mid.kept = holds_same can.bytes old.kept mid.kept from items (holds_none old.pending can.bytes old.kept none can.holds) in
    let many : length (take used piece) ≡ used = length-take-le used piece counted.0 in
    let low : mid.kept.from ≤ span.0 = omega (arith, from, can.low, goes.2) in
    let place : mid.progress.place ≡ old.progress.place = ap (λ (p : Progress). p.place) progress in
    let lends = can_lend can.bytes piece [] (drop span.0 (can.bytes ++ take used piece)) can.pieces used span old.splitter mid.splitter goes elements refl in
    record {
      low = low;
      high = omega (arith, holds.long, many, goes.1, goes.4.1.1);
      element = (lends.0, lends.1, lends.2, lends.3 ∙ sym (front_is can.bytes piece used span.0 mid.kept holds low));
      starts = sym goes.4.4.1 ∙ goes.4.1.0;
      ends = omega (arith, counted.1, long, holds.long, many);
      keep_is = omega (arith, goes.3, goes.1, counted.1, long);
      counted = omega (arith, place, can.place, goes.2, goes.4.1.1, goes.1, counted.1, long);
      fits = omega (arith, fits, counted.0, counted.1);
    }

-- the prefix with which an element ended was taken, and the element waits
pub record IsTaken (piece : List ℕ) (used : ℕ) (old mid new : Intake) : Type 0 where
  pub can : CanSettle new
  pub holds : (taken : List ℕ) → AreLastBytes taken mid.kept → AreLastBytes (taken ++ take used piece) new.kept
  pub low : new.kept.from ≤ mid.splitter.taken
  pub tight : IsTight new
  pub splitter : new.splitter ≡ mid.splitter
  pub broken : new.progress.log.broken ≡ mid.progress.log.broken
  pub place : new.progress.place ≡ mid.progress.place
  pub from : mid.kept.from ≡ old.kept.from
  pub items : mid.kept.bytes.items ≡ old.kept.bytes.items
  pub progress : mid.progress ≡ old.progress
  pub counted : (used ≤ length piece) × (mid.splitter.taken ≡ old.splitter.taken + used)
  pub fits : mid.splitter.taken < 2 ^ 64

taken_one : (piece : List ℕ) (used : ℕ) (span : ℕ × ℕ) (old mid new : Intake) (bytes next : List ℕ) (pieces : List ElementModel) → IsTaken piece used old mid new
    → (takes : TakesUpTo bytes piece next pieces old.splitter used (Some span) mid.splitter) → AreLastBytes bytes old.kept → old.splitter.taken ≡ length bytes → old.progress.place ≤ keep old.splitter
    → HasTaken (bytes ++ take used piece) (drop used piece ++ next) (pieces ++ takes.4.0 ∷ []) new
taken_one piece used span old mid new bytes next pieces is takes holds long placed =
    let kept : keep new.splitter ≡ keep mid.splitter = ap keep is.splitter in
    let place : mid.progress.place ≡ old.progress.place = ap (λ (p : Progress). p.place) is.progress in
    record {
      present = subst (StandsAfter (bytes ++ take used piece) (drop used piece ++ next) (pieces ++ takes.4.0 ∷ [])) (sym is.splitter) takes.4.2;
      holds = is.holds bytes (holds_same bytes old.kept mid.kept is.from is.items holds);
      low = omega (arith, is.low, kept, takes.3, takes.1, is.counted.1, long);
      place = omega (arith, is.place, place, placed, takes.2, takes.4.1.1, takes.3, kept);
    }

pub used_one : (piece : List ℕ) (used : ℕ) (span : ℕ × ℕ) (old mid new : Intake) → IsTaken piece used old mid new → EndsOne piece used span old mid → old.pending ≡ Nothing → CanGoOn piece old → HasUsed piece old used new
used_one piece used span old mid new is takes none can =
    let more = known_more can.bytes piece [] can.pieces old.splitter can.present in
    let goes = takes can.bytes [] can.pieces more in
    let long : old.splitter.taken ≡ length can.bytes = taken_is can.bytes piece can.pieces old.splitter can.present in
    let taken = taken_one piece used span old mid new can.bytes [] can.pieces is goes (holds_none old.pending can.bytes old.kept none can.holds) long can.place in
    let same : new.splitter.taken ≡ mid.splitter.taken = ap (λ (s : SplitterModel). s.taken) is.splitter in
    let place : mid.progress.place ≡ old.progress.place = ap (λ (p : Progress). p.place) is.progress in
    record {
      within = is.counted.0;
      taken = same ∙ is.counted.1;
      can = goes_on (can.bytes ++ take used piece) (drop used piece) (can.pieces ++ goes.4.0 ∷ []) new taken.present (holds_any new.pending (can.bytes ++ take used piece) new.kept taken.holds) taken.low taken.place
          (omega (arith, is.place, place, can.counted, same, is.counted.1)) (omega (arith, same, is.fits)) is.tight is.can;
    }

pub fed_taken : (setting : Setting) (piece : List ℕ) (used : ℕ) (span : ℕ × ℕ) (old mid new : Intake) (pass : PassModel) (bytes next : List ℕ) → IsTaken piece used old mid new → EndsOne piece used span old mid
    → AllElements → old.pending ≡ Nothing
    → ((items : List (Result Item RefusedForm)) (last : ElementModel) → IsLast mid.splitter last → last.text ≡ drop (span.0 - mid.kept.from) (mid.kept.bytes.items ++ take used piece)
    → IsAt setting.plan setting.start items mid.progress pass → IsPending setting items (last ∷ []) new pass)
    → HasFed setting bytes (piece ++ next) old pass → HasFed setting (bytes ++ take used piece) (drop used piece ++ next) new pass
fed_taken setting piece used span old mid new pass bytes next is takes elements none waits fed =
    let taken = all_fed setting bytes (piece ++ next) old pass none fed in
    let goes = takes bytes next fed.pieces taken.present in
    let long : old.splitter.taken ≡ length bytes = taken_is bytes (piece ++ next) fed.pieces old.splitter taken.present in
    let last = goes.4.0 in
    let holds : AreLastBytes bytes mid.kept = holds_same bytes old.kept mid.kept is.from is.items taken.holds in
    let text = told_text bytes piece next (drop span.0 (bytes ++ take used piece)) fed.pieces used span old.splitter mid.splitter goes refl in
    fed_one setting bytes (piece ++ next) (bytes ++ take used piece) (drop used piece ++ next) old new pass last none
    (is.broken ∙ ap (λ (p : Progress). p.log.broken) is.progress) fed
    (taken_one piece used span old mid new bytes next fed.pieces is goes taken.holds long taken.place)
    (λ at. waits fed.items last goes.4.4 (text ∙ sym (front_is bytes piece used span.0 mid.kept holds (omega (arith, is.from, taken.low, goes.2))))
    (subst (λ (p : Progress). IsAt setting.plan setting.start fed.items p pass) (sym is.progress) at))

-- `used` bytes were taken, and then what waits went on
pub used_beside : (piece : List ℕ) (used : ℕ) (old mid new : Intake) → HasUsed piece old used mid → IsBeside mid new → CanSettle new → new.progress.place ≤ keep mid.splitter → new.progress.place ≤ mid.splitter.taken
    → HasUsed piece old used new
used_beside piece used old mid new first beside settle place counted = record {
  within = first.within;
  taken = ap (λ (s : SplitterModel). s.taken) beside.splitter ∙ first.taken;
  can = can_beside (drop used piece) mid new beside place counted settle first.can;
}

pub settled_place : (intake : Intake) (place : ℕ) (next : List ℕ) → CanGoOn next intake → place ≡ intake.progress.place + count_of intake.pending → (place ≤ keep intake.splitter) × (place ≤ intake.splitter.taken)
settled_place intake place next can is = counted_on intake place can.settle can.place can.counted is

-- of a chunk whose first `at` bytes were used, `used` more were used
pub used_rest : (piece : List ℕ) (at used : ℕ) (first old new : Intake) → at ≤ length piece → old.splitter.taken ≡ first.splitter.taken + at → HasUsed (drop at piece) old used new → HasUsed piece first (at + used) new
used_rest piece at used first old new within taken is = record {
  within = omega (arith, within, is.within, length-drop at piece);
  taken = omega (arith, is.taken, taken);
  can = subst (λ (next : List ℕ). CanGoOn next new) (drop_twice used at piece) is.can;
}

-- no byte was used, and what waits still does
pub used_still : (piece : List ℕ) (old new : Intake) → IsBeside old new → CanSettle new → new.progress.place ≡ old.progress.place → CanGoOn piece old → HasUsed piece old 0 new
used_still piece old new beside settle place can = record {
  within = omega arith;
  taken = omega (arith, ap (λ (s : SplitterModel). s.taken) beside.splitter);
  can = can_beside piece old new beside (omega (arith, place, can.place)) (omega (arith, place, can.counted)) settle can;
}

-- an element waits, or none does
pub waits_or_not : (pending : Pending) → (pending ≡ Nothing) ⊎ (count_of pending ≡ 1)
waits_or_not Nothing = inl refl
waits_or_not (Whole start) = inr refl
waits_or_not (Lent item) = inr refl
waits_or_not (Paired step) = inr refl

-- so many bytes of a chunk were taken, up to the end of an element, which waits, or all of them
abbrev pub HasHeld : List ℕ → Intake → Intake → ℕ → Type 0
HasHeld piece old new used = HasUsed piece old used new × (new.pending ≡ Nothing → used ≡ length piece) × (new.progress.place ≡ old.progress.place)
