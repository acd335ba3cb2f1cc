-- The end of a trace that comes in chunks: what of it is fed, and which element waits.
use Rattle.std.proofs.Common.{◌≡◌, inl, ℕ, ◌-◌, ◌≤◌, List, [], ◌∷◌, ◌++◌, length, drop, Option, Some, None, Ok, Err, false, refl, sym, ap, subst, ◌∙◌, arith, append-nil}
use Rattle.std.specs.Prelude.{MatchOption}
use Rattle.edn_reader.specs.declared.fault.EdnFault.{EdnFault}
use Rattle.edn_reader.specs.Grammar.{ElementModel}
use Rattle.edn_reader.specs.Text.{IsText}
use Rattle.edn_reader.specs.Fault.{AreElementsBefore, CanWantMemory, FaultOf}
use Rattle.edn_reader.specs.Splitting.{EndsOn, SplitterModel, StandsAfter, IsAfter as IsSplitUpTo}
use Rattle.shards.specs.Pass.{PassModel}
use Rattle.feeders.specs.declared.intake.Intake.{Intake}
use Rattle.feeders.specs.declared.tail_buffer.TailBuffer.{TailBuffer}
use Rattle.logs.specs.declared.log.Broken.{Broken}
use Rattle.feeders.specs.declared.pending.Pending.{Pending}
use Rattle.feeders.specs.declared.pending.Pending.TheVariants.{Nothing, Whole}
use Rattle.feeders.specs.declared.progress.Progress.{Progress}
use Rattle.logs.specs.Broken.{AreElements, broken_by}
use Rattle.feeders.specs.Intake.{CanGoOn, HasFed, IsAtEnd}
use Rattle.feeders.specs.Pending.{CanSettle, CanSettleAs, IsPendingAs}
use Rattle.feeders.specs.Progress.{IsAhead, IsAt}
use Rattle.feeders.specs.Readers.{broke_reading}
use Rattle.feeders.specs.Setting.{Setting}
use Rattle.feeders.proofs.Feeds.{broken_by_text}
use Rattle.feeders.proofs.Holding.{from_kept}
use Rattle.feeders.proofs.Pieces.{AllElements, ahead_none, all_fed, can_lend_last, holds_none, last_text, none_waiting, unwanted, wanted}

up_to_end : (bytes : List ℕ) (pieces : List ElementModel) (splitting : SplitterModel) → StandsAfter bytes [] pieces splitting → IsSplitUpTo bytes bytes pieces splitting
up_to_end bytes pieces splitting present = present bytes [] (sym (append-nil bytes))

unbroken_text : (broken : Option Broken) → broken ≡ None → broke_reading broken ≡ false
unbroken_text broken is = rw is refl

-- no element ends with the trace
pub ends_none : (setting : Setting) (bytes : List ℕ) (mid new : Intake) (pass : PassModel) → mid.pending ≡ Nothing → new.pending ≡ mid.pending → new.progress ≡ mid.progress
    → EndsOn mid.splitter (Ok None) new.splitter → HasFed setting bytes [] mid pass → IsAtEnd setting bytes new pass
ends_none setting bytes mid new pass none pending progress ends fed =
    let taken = all_fed setting bytes [] mid pass none fed in
    let broken : new.progress.log.broken ≡ None = ap (λ (p : Progress). p.log.broken) progress ∙ fed.unbroken in
    record {
      pieces = fed.pieces;
      waiting = [];
      items = fed.items;
      elements = subst (λ (b : Option Broken). AreElements bytes b (fed.pieces ++ [])) (sym broken)
          (subst (IsText bytes) (sym (append-nil fed.pieces)) (ends bytes fed.pieces (up_to_end bytes fed.pieces mid.splitter taken.present)).0);
      read = fed.read;
      pending = subst (λ (p : Pending). IsPendingAs p setting fed.items [] new pass) (sym (pending ∙ none))
          (refl, subst (λ (p : Progress). IsAt setting.plan setting.start fed.items p pass) (sym progress) (none_waiting setting bytes [] mid pass none fed).1);
      by_text = unbroken_text new.progress.log.broken broken;
    }

-- the last element ends with the trace, and waits
pub ends_one : (setting : Setting) (bytes : List ℕ) (span : ℕ × ℕ) (mid new : Intake) (pass : PassModel) → mid.pending ≡ Nothing → new.pending ≡ Whole span.0 → new.progress ≡ mid.progress → new.kept ≡ mid.kept
    → EndsOn mid.splitter (Ok (Some span)) new.splitter → HasFed setting bytes [] mid pass → IsAtEnd setting bytes new pass
ends_one setting bytes span mid new pass none pending progress kept ends fed =
    let taken = all_fed setting bytes [] mid pass none fed in
    let goes = ends bytes fed.pieces (up_to_end bytes fed.pieces mid.splitter taken.present) in
    let last = goes.3.0 in
    let broken : new.progress.log.broken ≡ None = ap (λ (p : Progress). p.log.broken) progress ∙ fed.unbroken in
    let text : last.text ≡ drop span.0 bytes = last_text bytes (drop span.0 bytes) span.0 span.1 last goes.0 goes.3.1 (ap (drop span.0) (sym (append-nil bytes))) in
    let held : drop (span.0 - mid.kept.from) mid.kept.bytes.items ≡ drop span.0 bytes = from_kept bytes mid.kept span.0 (omega (arith, taken.low, goes.1)) taken.holds in
    record {
      pieces = fed.pieces;
      waiting = last ∷ [];
      items = fed.items;
      elements = subst (λ (b : Option Broken). AreElements bytes b (fed.pieces ++ last ∷ [])) (sym broken) goes.3.2;
      read = fed.read;
      pending = subst (λ (p : Pending). IsPendingAs p setting fed.items (last ∷ []) new pass) (sym pending) (
        last,
        refl,
        (goes.3.4, subst (λ (k : TailBuffer). last.text ≡ drop (span.0 - k.from) k.bytes.items) (sym kept) (text ∙ sym held)),
        subst (λ (p : Progress). IsAt setting.plan setting.start fed.items p pass) (sym progress) (none_waiting setting bytes [] mid pass none fed).1,
      );
      by_text = unbroken_text new.progress.log.broken broken;
    }

pub can_end_one : (span : ℕ × ℕ) (mid new : Intake) → mid.pending ≡ Nothing → new.pending ≡ Whole span.0 → new.progress ≡ mid.progress → new.kept ≡ mid.kept
    → EndsOn mid.splitter (Ok (Some span)) new.splitter → AllElements → CanGoOn [] mid → CanSettle new
can_end_one span mid new none pending progress kept ends elements can =
    let before = up_to_end can.bytes can.pieces mid.splitter can.present in
    let goes = ends can.bytes can.pieces before in
    let holds = holds_none mid.pending can.bytes mid.kept none can.holds in
    let low : mid.kept.from ≤ span.0 = omega (arith, can.low, goes.1) in
    let lends = can_lend_last can.bytes (drop span.0 can.bytes) can.pieces span mid.splitter new.splitter goes elements (ap (drop span.0) (sym (append-nil can.bytes))) in
    let place : new.progress.place ≡ mid.progress.place = ap (λ (p : Progress). p.place) progress in
    let from : new.kept.from ≡ mid.kept.from = ap (λ (k : TailBuffer). k.from) kept in
    let long : length new.kept.bytes.items ≡ length mid.kept.bytes.items = ap (λ (k : TailBuffer). length k.bytes.items) kept in
    record {
      by = subst (λ (p : Pending). CanSettleAs p new) (sym pending) (
        subst IsAhead (sym progress) (ahead_none mid can.settle none),
        record {
          low = omega (arith, from, low);
          high = omega (arith, from, long, holds.long, goes.0, goes.3.1.1);
          element = (lends.0, lends.1, lends.2, subst (λ (k : TailBuffer). lends.0.text ≡ drop (span.0 - k.from) k.bytes.items) (sym kept) (lends.3 ∙ sym (from_kept can.bytes mid.kept span.0 low holds)));
          starts = sym goes.3.4.1 ∙ goes.3.1.0;
          ends = omega (arith, from, long, holds.long, goes.3.3.taken);
        },
        record { keep_is = omega (arith, goes.2, goes.0, goes.3.3.taken); counted = omega (arith, place, can.place, goes.1, goes.3.1.1, goes.0, goes.3.3.taken); fits = omega (arith, goes.3.3.taken, before.taken, can.fits) },
      );
    }

pub can_end_none : (mid new : Intake) → mid.pending ≡ Nothing → new.pending ≡ mid.pending → (IsAhead mid.progress → IsAhead new.progress) → CanGoOn [] mid → CanSettle new
can_end_none mid new none pending ahead can = record { by = subst (λ (p : Pending). CanSettleAs p new) (sym (pending ∙ none)) (ahead (ahead_none mid can.settle none)) }

-- memory was refused at the end, and the splitter is as it was
pub wants_at_end : (fault : EdnFault) (old new : SplitterModel) → broken_by fault ≡ None → EndsOn old (Err fault) new → (bytes : List ℕ) (pieces : List ElementModel) → StandsAfter bytes [] pieces old → new ≡ old
wants_at_end fault old new none ends bytes pieces present =
    let at = wanted fault none in
    let goes = ends bytes pieces (up_to_end bytes pieces old present) in
    (subst (λ (w : Option ℕ). MatchOption w ((new.fault ≡ Some fault) × FaultOf bytes fault × AreElementsBefore bytes pieces) (λ place. (new ≡ old) × (place ≡ old.begun.start) × CanWantMemory bytes pieces place)) at.1 goes.1).0

-- the trace breaks at its end
pub ends_at : (setting : Setting) (bytes : List ℕ) (fault : EdnFault) (broken : Broken) (mid new : Intake) (pass : PassModel) → mid.pending ≡ Nothing → new.pending ≡ mid.pending
    → new.progress ≡ record mid.progress { log = record { lines = mid.progress.log.lines; broken = Some broken } } → broken_by fault ≡ Some broken
    → EndsOn mid.splitter (Err fault) new.splitter → HasFed setting bytes [] mid pass → IsAtEnd setting bytes new pass
ends_at setting bytes fault broken mid new pass none pending progress is ends fed =
    let taken = all_fed setting bytes [] mid pass none fed in
    let goes = ends bytes fed.pieces (up_to_end bytes fed.pieces mid.splitter taken.present) in
    let met = subst (λ (w : Option ℕ). MatchOption w ((new.splitter.fault ≡ Some fault) × FaultOf bytes fault × AreElementsBefore bytes fed.pieces) (λ place. (new.splitter ≡ mid.splitter) × (place ≡ mid.splitter.begun.start) × CanWantMemory bytes fed.pieces place)) (unwanted fault broken is) goes.1 in
    let set : new.progress.log.broken ≡ Some broken = ap (λ (p : Progress). p.log.broken) progress in
    let at = (none_waiting setting bytes [] mid pass none fed).1 in
    record {
      pieces = fed.pieces;
      waiting = [];
      items = fed.items;
      elements = subst (λ (b : Option Broken). AreElements bytes b (fed.pieces ++ [])) (sym set)
          (subst (AreElements bytes (Some broken)) (sym (append-nil fed.pieces)) (inl (fault, met.1, met.2, is)));
      read = fed.read;
      pending = subst (λ (p : Pending). IsPendingAs p setting fed.items [] new pass) (sym (pending ∙ none))
          (refl, subst (λ (p : Progress). IsAt setting.plan setting.start fed.items p pass) (sym progress) (record { place = at.place; feeder_is = at.feeder_is; pairing = at.pairing; done = at.done }));
      by_text = broken_by_text fault new.progress.log.broken (is ∙ sym set);
    }
