-- How far a feeder has come: before its first byte, where its reading breaks off, and after its end.
use Rattle.std.proofs.Common.{◌≡◌, ◌≢◌, ◌⊎◌, inl, inr, ℕ, false, List, [], ◌∷◌, ◌++◌, length, length-append, Option, Some, None, refl, sym, ap, subst, ◌∙◌, arith, append-nil, IsTrue}
use Rattle.edn_reader.specs.declared.fault.EdnFault.{EdnFault}
use Rattle.edn_reader.specs.declared.fault.EdnFault.TheVariants as edn
use Rattle.edn_reader.specs.Grammar.{ElementModel}
use Rattle.edn_reader.specs.Text.{IsViable}
use Rattle.edn_reader.specs.Fault.{AreElementsSoFar}
use Rattle.edn_reader.specs.Splitting.{SplitterModel, StandsAfter}
use Rattle.jepsen_form.specs.Item.{IsItem}
use Rattle.shards.specs.Plan.{Plan}
use Rattle.shards.specs.Pass.{PassModel}
use Rattle.feeders.specs.declared.feeder.FeedState.{FeedState}
use Rattle.feeders.specs.declared.feeder.FeedState.TheVariants.{Open, Paused, Ending, Broke, Ended}
use Rattle.feeders.specs.declared.intake.Intake.{Intake}
use Rattle.logs.specs.declared.log.Broken.{Broken}
use Rattle.feeders.specs.declared.pending.Pending.{Pending}
use Rattle.feeders.specs.declared.pending.Pending.TheVariants.{Nothing}
use Rattle.logs.specs.Broken.{AreElements, broken_by, is_of_reading}
use Rattle.feeders.specs.TailBuffer.{AreLastBytes}
use Rattle.feeders.specs.Readers.{broke_reading}
use Rattle.feeders.specs.Progress.{HasDone, IsAhead, IsAt}
use Rattle.logs.specs.Steps.{steps_of}
use Rattle.feeders.specs.Feeding.{FeederModel, IsFedUpTo, IsFedAs}
use Rattle.feeders.specs.Intake.{CanGoOn, HasBroken, HasEnded, HasFed, HasTaken, IsAtEnd}
use Rattle.feeders.specs.Pending.{CanSettleAs, IsPending, IsPendingAs, AreSettled, IsTightAs}
use Rattle.feeders.specs.Setting.{Setting, setting_of}
use Rattle.logs.specs.Start.{Start}
use Rattle.feeders.proofs.Pieces.{all_fed, can_more, fed_more, none_holds, none_waiting, taken_is, zip_join, none_kept}

-- how far a feeder has come, by its state
pub by_course : (plan : Plan) (start : Start) (bytes next : List ℕ) (feeding : FeederModel) (pass : PassModel) (state : FeedState) → feeding.state ≡ state → IsFedUpTo plan start bytes next feeding pass
    → IsFedAs state (setting_of plan feeding.tower feeding.chosen start) bytes next feeding.intake pass
by_course plan start bytes next feeding pass state is fed = subst (λ (c : FeedState). IsFedAs c (setting_of plan feeding.tower feeding.chosen start) bytes next feeding.intake pass) is fed

-- a feeder that is open takes whatever comes next
pub open_next : (plan : Plan) (start : Start) (bytes next : List ℕ) (feeding : FeederModel) (pass : PassModel) → feeding.state ≡ Open → IsFedUpTo plan start bytes [] feeding pass → IsFedUpTo plan start bytes next feeding pass
open_next plan start bytes next feeding pass is fed =
    subst (λ (c : FeedState). IsFedAs c (setting_of plan feeding.tower feeding.chosen start) bytes next feeding.intake pass) (sym is) (by_course plan start bytes [] feeding pass Open is fed)

-- a feeder that is over, and was fed so far, has gone through its trace (ended, it is not fed so far)
pub over_fed : (plan : Plan) (start : Start) (bytes : List ℕ) (feeding : FeederModel) (pass : PassModel) → (feeding.state ≡ Broke) ⊎ (feeding.state ≡ Ended) → IsFedUpTo plan start bytes [] feeding pass
    → HasEnded (setting_of plan feeding.tower feeding.chosen start) bytes feeding.intake pass
over_fed plan start bytes feeding pass (inl broke) fed = by_course plan start bytes [] feeding pass Broke broke fed bytes [] (sym (append-nil bytes))
over_fed plan start bytes feeding pass (inr ended) fed = absurd (by_course plan start bytes [] feeding pass Ended ended fed)

-- nothing was taken yet
pub nothing_taken : (intake : Intake) → ((next : List ℕ) → StandsAfter [] next [] intake.splitter) → AreLastBytes [] intake.kept → intake.progress.place ≡ 0 → HasTaken [] [] [] intake
nothing_taken intake present holds place = record {
  present = present [];
  holds = holds;
  low = omega (arith, holds.long);
  place = omega (arith, place);
}

pub can_begin : (intake : Intake) → intake.pending ≡ Nothing → ((next : List ℕ) → StandsAfter [] next [] intake.splitter) → AreLastBytes [] intake.kept → intake.progress.place ≡ 0 → IsAhead intake.progress → CanGoOn [] intake
can_begin intake none present holds place ahead =
    let taken : intake.splitter.taken ≡ 0 = taken_is [] [] [] intake.splitter (present []) in
    record {
      bytes = [];
      pieces = [];
      present = present [];
      holds = none_holds intake.pending [] intake.kept none holds;
      low = omega (arith, holds.long);
      place = omega (arith, place);
      counted = omega (arith, place);
      fits = omega (arith, taken);
      tight = subst (λ (p : Pending). IsTightAs p intake) (sym none) (λ _. none_kept [] intake.kept (omega (arith, holds.long)) holds);
      settle = record { by = subst (λ (p : Pending). CanSettleAs p intake) (sym none) ahead };
    }

module _ (setting : Setting) where
  pub fed_nothing : (intake : Intake) (pass : PassModel) → intake.pending ≡ Nothing → ((next : List ℕ) → StandsAfter [] next [] intake.splitter) → AreLastBytes [] intake.kept → intake.progress.place ≡ 0
      → intake.progress.log.broken ≡ None → IsAt setting.plan setting.start [] intake.progress pass → HasFed setting [] [] intake pass
  fed_nothing intake pass none present holds place unbroken at = record {
    pieces = [];
    waiting = [];
    items = [];
    taken = nothing_taken intake present holds place;
    read = tt;
    pending = subst (λ (p : Pending). IsPendingAs p setting [] [] intake pass) (sym none) (refl, at);
    unbroken = unbroken;
  }

  -- the reading breaks off after what was fed
  pub broke_off : (bytes : List ℕ) (broken : Broken) (old new : Intake) (pass : PassModel) → old.pending ≡ Nothing
      → ((bytes : List ℕ) (pieces : List ElementModel) (splitting : SplitterModel) → StandsAfter bytes [] pieces splitting → IsViable bytes)
      → ((bytes : List ℕ) (pieces : List ElementModel) (splitting : SplitterModel) → StandsAfter bytes [] pieces splitting → AreElementsSoFar bytes [] pieces)
      → IsTrue (is_of_reading broken.code) → broken.place ≡ old.splitter.taken → new.progress.log.lines ≡ old.progress.log.lines → new.progress.log.broken ≡ Some broken
      → HasFed setting bytes [] old pass → HasEnded setting bytes new pass
  broke_off bytes broken old new pass none viable so_far reading place lines set fed =
      let taken = all_fed setting bytes [] old pass none fed in
      let long = taken_is bytes [] fed.pieces old.splitter taken.present in
      record {
        items = fed.items;
        are = record {
          pieces = fed.pieces;
          elements = subst (λ (b : Option Broken). AreElements bytes b fed.pieces) (sym set)
              (inr (reading, place ∙ long, viable bytes fed.pieces old.splitter taken.present, so_far bytes fed.pieces old.splitter taken.present));
          read = fed.read;
        };
        done = subst (λ l. HasDone setting.plan setting.start pass l.items (steps_of setting.start.feeder fed.items)) (sym lines) (none_waiting setting bytes [] old pass none fed).1.done;
      }

  -- the end of the trace was taken, and what waited is carried out
  pub ended : (bytes : List ℕ) (old : Intake) (new : Intake) (pass after : PassModel) → (at : IsAtEnd setting bytes old pass) → AreSettled setting at.items at.waiting new.progress after
      → new.progress.log.broken ≡ old.progress.log.broken → HasEnded setting bytes new after
  ended bytes old new pass after at settled broken = record {
    items = at.items ++ settled.0;
    are = record {
      pieces = at.pieces ++ at.waiting;
      elements = subst (λ (b : Option Broken). AreElements bytes b (at.pieces ++ at.waiting)) (sym broken) at.elements;
      read = zip_join (IsItem setting.tower setting.chosen) at.pieces at.items at.waiting settled.0 at.read settled.1;
    };
    done = settled.2.done;
  }

  pub ends_waiting : (bytes : List ℕ) (old new : Intake) (pass after : PassModel) → (at : IsAtEnd setting bytes old pass) → IsPending setting at.items at.waiting new after
      → new.progress.log.broken ≡ old.progress.log.broken → IsAtEnd setting bytes new after
  ends_waiting bytes old new pass after at waits broken = record {
    pieces = at.pieces;
    waiting = at.waiting;
    items = at.items;
    elements = subst (λ (b : Option Broken). AreElements bytes b (at.pieces ++ at.waiting)) (sym broken) at.elements;
    read = at.read;
    pending = waits;
    by_text = ap broke_reading broken ∙ at.by_text;
  }

-- a fault of the text is no break of the reading
breaks_no_reading : (fault : EdnFault) → broke_reading (broken_by fault) ≡ false
breaks_no_reading (edn.Truncated place) = refl
breaks_no_reading (edn.StrayClose place) = refl
breaks_no_reading (edn.WrongClose place) = refl
breaks_no_reading (edn.TooDeep place) = refl
breaks_no_reading (edn.OddMap place) = refl
breaks_no_reading (edn.TagWithoutElement place) = refl
breaks_no_reading (edn.Memory place) = refl

pub broken_by_text : (fault : EdnFault) (broken : Option Broken) → broken_by fault ≡ broken → broke_reading broken ≡ false
broken_by_text fault broken is = rw (sym is) (breaks_no_reading fault)

-- one break of two traces of different lengths is no break of the reading
broke_both : (broken : Option Broken) (input other : List ℕ) (pieces pieces' : List ElementModel) → length input ≢ length other
    → AreElements input broken pieces → AreElements other broken pieces' → broke_reading broken ≡ false
broke_both None input other pieces pieces' apart one two = refl
broke_both (Some broken) input other pieces pieces' apart (inl (fault, of, before, is)) two = broken_by_text fault (Some broken) is
broke_both (Some broken) input other pieces pieces' apart (inr reading) (inl (fault, of, before, is)) = broken_by_text fault (Some broken) is
broke_both (Some broken) input other pieces pieces' apart (inr (code, place, viable, so_far)) (inr (other_code, other_place, other_viable, other_so_far)) = absurd (apart (sym place ∙ other_place))

broke_by_text : (setting : Setting) (bytes : List ℕ) (intake : Intake) (pass : PassModel) → HasBroken setting bytes intake pass → broke_reading intake.progress.log.broken ≡ false
broke_by_text setting bytes intake pass broken =
    let one = broken (bytes ++ []) [] refl in
    let two = broken (bytes ++ 0 ∷ []) (0 ∷ []) refl in
    broke_both intake.progress.log.broken (bytes ++ []) (bytes ++ 0 ∷ []) one.are.pieces two.are.pieces
    (λ same. omega (arith, same, length-append bytes [], length-append bytes (0 ∷ []))) one.are.elements two.are.elements

-- the trace of a feeder that is over, and was fed so far, did not break by its reading
pub over_by_text : (plan : Plan) (start : Start) (bytes : List ℕ) (feeding : FeederModel) (pass : PassModel) → (feeding.state ≡ Broke) ⊎ (feeding.state ≡ Ended) → IsFedUpTo plan start bytes [] feeding pass
    → broke_reading feeding.intake.progress.log.broken ≡ false
over_by_text plan start bytes feeding pass (inl broke) fed =
    broke_by_text (setting_of plan feeding.tower feeding.chosen start) bytes feeding.intake pass (by_course plan start bytes [] feeding pass Broke broke fed)
over_by_text plan start bytes feeding pass (inr ended) fed = absurd (by_course plan start bytes [] feeding pass Ended ended fed)

-- a feeder that is not over, and whose trace's end was not taken, can go on
pub can_feed : (feeding : FeederModel) (piece : List ℕ) (state : FeedState) → feeding.state ≡ state → ((state ≡ Broke) ⊎ (state ≡ Ended) → ⊥) → state ≢ Ending
    → (state ≡ Open → CanGoOn [] feeding.intake) → (state ≡ Paused → CanGoOn piece feeding.intake) → CanGoOn piece feeding.intake
can_feed feeding piece Open is going on at_open paused = can_more [] piece feeding.intake (at_open refl)
can_feed feeding piece Paused is going on at_open paused = paused refl
can_feed feeding piece Ending is going on at_open paused = absurd (on refl)
can_feed feeding piece Broke is going on at_open paused = absurd (going (inl refl))
can_feed feeding piece Ended is going on at_open paused = absurd (going (inr refl))

pub fed_before : (plan : Plan) (start : Start) (bytes piece : List ℕ) (feeding : FeederModel) (pass : PassModel) (state : FeedState) → feeding.state ≡ state → ((state ≡ Broke) ⊎ (state ≡ Ended) → ⊥) → state ≢ Ending
    → IsFedUpTo plan start bytes piece feeding pass → HasFed (setting_of plan feeding.tower feeding.chosen start) bytes piece feeding.intake pass
fed_before plan start bytes piece feeding pass Open is going on fed =
    fed_more (setting_of plan feeding.tower feeding.chosen start) bytes [] piece feeding.intake pass (by_course plan start bytes piece feeding pass Open is fed)
fed_before plan start bytes piece feeding pass Paused is going on fed = by_course plan start bytes piece feeding pass Paused is fed
fed_before plan start bytes piece feeding pass Ending is going on fed = absurd (on refl)
fed_before plan start bytes piece feeding pass Broke is going on fed = absurd (going (inl refl))
fed_before plan start bytes piece feeding pass Ended is going on fed = absurd (going (inr refl))
