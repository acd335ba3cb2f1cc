-- What was read of a reader is fed: to its end, to where the trace broke, or to where the reading broke off.
use Rattle.std.proofs.Common.{◌≡◌, ◌⊎◌, inl, inr, ℕ, Bool, true, false, List, [], Option, Some, None, IfSome, refl, sym, subst, ap, ◌∙◌, append-nil}
use Rattle.shards.specs.Plan.{Plan}
use Rattle.shards.specs.Pass.{PassModel}
use Rattle.feeders.specs.declared.outcome.FeederOutcome.{FeederOutcome}
use Rattle.feeders.specs.declared.intake.Intake.{Intake}
use Rattle.logs.specs.declared.log.BreakCode.{BreakCode}
use Rattle.logs.specs.declared.log.BreakCode.TheVariants.{ReadFailed, TooLong}
use Rattle.logs.specs.declared.log.Broken.{Broken}
use Rattle.logs.specs.declared.log.Log.{Log}
use Rattle.logs.specs.Broken.{is_of_reading}
use Rattle.feeders.specs.Feeding.{FeederModel, IsFedUpTo}
use Rattle.feeders.specs.Intake.{HasBroken, HasEnded}
use Rattle.feeders.specs.Progress.{HasDone, IsFed, IsReadAndFed}
use Rattle.feeders.specs.Readers.{IsReadOf, IsReadUpTo, broke_reading}
use Rattle.feeders.specs.Setting.{Setting}
use Rattle.logs.specs.Start.{Start}
use Rattle.feeders.specs.Source.{AreBytesOf}
use Rattle.logs.specs.Steps.{AreItemsOfTrace, steps_of}
use Rattle.feeders.proofs.Sourcing.{given_front}

-- the bytes that a source gave are fed
pub record HasStreamed (plan : Plan) (start : Start) (first left : Option (List ℕ)) (past : Bool) (feeding : FeederModel) (pass : PassModel) : Type 0 where
  pub bytes : List ℕ
  pub given : AreBytesOf first bytes left past
  pub fed : IsFedUpTo plan start bytes [] feeding pass

-- all bytes of the reader were read
whole_of : (first : Option (List ℕ)) (bytes : List ℕ) (broken : Option Broken) → IfSome first (λ all. all ≡ bytes) → IsReadOf first broken bytes
whole_of None bytes broken is = tt
whole_of (Some all) bytes broken is = up_to (broke_reading broken)
  where
    up_to : (reading : Bool) → IsReadUpTo reading all bytes
    up_to false = sym is
    up_to true = ([], is ∙ sym (append-nil bytes))

module _ (setting : Setting) where
  -- a feeder's pass and log are handed out
  handed : (trace : List ℕ) (pass : PassModel) (log : Log) (fed : FeederOutcome) → fed.pass ≡ pass → fed.log ≡ log
      → IsFed setting trace (record { pass = pass; log = log }) → IsFed setting trace fed
  handed trace pass log fed pass_is log_is is = record {
    items = is.items;
    are = subst (λ (l : Log). AreItemsOfTrace setting.tower setting.chosen trace l.broken is.items) (sym log_is) is.are;
    done = subst (λ (p : PassModel). HasDone setting.plan setting.start p fed.log.lines.items (steps_of setting.start.feeder is.items)) (sym pass_is)
        (subst (λ (l : Log). HasDone setting.plan setting.start pass l.lines.items (steps_of setting.start.feeder is.items)) (sym log_is) is.done);
  }

  -- the source came to its end
  pub read_whole : (first : Option (List ℕ)) (bytes : List ℕ) (intake : Intake) (pass : PassModel) (fed : FeederOutcome) → IfSome first (λ all. all ≡ bytes)
      → HasEnded setting bytes intake pass → fed.pass ≡ pass → fed.log ≡ intake.progress.log → IsReadAndFed setting first fed
  read_whole first bytes intake pass fed all ended pass_is log_is = record {
    trace = bytes;
    of = whole_of first bytes fed.log.broken all;
    is_fed = handed bytes pass intake.progress.log fed pass_is log_is ended;
  }

  -- the trace broke in what was given
  pub broke_within : (first left : Option (List ℕ)) (past : Bool) (bytes : List ℕ) (intake : Intake) (pass : PassModel) (fed : FeederOutcome) → AreBytesOf first bytes left past
      → HasBroken setting bytes intake pass → fed.pass ≡ pass → fed.log ≡ intake.progress.log → IsReadAndFed setting first fed
  broke_within None left past bytes intake pass fed given broken pass_is log_is =
      read_whole None bytes intake pass fed tt (broken bytes [] (sym (append-nil bytes))) pass_is log_is
  broke_within (Some all) left past bytes intake pass fed given broken pass_is log_is =
      let front = given_front all bytes left past given in
      read_whole (Some all) all intake pass fed refl (broken all front.0 front.1) pass_is log_is

  -- the reading broke off
  pub read_up_to : (first left : Option (List ℕ)) (past : Bool) (bytes : List ℕ) (broken : Broken) (intake : Intake) (pass : PassModel) (fed : FeederOutcome)
      → AreBytesOf first bytes left past → is_of_reading broken.code ≡ true → intake.progress.log.broken ≡ Some broken
      → HasEnded setting bytes intake pass → fed.pass ≡ pass → fed.log ≡ intake.progress.log → IsReadAndFed setting first fed
  read_up_to first left past bytes broken intake pass fed given reading set ended pass_is log_is = record {
    trace = bytes;
    of = subst (λ (b : Option Broken). IsReadOf first b bytes) (sym (ap (λ (l : Log). l.broken) log_is ∙ set)) (up_to first given);
    is_fed = handed bytes pass intake.progress.log fed pass_is log_is ended;
  }
    where
      up_to : (first : Option (List ℕ)) → AreBytesOf first bytes left past → IsReadOf first (Some broken) bytes
      up_to None given = tt
      up_to (Some all) given = subst (λ (reading : Bool). IsReadUpTo reading all bytes) (sym reading) (given_front all bytes left past given)

-- the fault of a source is a break of the reading
pub code_of_reading : (code : BreakCode) → (code ≡ ReadFailed) ⊎ (code ≡ TooLong) → is_of_reading code ≡ true
code_of_reading code (inl is) = ap is_of_reading is
code_of_reading code (inr is) = ap is_of_reading is
