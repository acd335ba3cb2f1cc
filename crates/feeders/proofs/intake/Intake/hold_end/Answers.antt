use Rattle.std.proofs.Common.{◌≡◌, ◌∙◌, ℕ, [], Option, Some, Ok, refl, sym, subst, ap}
use Rattle.edn_reader.specs.Splitting.{EndsOn, SplitterModel}
use Rattle.feeders.specs.declared.intake.Intake.{Intake}
use Rattle.feeders.specs.declared.pending.Pending.TheVariants.{Whole}
use Rattle.feeders.specs.Intake.{CanGoOn, HasFed}
use Rattle.feeders.proofs.AtEnd.{can_end_none, can_end_one, ends_at, ends_none, ends_one, wants_at_end}
use Rattle.feeders.proofs.intake.Intake.hold_end.Goals.{In-Ok-Some}
use Rattle.feeders.proofs.intake.Intake.hold_end.Goals as goal

pub returns-in-Ok-None-clause-ends : goal.returns-in-Ok-None-clause-ends
returns-in-Ok-None-clause-ends c setting bytes pass was =
    let mid = c.args.self.now in
    let new : Intake = record { splitter = c.end.new.self; kept = mid.kept; progress = mid.progress; pending = mid.pending } in
    ends_none setting bytes mid new pass c.requires.settled refl refl
    (subst (λ (w : Option (ℕ × ℕ)). EndsOn mid.splitter (Ok w) c.end.new.self) c.in-Ok-None.field-0-is c.in-Ok-None.ensures.ends) was

pub returns-in-Ok-None-clause-can : goal.returns-in-Ok-None-clause-can
returns-in-Ok-None-clause-can c =
    let mid = c.args.self.now in
    can_end_none mid (record { splitter = c.end.new.self; kept = mid.kept; progress = mid.progress; pending = mid.pending }) c.requires.settled refl (λ ahead. ahead) c.requires.can

module _ (c : In-Ok-Some) where
  abbrev span : ℕ × ℕ
  span = (c.in-Ok-Some.start, c.in-Ok-Some.field-0-0-1)

  abbrev waiting : Intake
  waiting = record { splitter = c.end.new.self; kept = c.args.self.now.kept; progress = c.args.self.now.progress; pending = Whole c.in-Ok-Some.start }

  ends : EndsOn c.args.self.now.splitter (Ok (Some span)) c.end.new.self
  ends = subst (λ (w : Option (ℕ × ℕ)). EndsOn c.args.self.now.splitter (Ok w) c.end.new.self) c.in-Ok-Some.field-0-is c.in-Ok-Some.ensures.ends

pub returns-in-Ok-Some-clause-ends : goal.returns-in-Ok-Some-clause-ends
returns-in-Ok-Some-clause-ends c setting bytes pass was =
    let at = (goal.at.returns-in-Ok-Some-clause-ends c).In-Ok-Some in
    ends_one setting bytes (span at) c.args.self.now (waiting at) pass c.requires.settled refl refl refl (ends at) was

pub returns-in-Ok-Some-clause-can : goal.returns-in-Ok-Some-clause-can
returns-in-Ok-Some-clause-can c =
    let at = (goal.at.returns-in-Ok-Some-clause-can c).In-Ok-Some in
    can_end_one (span at) c.args.self.now (waiting at) c.requires.settled refl refl refl (ends at) c.each_is_element.ensures c.requires.can

pub returns-in-Some-clause-ends : goal.returns-in-Some-clause-ends
returns-in-Some-clause-ends c setting bytes pass was =
    let mid = c.args.self.now in
    let broken = c.in-Some.broken in
    let new : Intake = record { splitter = c.end.new.self; kept = mid.kept; progress = record mid.progress { log = record { lines = mid.progress.log.lines; broken = Some broken } }; pending = mid.pending } in
    ends_at setting bytes c.in-Err.fault broken mid new pass c.requires.settled refl refl (sym c.broken_by.ensures ∙ c.in-Some.is) c.in-Err.ensures.ends was

pub returns-in-Some-clause-can : goal.returns-in-Some-clause-can
returns-in-Some-clause-can c =
    let mid = c.args.self.now in
    let broken = c.in-Some.broken in
    can_end_none mid (record { splitter = c.end.new.self; kept = mid.kept; progress = record mid.progress { log = record { lines = mid.progress.log.lines; broken = Some broken } }; pending = mid.pending })
    c.requires.settled refl (λ ahead. ahead) c.requires.can

pub returns-in_default-clause-still : goal.returns-in_default-clause-still
returns-in_default-clause-still c =
    let can = c.requires.can in
    let same : c.end.new.self ≡ c.args.self.now.splitter =
    wants_at_end c.in-Err.fault c.args.self.now.splitter c.end.new.self (sym c.broken_by.ensures ∙ c.in_default.is) c.in-Err.ensures.ends can.bytes can.pieces can.present in
    (subst (λ (s : SplitterModel). CanGoOn [] (record c.args.self.now { splitter = s })) (sym same) can, ap (λ (s : SplitterModel). s.taken) same)

pub returns-in_default-clause-waits : goal.returns-in_default-clause-waits
returns-in_default-clause-waits c setting bytes pass was =
    let can = c.requires.can in
    let same : c.end.new.self ≡ c.args.self.now.splitter =
    wants_at_end c.in-Err.fault c.args.self.now.splitter c.end.new.self (sym c.broken_by.ensures ∙ c.in_default.is) c.in-Err.ensures.ends can.bytes can.pieces can.present in
    subst (λ (s : SplitterModel). HasFed setting bytes [] (record c.args.self.now { splitter = s }) pass) (sym same) was
