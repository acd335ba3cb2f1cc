-- The element that waits goes on: it is read, paired and carried out.
use Rattle.std.proofs.Common.{◌≡◌, ℕ, List, [], ◌∷◌, Result, refl, sym, ap, subst}
use Rattle.std.specs.List.{AllZip}
use Rattle.edn_reader.specs.Grammar.{ElementModel}
use Rattle.jepsen_form.specs.declared.gist.RefusedForm.{RefusedForm}
use Rattle.jepsen_form.specs.declared.item.Item.{Item}
use Rattle.jepsen_form.specs.Item.{IsItem}
use Rattle.shards.specs.Plan.{Plan, claims_of}
use Rattle.shards.specs.Pass.{IsPassOf, PassModel}
use Rattle.feeders.specs.declared.intake.Intake.{Intake}
use Rattle.feeders.specs.declared.tail_buffer.TailBuffer.{TailBuffer}
use Rattle.feeders.specs.declared.pending.Pending.{Pending}
use Rattle.feeders.specs.declared.pending.Pending.TheVariants.{Nothing, Whole, Lent, Paired}
use Rattle.feeders.specs.declared.progress.Progress.{Progress}
use Rattle.feeders.specs.TailBuffer.{AreLastBytes}
use Rattle.feeders.specs.Pending.{CanSettleAs, HoldsAs, WaitsBetweenElements, IsPending, IsPendingAs, IsReadAs, KeepsElement, count_of, IsTightAs}
use Rattle.feeders.specs.Progress.{IsAhead, IsAt, IsPaired, IsKnownStep}
use Rattle.feeders.specs.Setting.{Setting}
use Rattle.logs.specs.Start.{Start}
use Rattle.logs.specs.Steps.{StepResult}
use Rattle.feeders.proofs.Naming.{ItemsName, StepsAreOn, known_step}

-- the element that waited was read
pub read_as : (pending : Pending) (setting : Setting) (items : List (Result Item RefusedForm)) (waiting : List ElementModel) (pass : PassModel) (old : Progress) (new : Intake) (piece last : ElementModel)
    → IsReadAs setting.tower setting.chosen piece old new.progress pending → piece ≡ last → waiting ≡ last ∷ [] → IsAt setting.plan setting.start items old pass
    → IsPendingAs pending setting items waiting new pass
read_as Nothing setting items waiting pass old new piece last read same is at = absurd read
read_as (Whole start) setting items waiting pass old new piece last read same is at = absurd read
read_as (Lent item) setting items waiting pass old new piece last read same is at =
    (last, is, subst (λ (p : ElementModel). IsItem setting.tower setting.chosen p item) same read.0, subst (λ (p : Progress). IsAt setting.plan setting.start items p pass) (sym read.1) at)
read_as (Paired step) setting items waiting pass old new piece last read same is at =
    (last, is, (read.0, subst (λ (p : ElementModel). IsItem setting.tower setting.chosen p read.0) same read.1, read.5 setting.plan setting.start items pass at))

pub read_waits : (setting : Setting) (items : List (Result Item RefusedForm)) (waiting : List ElementModel) (pass : PassModel) (old new : Intake) (start : ℕ) (piece : ElementModel)
    → old.pending ≡ Whole start → IsReadAs setting.tower setting.chosen piece old.progress new.progress new.pending
    → ((last : ElementModel) → KeepsElement start last old → piece ≡ last)
    → IsPending setting items waiting old pass → IsPending setting items waiting new pass
read_waits setting items waiting pass old new start piece is read same pending =
    let waits = subst (λ (p : Pending). IsPendingAs p setting items waiting old pass) is pending in
    read_as new.pending setting items waiting pass old.progress new piece waits.0 read (same waits.0 waits.2) waits.1 waits.3

pub read_ahead : (pending : Pending) (setting : Setting) (piece : ElementModel) (old : Progress) (new : Intake) → IsReadAs setting.tower setting.chosen piece old new.progress pending
    → IsAhead old → (new.progress.place ≡ old.place → WaitsBetweenElements new) → CanSettleAs pending new
read_ahead Nothing setting piece old new read ahead between = absurd read
read_ahead (Whole start) setting piece old new read ahead between = absurd read
read_ahead (Lent item) setting piece old new read ahead between = (subst IsAhead (sym read.1) ahead, between (ap (λ (p : Progress). p.place) read.1))
read_ahead (Paired step) setting piece old new read ahead between = (read.2, between read.3)

read_count : (pending : Pending) (setting : Setting) (piece : ElementModel) (old new : Progress) → IsReadAs setting.tower setting.chosen piece old new pending → count_of pending ≡ 1
read_count Nothing setting piece old new read = absurd read
read_count (Whole start) setting piece old new read = absurd read
read_count (Lent item) setting piece old new read = refl
read_count (Paired step) setting piece old new read = refl

read_broken : (pending : Pending) (setting : Setting) (piece : ElementModel) (old new : Progress) → IsReadAs setting.tower setting.chosen piece old new pending
    → (new.log.broken ≡ old.log.broken) × (new.place ≡ old.place)
read_broken Nothing setting piece old new read = absurd read
read_broken (Whole start) setting piece old new read = absurd read
read_broken (Lent item) setting piece old new read = (ap (λ (p : Progress). p.log.broken) read.1, ap (λ (p : Progress). p.place) read.1)
read_broken (Paired step) setting piece old new read = (ap (λ l. l.broken) read.4, read.3)

pub read_place : (setting : Setting) (piece : ElementModel) (old new : Progress) (pending : Pending) → IsReadAs setting.tower setting.chosen piece old new pending
    → (new.log.broken ≡ old.log.broken) × (new.place ≡ old.place) × (count_of pending ≡ 1)
read_place setting piece old new pending read = let is = read_broken pending setting piece old new read in (is.0, is.1, read_count pending setting piece old new read)

pub holds_any : (pending : Pending) (bytes : List ℕ) (kept : TailBuffer) → AreLastBytes bytes kept → HoldsAs pending bytes kept
holds_any Nothing bytes kept holds = holds
holds_any (Whole start) bytes kept holds = tt
holds_any (Lent item) bytes kept holds = holds
holds_any (Paired step) bytes kept holds = holds

pub tight_any : (pending : Pending) (intake : Intake) → intake.kept.bytes.items ≡ [] → IsTightAs pending intake
tight_any Nothing intake empty = λ _. empty
tight_any (Whole start) intake empty = tt
tight_any (Lent item) intake empty = λ _. empty
tight_any (Paired step) intake empty = λ _. empty

-- what was read is paired
pub pair_waits : (setting : Setting) (items : List (Result Item RefusedForm)) (waiting : List ElementModel) (pass : PassModel) (old new : Intake) (item : Result Item RefusedForm) (step : StepResult)
    → old.pending ≡ Lent item → new.pending ≡ Paired step
    → ((plan : Plan) (start : Start) (items : List (Result Item RefusedForm)) (pass : PassModel) → IsAt plan start items old.progress pass → IsPaired plan start items item step new.progress pass)
    → IsPending setting items waiting old pass → IsPending setting items waiting new pass
pair_waits setting items waiting pass old new item step was is paired pending =
    let waits = subst (λ (p : Pending). IsPendingAs p setting items waiting old pass) was pending in
    subst (λ (p : Pending). IsPendingAs p setting items waiting new pass) (sym is)
    (waits.0, waits.1, (item, waits.2, paired setting.plan setting.start items pass waits.3))

-- the register of the step that waits is one of the plan's, and the pass is the plan's
pub waits_known : (setting : Setting) (items : List (Result Item RefusedForm)) (waiting pieces : List ElementModel) (old : Intake) (pass : PassModel) (step : StepResult) → ItemsName → StepsAreOn
    → old.pending ≡ Paired step → IsPending setting items waiting old pass → AllZip (IsItem setting.tower setting.chosen) pieces items → setting.plan.claims ≡ claims_of setting.tower
    → IsPassOf setting.plan pass × IsKnownStep setting.plan step
waits_known setting items waiting pieces old pass step name on was pending read claims =
    let waits = subst (λ (p : Pending). IsPendingAs p setting items waiting old pass) was pending in (
      waits.2.2.done.of_plan,
      known_step setting.plan setting.tower setting.chosen name on setting.start.feeder pieces items waits.0 waits.2.0 step claims read waits.2.1 waits.2.2.step_is,
    )
