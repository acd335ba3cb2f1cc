use Rattle.std.proofs.Common.{◌≡◌, ◌-◌, ◌++◌, [], ◌∷◌, ℕ, List, drop, refl, subst, ◌∙◌, arith}
use Rattle.feeders.specs.declared.intake.Intake.{Intake}
use Rattle.feeders.specs.declared.pending.Pending.TheVariants.{Whole}
use Rattle.feeders.specs.Pending.{IsItemOfLast, IsReadAs, count_of}
use Rattle.logs.specs.Start.{first_start}
use Rattle.feeders.specs.Setting.{Setting, setting_of}
use Rattle.feeders.proofs.Fronts.{can_read_at_once, can_whole, front_text, whole_waits}
use Rattle.feeders.proofs.Holding.{kept_on}
use Rattle.feeders.proofs.Settling.{read_as, read_place, tight_any}
use Rattle.feeders.proofs.intake.Intake.take_whole.Given.{Over}
use Rattle.feeders.proofs.intake.Intake.take_whole.Goals.{In-Ok}
use Rattle.feeders.proofs.intake.Intake.take_whole.Goals as goal

pub returns-then-start-end-clause-pending : goal.returns-then-start-end-clause-pending
returns-then-start-end-clause-pending g c plan begun items pass last is text at =
    let old = c.args.self.now in
    let start = c.args.start in
    let front = c.args.front.now in
    let kept = c.take.new.self in
    let on = kept_on old.kept kept front start c.take.ensures.holds c.requires.can.low (c.take.ensures.low c.requires.can.low) in
    whole_waits (setting_of plan c.args.site.tower.now c.args.site.field begun) items pass old (record { splitter = old.splitter; kept = kept; progress = old.progress; pending = Whole start }) start
    (drop (start - old.kept.from) (old.kept.bytes.items ++ front)) last is text at refl refl refl on.0

pub returns-then-start-end-clause-can : goal.returns-then-start-end-clause-can
returns-then-start-end-clause-can g c =
    let old = c.args.self.now in
    let start = c.args.start in
    let front = c.args.front.now in
    let kept = c.take.new.self in
    let low = c.take.ensures.low c.requires.can.low in
    let on = kept_on old.kept kept front start c.take.ensures.holds c.requires.can.low low in
    can_whole old (record { splitter = old.splitter; kept = kept; progress = old.progress; pending = Whole start }) start front c.requires.can c.requires.ahead refl refl refl low on.0 on.1

pub hold_last-requires-clause-element : goal.hold_last-requires-clause-element
hold_last-requires-clause-element g c κs lives =
    let last = c.requires.can.element in
    (last.0, last.1, last.2, last.3 ∙ front_text c.args.self.now.kept c.args.front.now c.args.start c.end-end.result (omega (arith, c.end-end.ensures)) c.if-start-end.false)

pub hold_last-requires-clause-item : goal.hold_last-requires-clause-item
hold_last-requires-clause-item g c κs lives =
    let old = c.args.self.now in
    subst (λ (text : List ℕ). IsItemOfLast c.args.site.tower.now c.args.site.field old.splitter text c.args.known.item)
    (front_text old.kept c.args.front.now c.args.start c.end-end.result (omega (arith, c.end-end.ensures)) c.if-start-end.false)
    c.requires.item

pub returns-in-Ok-clause-pending : goal.returns-in-Ok-clause-pending
returns-in-Ok-clause-pending g c plan begun items pass last is text at =
    let old = c.args.self.now in
    let setting = setting_of plan c.args.site.tower.now c.args.site.field begun in
    read_as c.in-Ok.pending setting items (last ∷ []) pass old.progress
    (record { splitter = old.splitter; kept = c.restart.new.self; progress = c.hold_last.new.progress; pending = c.in-Ok.pending }) last last
    (c.in-Ok.ensures.read last is (text ∙ front_text old.kept c.args.front.now c.args.start c.end-end.result (omega (arith, c.end-end.ensures)) c.if-start-end.false)) refl refl at

-- the element was read
module _ (g : Over) (c : In-Ok g) where
  abbrev setting : Setting
  setting = setting_of (record { name = 0; shards = 1; feeders = 1; claims = [] }) c.args.site.tower.now c.args.site.field (first_start 0)

  read : IsReadAs c.args.site.tower.now c.args.site.field c.requires.can.element.0 c.args.self.now.progress c.hold_last.new.progress c.in-Ok.pending
  read =
      let last = c.requires.can.element in
      c.in-Ok.ensures.read last.0 last.1 (last.3 ∙ front_text c.args.self.now.kept c.args.front.now c.args.start c.end-end.result (omega (arith, c.end-end.ensures)) c.if-start-end.false)

  placed : (c.hold_last.new.progress.log.broken ≡ c.args.self.now.progress.log.broken) × (c.hold_last.new.progress.place ≡ c.args.self.now.progress.place) × (count_of c.in-Ok.pending ≡ 1)
  placed = read_place setting c.requires.can.element.0 c.args.self.now.progress c.hold_last.new.progress c.in-Ok.pending read

pub returns-in-Ok-clause-can : goal.returns-in-Ok-clause-can
returns-in-Ok-clause-can g c =
    let at = (goal.at.returns-in-Ok-clause-can g c).In-Ok in
    let old = c.args.self.now in
    let new : Intake = record { splitter = old.splitter; kept = c.restart.new.self; progress = c.hold_last.new.progress; pending = c.in-Ok.pending } in
    can_read_at_once old new c.args.start c.args.front.now (setting g at) c.requires.can.element.0 c.requires.can c.requires.ahead refl (read g at)

pub returns-in-Ok-clause-beside : goal.returns-in-Ok-clause-beside
returns-in-Ok-clause-beside g c = (refl, (placed g (goal.at.returns-in-Ok-clause-beside g c).In-Ok).0)

pub returns-in-Ok-clause-place : goal.returns-in-Ok-clause-place
returns-in-Ok-clause-place g c = (placed g (goal.at.returns-in-Ok-clause-place g c).In-Ok).1

pub returns-in-Ok-clause-count : goal.returns-in-Ok-clause-count
returns-in-Ok-clause-count g c = (placed g (goal.at.returns-in-Ok-clause-count g c).In-Ok).2

pub returns-in-Err-clause-pending : goal.returns-in-Err-clause-pending
returns-in-Err-clause-pending g c plan begun items pass last is text at =
    let old = c.args.self.now in
    let start = c.args.start in
    let front = c.args.front.now in
    let kept = c.take-in-Err.new.self in
    let on = kept_on old.kept kept front start c.take-in-Err.ensures.holds c.requires.can.low (c.take-in-Err.ensures.low c.requires.can.low) in
    whole_waits (setting_of plan c.args.site.tower.now c.args.site.field begun) items pass old (record { splitter = old.splitter; kept = kept; progress = c.hold_last.new.progress; pending = Whole start }) start
    (drop (start - old.kept.from) (old.kept.bytes.items ++ front)) last is text at refl refl c.in-Err.ensures.kept on.0

pub returns-in-Err-clause-can : goal.returns-in-Err-clause-can
returns-in-Err-clause-can g c =
    let old = c.args.self.now in
    let start = c.args.start in
    let front = c.args.front.now in
    let kept = c.take-in-Err.new.self in
    let low = c.take-in-Err.ensures.low c.requires.can.low in
    let on = kept_on old.kept kept front start c.take-in-Err.ensures.holds c.requires.can.low low in
    can_whole old (record { splitter = old.splitter; kept = kept; progress = c.hold_last.new.progress; pending = Whole start }) start front c.requires.can c.requires.ahead refl refl c.in-Err.ensures.kept low on.0 on.1

pub returns-in-Ok-clause-tight : goal.returns-in-Ok-clause-tight
returns-in-Ok-clause-tight g c =
    let old = c.args.self.now in
    tight_any c.in-Ok.pending (record { splitter = old.splitter; kept = c.restart.new.self; progress = c.hold_last.new.progress; pending = c.in-Ok.pending }) c.restart.ensures.empty
