use Rattle.std.proofs.Common.{◌≤◌, ◌∙◌, ◌++◌, ◌-◌, ◌+◌, ℕ, List, [], Option, Some, None, length, take, drop, append-nil, refl, sym, subst, ap, arith, length-take-le}
use Rattle.edn_reader.specs.Grammar.{ElementModel}
use Rattle.edn_reader.specs.Splitting.{StandsAfter, TakesUpTo}
use Rattle.shards.specs.Pass.{PassModel}
use Rattle.shards.specs.Plan.{Plan}
use Rattle.logs.specs.Start.{Start}
use Rattle.feeders.specs.declared.intake.Intake.{Intake}
use Rattle.feeders.specs.Intake.{HasFed, HasUsed}
use Rattle.feeders.specs.Pending.{count_of}
use Rattle.feeders.specs.Setting.{setting_of}
use Rattle.feeders.proofs.Fronts.{item_of_front, page_of_front}
use Rattle.feeders.proofs.Pieces.{broke_at, fed_along, holds_same, known_more}
use Rattle.feeders.proofs.Taking.{EndsOne, IsTaken, TookNone, can_read_after, ends_so, fed_on, fed_roomed, fed_taken, keeps_fault, kept_is, let_go, taken_before, takes_all, takes_some, used_on, used_one, wants_memory}
use Rattle.feeders.proofs.intake.Intake.hold_next.Given.{Over}
use Rattle.feeders.proofs.intake.Intake.hold_next.Goals.{After-take, After-take-in_default-whole, After-take_whole, After-taken}
use Rattle.feeders.proofs.intake.Intake.hold_next.Goals as goal

pub returns-then-is_err-clause-waits : goal.returns-then-is_err-clause-waits
returns-then-is_err-clause-waits g c plan start pass bytes next fed =
    let old = c.args.self.now in
    let setting = setting_of plan c.args.site.tower.now c.args.site.field start in
    let new : Intake = record { splitter = old.splitter; kept = c.make_room.new.self; progress = old.progress; pending = old.pending } in
    fed_along setting bytes (bytes ++ take 0 c.args.piece.now) (c.args.piece.now ++ next) (drop 0 c.args.piece.now ++ next) new pass (sym (append-nil bytes)) refl
    (fed_roomed setting bytes (c.args.piece.now ++ next) old new pass c.requires.settled refl refl refl c.make_room.ensures.kept.0 c.make_room.ensures.kept.1 fed)

pub returns-in-Some-clause-goes : goal.returns-in-Some-clause-goes
returns-in-Some-clause-goes g c plan start pass bytes next =
    let old = c.args.self.now in
    let broken = c.in-Some.broken in
    broke_at (setting_of plan c.args.site.tower.now c.args.site.field start) bytes (c.args.piece.now ++ next) c.in-Err.fault broken old
    (record { splitter = c.take_element.new.splitter; kept = c.make_room.new.self; progress = record old.progress { log = record { lines = old.progress.log.lines; broken = Some broken } }; pending = old.pending }) pass
    c.requires.settled (keeps_fault c.in-Err.fault broken old.splitter c.take_element.new.splitter c.args.piece.now (sym c.broken_by.ensures ∙ c.in-Some.is) c.in-Err.ensures.fault bytes next)
    (sym c.broken_by.ensures ∙ c.in-Some.is) refl refl

-- memory was refused for a part of the chunk, and so many bytes had been taken before
some_taken : (g : Over) (c : After-taken g) → (c.taken-before.result ≤ c.taken.result) × (c.taken.result ≤ c.taken-before.result + length c.args.piece.now)
some_taken g c =
    let taken = taken_before c.in-Err.fault c.args.self.now c.take_element.new.splitter c.args.piece.now (sym c.broken_by.ensures ∙ c.in_default.is) c.in-Err.ensures.fault c.requires.can in
    (omega (arith, taken.0, c.taken.ensures, c.taken-before.ensures), omega (arith, taken.1, c.taken.ensures, c.taken-before.ensures))

pub overflow_sub-used : goal.overflow_sub-used
overflow_sub-used g c = (some_taken g c).0

pub slice_bounds-take-end : goal.slice_bounds-take-end
slice_bounds-take-end g c =
    let taken = some_taken g (goal.at.slice_bounds-take-end g c).After-taken in
    sym (length-take-le (c.taken.result - c.taken-before.result) c.args.piece.now (omega (arith, taken.1)))

pub take-requires-clause-fits : goal.take-requires-clause-fits
take-requires-clause-fits g c =
    let taken = some_taken g (goal.at.take-requires-clause-fits g c).After-taken in
    let piece = c.args.piece.now in
    let within : c.taken.result - c.taken-before.result ≤ length piece = omega (arith, taken.1) in
    omega (arith, c.requires.fits, kept_is c.args.self.now piece c.requires.settled c.requires.can, within, length-take-le _ piece within, c.make_room.ensures.kept.0, ap length c.make_room.ensures.kept.1)

module _ (g : Over) (c : After-take g) where
  abbrev some : ℕ
  some = c.taken.result - c.taken-before.result

  abbrev refused : Intake
  refused = record { splitter = c.take_element.new.splitter; kept = c.take.new.self; progress = c.args.self.now.progress; pending = c.args.self.now.pending }

  took_some : some ≤ length c.args.piece.now → TookNone c.args.piece.now some c.args.self.now refused
  took_some within =
      let piece = c.args.piece.now in
      let old = c.args.self.now in
      let roomed = c.make_room.ensures.kept in
      let wants = wants_memory c.in-Err.fault old.splitter c.take_element.new.splitter piece (sym c.broken_by.ensures ∙ c.in_default.is) c.in-Err.ensures.fault in
      takes_some piece some wants.0 old refused wants.1 c.requires.can (omega (arith, c.taken.ensures, c.taken-before.ensures))
      (λ taken held. c.take.ensures.holds taken (holds_same taken old.kept c.make_room.new.self roomed.0 roomed.1 held))
      (λ low. subst (λ (n : ℕ). c.take.new.self.from ≤ n) c.keep_from-keep.ensures (c.take.ensures.low (omega (arith, low, c.keep_from-keep.ensures, roomed.0))))
      (let_go old.kept c.make_room.new.self c.take.new.self c.keep_from-keep.result some (take some piece) c.keep_from-keep.ensures roomed.0 roomed.1 (length-take-le some piece within) c.take.ensures.let_go)
      c.requires.settled refl c.requires.settled c.requires.fits

pub returns-in-Err-clause-refused : goal.returns-in-Err-clause-refused
returns-in-Err-clause-refused g c =
    let at = goal.at.returns-in-Err-clause-refused g c in
    let taken = some_taken g at.After-taken in
    used_on c.args.piece.now (some g at.After-take) c.args.self.now (refused g at.After-take) (took_some g at.After-take (omega (arith, taken.1))) c.requires.settled c.requires.can

pub returns-in-Err-clause-waits : goal.returns-in-Err-clause-waits
returns-in-Err-clause-waits g c plan start pass bytes next fed =
    let at = goal.at.returns-in-Err-clause-waits g c in
    let taken = some_taken g at.After-taken in
    fed_on (setting_of plan c.args.site.tower.now c.args.site.field start) c.args.piece.now (some g at.After-take) c.args.self.now (refused g at.After-take) pass bytes next
    (took_some g at.After-take (omega (arith, taken.1))) c.requires.settled fed

pub take-requires-in_default-whole-clause-fits : goal.take-requires-in_default-whole-clause-fits
take-requires-in_default-whole-clause-fits g c =
    omega (arith, c.requires.fits, kept_is c.args.self.now c.args.piece.now c.requires.settled c.requires.can, c.make_room.ensures.kept.0, ap length c.make_room.ensures.kept.1)

-- no element ended in the chunk
module _ (g : Over) (c : After-take-in_default-whole g) where
  abbrev kept : Intake
  kept = record { splitter = c.take_element.new.splitter; kept = c.take-in_default-whole.new.self; progress = c.args.self.now.progress; pending = c.args.self.now.pending }

  takes : (bytes next : List ℕ) (pieces : List ElementModel) → StandsAfter bytes (c.args.piece.now ++ next) pieces c.args.self.now.splitter
      → TakesUpTo bytes c.args.piece.now next pieces c.args.self.now.splitter c.in-Ok.next.taken.used None kept.splitter
  takes bytes next pieces present =
      subst (λ (w : Option (ℕ × ℕ)). TakesUpTo bytes c.args.piece.now next pieces c.args.self.now.splitter c.in-Ok.next.taken.used w kept.splitter) c.in_default-whole.is (c.in-Ok.ensures.takes bytes next pieces present)

  took_all : TookNone c.args.piece.now c.in-Ok.next.taken.used c.args.self.now kept
  took_all =
      let piece = c.args.piece.now in
      let old = c.args.self.now in
      let roomed = c.make_room.ensures.kept in
      takes_all piece c.in-Ok.next.taken.used old kept c.in-Ok.ensures.counted takes c.requires.can
      (λ taken held. c.take-in_default-whole.ensures.holds taken (holds_same taken old.kept c.make_room.new.self roomed.0 roomed.1 held))
      (λ low. subst (λ (n : ℕ). c.take-in_default-whole.new.self.from ≤ n) c.keep_from-open.ensures (c.take-in_default-whole.ensures.low (omega (arith, low, c.keep_from-open.ensures, roomed.0))))
      (let_go old.kept c.make_room.new.self c.take-in_default-whole.new.self c.keep_from-open.result (length piece) piece c.keep_from-open.ensures roomed.0 roomed.1 refl c.take-in_default-whole.ensures.let_go)
      c.requires.settled refl c.requires.settled c.requires.fits

pub returns-in_default-whole-clause-used : goal.returns-in_default-whole-clause-used
returns-in_default-whole-clause-used g c =
    let at = (goal.at.returns-in_default-whole-clause-used g c).After-take-in_default-whole in
    let can = c.requires.can in
    let on = took_all g at in
    let goes = takes g at can.bytes [] can.pieces (known_more can.bytes c.args.piece.now [] can.pieces c.args.self.now.splitter can.present) in
    (used_on c.args.piece.now _ c.args.self.now (kept g at) on c.requires.settled can, λ none. goes.0, refl)

pub returns-in_default-whole-clause-goes : goal.returns-in_default-whole-clause-goes
returns-in_default-whole-clause-goes g c plan start pass bytes next fed =
    let at = (goal.at.returns-in_default-whole-clause-goes g c).After-take-in_default-whole in
    fed_on (setting_of plan c.args.site.tower.now c.args.site.field start) c.args.piece.now _ c.args.self.now (kept g at) pass bytes next (took_all g at) c.requires.settled fed

pub take_whole-requires-clause-can : goal.take_whole-requires-clause-can
take_whole-requires-clause-can g c κs lives =
    let piece = c.args.piece.now in
    let old = c.args.self.now in
    let mid : Intake = record { splitter = c.take_element.new.splitter; kept = c.make_room.new.self; progress = old.progress; pending = old.pending } in
    let ends = ends_so piece c.in-Ok.next.taken (c.in-Some-whole.start, c.in-Some-whole.field-0-1) old mid c.in-Some-whole.is c.in-Ok.ensures.takes in
    can_read_after piece _ _ old mid ends c.each_is_element.ensures c.in-Ok.ensures.counted c.make_room.ensures.kept.0 c.make_room.ensures.kept.1 refl c.requires.settled c.requires.can c.requires.fits

pub take_whole-requires-clause-page : goal.take_whole-requires-clause-page
take_whole-requires-clause-page g c κs lives =
    let can = take_whole-requires-clause-can g c κs lives in
    let piece : List ℕ = c.args.piece.now in
    let used = c.in-Ok.next.taken.used in
    let counted = c.in-Ok.ensures.counted in
    let many = length-take-le used piece counted.0 in
    page_of_front c.text_on.result c.make_room.new.self piece used c.in-Some-whole.start c.taken-before.result
    (omega (arith, can.ends, many, counted.1, c.taken-before.ensures)) (omega (arith, can.high, can.ends, many, counted.1, c.taken-before.ensures))
    (c.text_on.ensures piece c.requires.page)

pub take_whole-requires-clause-item : goal.take_whole-requires-clause-item
take_whole-requires-clause-item g c κs lives =
    let can = take_whole-requires-clause-can g c κs lives in
    let piece : List ℕ = c.args.piece.now in
    let used = c.in-Ok.next.taken.used in
    let counted = c.in-Ok.ensures.counted in
    item_of_front c.args.site.tower.now c.args.site.field c.take_element.new.splitter c.in-Ok.next.item c.make_room.new.self (take used piece) c.in-Some-whole.start c.args.self.now.splitter.taken
    (omega (arith, can.ends, length-take-le used piece counted.0, counted.1)) can.starts c.in-Ok.ensures.after c.in-Ok.ensures.item

-- an element ended in the chunk, and waits
module _ (g : Over) (c : After-take_whole g) where
  abbrev mid : Intake
  mid = record { splitter = c.take_element.new.splitter; kept = c.make_room.new.self; progress = c.args.self.now.progress; pending = c.args.self.now.pending }

  ends : EndsOne c.args.piece.now c.in-Ok.next.taken.used (c.in-Some-whole.start, c.in-Some-whole.field-0-1) c.args.self.now mid
  ends = ends_so c.args.piece.now c.in-Ok.next.taken (c.in-Some-whole.start, c.in-Some-whole.field-0-1) c.args.self.now mid c.in-Some-whole.is c.in-Ok.ensures.takes

  taken : IsTaken c.args.piece.now c.in-Ok.next.taken.used c.args.self.now mid c.take_whole.new.self
  taken = record {
    can = c.take_whole.ensures.can;
    holds = c.take_whole.ensures.holds;
    low = c.take_whole.ensures.low;
    tight = c.take_whole.ensures.tight;
    splitter = c.take_whole.ensures.beside.0;
    broken = c.take_whole.ensures.beside.1;
    place = c.take_whole.ensures.place;
    from = c.make_room.ensures.kept.0;
    items = c.make_room.ensures.kept.1;
    progress = refl;
    counted = c.in-Ok.ensures.counted;
    fits = omega (arith, c.in-Ok.ensures.counted.0, c.in-Ok.ensures.counted.1, c.requires.fits);
  }

  used : HasUsed c.args.piece.now c.args.self.now c.in-Ok.next.taken.used c.take_whole.new.self
  used = used_one c.args.piece.now _ _ c.args.self.now mid c.take_whole.new.self taken ends c.requires.settled c.requires.can

  waits : (plan : Plan) (start : Start) (pass : PassModel) (bytes next : List ℕ) → HasFed (setting_of plan c.args.site.tower.now c.args.site.field start) bytes (c.args.piece.now ++ next) c.args.self.now pass
      → HasFed (setting_of plan c.args.site.tower.now c.args.site.field start) (bytes ++ take c.in-Ok.next.taken.used c.args.piece.now) (drop c.in-Ok.next.taken.used c.args.piece.now ++ next) c.take_whole.new.self pass
  waits plan start pass bytes next =
      fed_taken (setting_of plan c.args.site.tower.now c.args.site.field start) c.args.piece.now _ _ c.args.self.now mid c.take_whole.new.self pass bytes next taken ends c.each_is_element.ensures c.requires.settled
      (λ items last is text at. c.take_whole.ensures.pending plan start items pass last is text at)

pub returns-in-Err-take_whole-clause-refused : goal.returns-in-Err-take_whole-clause-refused
returns-in-Err-take_whole-clause-refused g c = used g (goal.at.returns-in-Err-take_whole-clause-refused g c).After-take_whole

pub returns-in-Err-take_whole-clause-waits : goal.returns-in-Err-take_whole-clause-waits
returns-in-Err-take_whole-clause-waits g c = waits g (goal.at.returns-in-Err-take_whole-clause-waits g c).After-take_whole

pub returns-in-Ok-take_whole-clause-used : goal.returns-in-Ok-take_whole-clause-used
returns-in-Ok-take_whole-clause-used g c = (
  used g (goal.at.returns-in-Ok-take_whole-clause-used g c).After-take_whole,
  λ none. absurd (omega (arith, c.take_whole.ensures.count, ap count_of none)),
  c.take_whole.ensures.place,
)

pub returns-in-Ok-take_whole-clause-goes : goal.returns-in-Ok-take_whole-clause-goes
returns-in-Ok-take_whole-clause-goes g c = waits g (goal.at.returns-in-Ok-take_whole-clause-goes g c).After-take_whole
