use Rattle.std.proofs.Common.{◌++◌, inl, inr, ℕ, Option, take, drop, sym, subst, ap, arith}
use Rattle.std.specs.Prelude.{IfSome}
use Rattle.feeders.specs.Ending.{MayStop}
use Rattle.feeders.specs.Intake.{GoesTo, HasFed}
use Rattle.feeders.specs.Pending.{count_of}
use Rattle.feeders.specs.Setting.{setting_of}
use Rattle.feeders.proofs.Pieces.{fed_settled, fed_waits}
use Rattle.feeders.proofs.Taking.{HasHeld, settled_place, used_beside, waits_or_not}
use Rattle.feeders.proofs.intake.Intake.take_next.Goals as goal

pub returns-in-Ok-None-clause-goes : goal.returns-in-Ok-None-clause-goes
returns-in-Ok-None-clause-goes g c start bytes next fed =
    subst (λ (by : Option ℕ). GoesTo (setting_of g.O.Opening.plan c.args.site.tower.now c.args.site.field start) bytes c.args.piece.now next by c.hold_next.new.self c.args.access.now.pass) c.in-Ok-None.field-0-is
    (c.in-Ok-None.ensures.goes g.O.Opening.plan start c.args.access.now.pass bytes next fed)

pub returns-in-Err-clause-waits : goal.returns-in-Err-clause-waits
returns-in-Err-clause-waits g c start bytes next = c.in-Err.ensures.waits g.O.Opening.plan start c.args.access.now.pass bytes next

pub returns-in-Err-clause-fault : goal.returns-in-Err-clause-fault
returns-in-Err-clause-fault g c start bytes next fed claims = subst (MayStop g.O.Opening.plan c.args.access.now.pass) (sym c.in-Err.ensures.memory) tt

pub returns-in-Ok-clause-used : goal.returns-in-Ok-clause-used
returns-in-Ok-clause-used g c =
    let piece = c.args.piece.now in
    let old = c.args.self.now in
    let mid = c.hold_next.new.self in
    let held : HasHeld piece old mid c.in-Ok-Some.used = subst (λ (by : Option ℕ). IfSome by (HasHeld piece old mid)) c.in-Ok-Some.field-0-is c.in-Ok-Some.ensures.used in
    let e = c.in-Ok.ensures in
    let place = settled_place mid c.settle.new.self.progress.place _ held.0.can e.place in
    let second = used_beside piece _ old mid c.settle.new.self held.0 e.beside e.can place.0 place.1 in (
      second,
      e.settled,
      λ some. elim (waits_or_not mid.pending) [
        | inl none ↦ omega (arith, some, held.1 none, second.taken, e.place, held.2, ap count_of none)
        | inr one ↦ omega (arith, one, second.taken, e.place, held.2)
      ],
    )

pub returns-in-Ok-clause-goes : goal.returns-in-Ok-clause-goes
returns-in-Ok-clause-goes g c start bytes next fed =
    let setting = setting_of g.O.Opening.plan c.args.site.tower.now c.args.site.field start in
    let piece = c.args.piece.now in
    let mid = c.hold_next.new.self in
    let used = c.in-Ok-Some.used in
    let held : HasHeld piece c.args.self.now mid used = subst (λ (by : Option ℕ). IfSome by (HasHeld piece c.args.self.now mid)) c.in-Ok-Some.field-0-is c.in-Ok-Some.ensures.used in
    let waits : HasFed setting (bytes ++ take used piece) (drop used piece ++ next) mid c.args.access.now.pass =
    subst (λ (by : Option ℕ). GoesTo setting bytes piece next by mid c.args.access.now.pass) c.in-Ok-Some.field-0-is (c.in-Ok-Some.ensures.goes g.O.Opening.plan start c.args.access.now.pass bytes next fed) in
    let e = c.in-Ok.ensures in
    let place = settled_place mid c.settle.new.self.progress.place _ held.0.can e.place in
    fed_settled setting _ _ mid c.settle.new.self c.args.access.now.pass c.settle.new.access.pass waits (e.done start waits.items waits.waiting waits.pending) e.beside place.0 e.settled

pub returns-in-Err-settle-clause-refused : goal.returns-in-Err-settle-clause-refused
returns-in-Err-settle-clause-refused g c =
    let piece = c.args.piece.now in
    let old = c.args.self.now in
    let mid = c.hold_next.new.self in
    let held : HasHeld piece old mid c.in-Ok-Some.used = subst (λ (by : Option ℕ). IfSome by (HasHeld piece old mid)) c.in-Ok-Some.field-0-is c.in-Ok-Some.ensures.used in
    let e = c.in-Err-settle.ensures in
    let same = e.refused.0 in
    used_beside piece _ old mid c.settle.new.self held.0 e.beside e.can (omega (arith, same, held.0.can.place)) (omega (arith, same, held.0.can.counted))

pub returns-in-Err-settle-clause-waits : goal.returns-in-Err-settle-clause-waits
returns-in-Err-settle-clause-waits g c start bytes next fed =
    let setting = setting_of g.O.Opening.plan c.args.site.tower.now c.args.site.field start in
    let piece = c.args.piece.now in
    let mid = c.hold_next.new.self in
    let used = c.in-Ok-Some.used in
    let held : HasHeld piece c.args.self.now mid used = subst (λ (by : Option ℕ). IfSome by (HasHeld piece c.args.self.now mid)) c.in-Ok-Some.field-0-is c.in-Ok-Some.ensures.used in
    let waits : HasFed setting (bytes ++ take used piece) (drop used piece ++ next) mid c.args.access.now.pass =
    subst (λ (by : Option ℕ). GoesTo setting bytes piece next by mid c.args.access.now.pass) c.in-Ok-Some.field-0-is (c.in-Ok-Some.ensures.goes g.O.Opening.plan start c.args.access.now.pass bytes next fed) in
    let e = c.in-Err-settle.ensures in
    fed_waits setting _ _ mid c.settle.new.self c.args.access.now.pass c.settle.new.access.pass waits (e.waits start waits.items waits.waiting waits.pending) e.beside (omega (arith, e.refused.0, held.0.can.place))

pub returns-in-Err-settle-clause-fault : goal.returns-in-Err-settle-clause-fault
returns-in-Err-settle-clause-fault g c start bytes next fed claims =
    let setting = setting_of g.O.Opening.plan c.args.site.tower.now c.args.site.field start in
    let piece = c.args.piece.now in
    let mid = c.hold_next.new.self in
    let used = c.in-Ok-Some.used in
    let waits : HasFed setting (bytes ++ take used piece) (drop used piece ++ next) mid c.args.access.now.pass =
    subst (λ (by : Option ℕ). GoesTo setting bytes piece next by mid c.args.access.now.pass) c.in-Ok-Some.field-0-is (c.in-Ok-Some.ensures.goes g.O.Opening.plan start c.args.access.now.pass bytes next fed) in
    c.in-Err-settle.ensures.fault start waits.items waits.waiting waits.pieces waits.pending waits.read claims
