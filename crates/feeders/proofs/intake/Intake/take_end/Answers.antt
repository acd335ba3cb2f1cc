use Rattle.std.proofs.Common.{◌≡◌, ◌∙◌, [], ap, arith}
use Rattle.edn_reader.specs.Splitting.{SplitterModel}
use Rattle.feeders.specs.Pending.{count_of}
use Rattle.feeders.specs.Setting.{setting_of}
use Rattle.feeders.proofs.Pieces.{can_beside, fed_settled, fed_waits}
use Rattle.feeders.proofs.Taking.{settled_place}
use Rattle.feeders.proofs.intake.Intake.take_end.Goals as goal

pub returns-in-Err-clause-still : goal.returns-in-Err-clause-still
returns-in-Err-clause-still g c =
    let old = c.args.self.now in
    let e = c.in-Err.ensures in
    let can = c.requires.can in
    (can_beside [] old c.settle.new.self e.beside (omega (arith, e.refused.0, can.place)) (omega (arith, e.refused.0, can.counted)) e.can can, ap (λ (s : SplitterModel). s.taken) e.beside.splitter)

pub returns-in-Err-clause-open : goal.returns-in-Err-clause-open
returns-in-Err-clause-open g c none = let one : count_of c.args.self.now.pending ≡ 1 = c.in-Err.ensures.refused.1 in absurd (omega (arith, one, ap count_of none))

pub returns-in-Err-clause-waits : goal.returns-in-Err-clause-waits
returns-in-Err-clause-waits g c start bytes fed =
    let e = c.in-Err.ensures in
    fed_waits (setting_of g.O.Opening.plan c.args.site.tower.now c.args.site.field start) bytes [] c.args.self.now c.settle.new.self c.args.access.now.pass c.settle.new.access.pass fed
    (e.waits start fed.items fed.waiting fed.pending) e.beside (omega (arith, e.refused.0, c.requires.can.place))

pub hold_end-requires-clause-can : goal.hold_end-requires-clause-can
hold_end-requires-clause-can g c =
    let old = c.args.self.now in
    let e = c.in_default.ensures in
    let place = settled_place old c.settle.new.self.progress.place [] c.requires.can e.place in
    can_beside [] old c.settle.new.self e.beside place.0 place.1 e.can c.requires.can

pub returns-in-Ok-clause-ends : goal.returns-in-Ok-clause-ends
returns-in-Ok-clause-ends g c start bytes was =
    let setting = setting_of g.O.Opening.plan c.args.site.tower.now c.args.site.field start in
    let e = c.in_default.ensures in
    let place = settled_place c.args.self.now c.settle.new.self.progress.place [] c.requires.can e.place in
    c.in-Ok.ensures.ends setting bytes c.settle.new.access.pass
    (fed_settled setting bytes [] c.args.self.now c.settle.new.self c.args.access.now.pass c.settle.new.access.pass was (e.done start was.items was.waiting was.pending) e.beside place.0 e.settled)

pub returns-in-Ok-clause-by_text : goal.returns-in-Ok-clause-by_text
returns-in-Ok-clause-by_text g c unbroken = c.in-Ok.ensures.by_text (c.in_default.ensures.beside.broken ∙ unbroken)

pub returns-in-Err-hold_end-clause-still : goal.returns-in-Err-hold_end-clause-still
returns-in-Err-hold_end-clause-still g c = (c.in-Err-hold_end.ensures.still.0, c.in-Err-hold_end.ensures.still.1 ∙ ap (λ (s : SplitterModel). s.taken) c.in_default.ensures.beside.splitter)

pub returns-in-Err-hold_end-clause-open : goal.returns-in-Err-hold_end-clause-open
returns-in-Err-hold_end-clause-open g c none = c.in-Err-hold_end.ensures.open

pub returns-in-Err-hold_end-clause-waits : goal.returns-in-Err-hold_end-clause-waits
returns-in-Err-hold_end-clause-waits g c start bytes was =
    let setting = setting_of g.O.Opening.plan c.args.site.tower.now c.args.site.field start in
    let e = c.in_default.ensures in
    let place = settled_place c.args.self.now c.settle.new.self.progress.place [] c.requires.can e.place in
    c.in-Err-hold_end.ensures.waits setting bytes c.settle.new.access.pass
    (fed_settled setting bytes [] c.args.self.now c.settle.new.self c.args.access.now.pass c.settle.new.access.pass was (e.done start was.items was.waiting was.pending) e.beside place.0 e.settled)
