use Rattle.std.proofs.Common.{◌≡◌, ℕ, [], List, Some, None, refl, sym, ap, subst, ◌∙◌, arith}
use Rattle.edn_reader.specs.Grammar.{ElementModel}
use Rattle.edn_reader.specs.Lent.{piece_of}
use Rattle.edn_reader.specs.Text.{IsFront}
use Rattle.edn_reader.specs.Reading.{ReaderModel}
use Rattle.logs.specs.Broken.{AreElements}
use Rattle.feeders.specs.Progress.{IsAt}
use Rattle.logs.specs.Start.{first_start}
use Rattle.feeders.specs.Setting.{setting_of}
use Rattle.feeders.proofs.Doing.{first_is_start}
use Rattle.feeders.proofs.Reading.{HasRead, begun, broken_at, ends, read_known, read_on}
use Rattle.feeders.proofs.Stopping.{stop_ends}
use Rattle.feeders.proofs.trace.feed_text.Goals as goal

pub loop-element-init : goal.loop-element-init
loop-element-init g c =
    let plan = g.O.Opening.plan in
    let setting = setting_of plan c.args.site.tower.now c.args.site.field (first_start c.args.access.now.pass.feeder) in
    let state = c.new-reader.ensures.state in
    let progress = c.new-progress.result in
    let start : c.new-reader.result.at ≡ 0 = ap (λ (r : ReaderModel). r.at) state in
    let is_at : IsAt plan (first_start c.args.access.now.pass.feeder) [] progress c.args.access.now.pass =
    c.new-progress.ensures.at plan (first_start c.args.access.now.pass.feeder) c.args.access.now.pass (first_is_start plan c.args.access.now.pass c.requires.fresh c.requires.known (c.what_was_told_stays.ensures.fresh plan c.args.access.now.pass.feeder)) (sym c.feeder.ensures) in
    record {
      input = ap (λ (r : ReaderModel). r.input) state;
      within = omega (arith, start);
      place = omega (arith, start, c.new-progress.ensures.place);
      ahead = c.new-progress.ensures.ahead;
      so_far = subst (λ (n : ℕ). HasRead setting c.args.trace.now n progress c.args.access.now.pass) (sym start) (begun setting c.args.trace.now progress c.args.access.now.pass c.new-reader.ensures.begins is_at);
    }

pub loop-element-preserved : goal.loop-element-preserved
loop-element-preserved g c =
    let plan = g.O.Opening.plan in
    let setting = setting_of plan c.args.site.tower.now c.args.site.field (first_start c.args.access.now.pass.feeder) in
    let trace = c.args.trace.now in
    let piece = piece_of c.in-Ok-Some.element in
    let same = c.loop-element.invariant.input in
    let forward = rw (c.in-Ok-Some.field-0-is, same) at c.in-Ok-Some.ensures.forward in
    let goes = rw (c.in-Ok-Some.field-0-is, same) at c.in-Ok-Some.ensures.element in
    let place = c.in_default.ensures.place in
    let before = c.loop-element.invariant.place in
    record {
      input = c.next.ensures.input ∙ same;
      within = forward.1;
      place = omega (arith, forward.0, place, before, c.pair.ensures.place);
      ahead = c.in_default.ensures.ahead;
      so_far = read_on setting trace c.loop-element.reader.at c.next.new.self.at c.loop-element.progress c.pair.new.self c.take_step.new.self c.loop-element.access.pass c.take_step.new.access.pass piece c.read_item.result c.in_ok-step-in-Ok-Some.step
          c.loop-element.invariant.so_far goes c.read_item.ensures.item c.in_ok-step-in-Ok-Some.ensures.paired c.in_default.ensures.done;
    }

pub returns-in-Err-clause-fed : goal.returns-in-Err-clause-fed
returns-in-Err-clause-fed g c =
    let setting = setting_of g.O.Opening.plan c.args.site.tower.now c.args.site.field (first_start c.args.access.now.pass.feeder) in
    let same = c.loop-element.invariant.input in
    let broken = c.in-Some.broken in
    ends setting c.args.trace.now c.loop-element.reader.at c.loop-element.progress c.loop-element.access.pass (Some broken) (record { pass = c.loop-element.access.pass; log = c.into_log-in-Err.result }) c.loop-element.invariant.so_far
    (subst (λ (trace : List ℕ). (pieces : List ElementModel) → IsFront trace pieces c.loop-element.reader.at → AreElements trace (Some broken) pieces) same
    (broken_at c.loop-element.reader.input c.loop-element.reader.at c.in-Err.fault broken (sym c.broken_by.ensures ∙ c.in-Some.is) c.in-Err.ensures.fault))
    refl c.into_log-in-Err.ensures.lines c.into_log-in-Err.ensures.broken

pub returns-in-Err-take_step-clause-fault : goal.returns-in-Err-take_step-clause-fault
returns-in-Err-take_step-clause-fault g c =
    let setting = setting_of g.O.Opening.plan c.args.site.tower.now c.args.site.field (first_start c.args.access.now.pass.feeder) in
    let known = read_known setting c.args.trace.now c.loop-element.reader.at c.loop-element.progress c.pair.new.self c.loop-element.access.pass (piece_of c.in-Ok-Some.element) c.read_item.result c.in_ok-step-in-Ok-Some.step
    c.items_name_registers_of_the_tower.ensures c.steps_are_on_named_registers.ensures c.requires.of_tower c.loop-element.invariant.so_far c.read_item.ensures.item c.in_ok-step-in-Ok-Some.ensures.paired in
    stop_ends g.O.Opening.plan c.take_step.new.access.pass c.in-Err-take_step.fault (c.in-Err-take_step.ensures.fault known.0 known.1)

pub returns-in-Ok-None-clause-fed : goal.returns-in-Ok-None-clause-fed
returns-in-Ok-None-clause-fed g c =
    let setting = setting_of g.O.Opening.plan c.args.site.tower.now c.args.site.field (first_start c.args.access.now.pass.feeder) in
    let goes = rw (c.in-Ok-None.field-0-is, c.loop-element.invariant.input) at c.in-Ok-None.ensures.end in
    ends setting c.args.trace.now c.loop-element.reader.at c.loop-element.progress c.loop-element.access.pass None (record { pass = c.loop-element.access.pass; log = c.into_log.result }) c.loop-element.invariant.so_far (goes refl).1 refl c.into_log.ensures.lines c.into_log.ensures.broken
