use Rattle.std.proofs.lemmas.Result.{err_from_is_err_and}
use Rattle.tower_file.specs.Form.{IsLevel}
use Rattle.tower_file.specs.Reading.{level_after}
use Rattle.tower_file.specs.Views.{contents_with}
use Rattle.tower_file.specs.Keeping.{IsLevelKept}
use Rattle.edn_reader.specs.Lent.{piece_of}
use Rattle.tower_file.proofs.Loops.{after_begins, after_on, after_fails, after_stops, after_reaches, after_ends}
use Rattle.tower_file.proofs.Levels.{reached_kept}
use Rattle.tower_file.proofs.level.read_levels.Goals as goal

pub loop-element-init : goal.loop-element-init
loop-element-init c = after_begins IsLevel level_after c.args.view (contents_with c.args.levels.now c.args.registers.now)

pub loop-element-preserved : goal.loop-element-preserved
loop-element-preserved c =
    after_on IsLevel level_after c.args.view c.loop-element.left c.next.new.self c.in-Some.element (contents_with c.args.levels.now c.args.registers.now)
    (contents_with c.loop-element.levels c.loop-element.registers) (contents_with c.read_level.new.levels c.read_level.new.registers) c.loop-element.invariant c.in-Some.ensures.member c.in_ok-read_level.ensures.ok

pub returns-in_err-read_level-clause-err : goal.returns-in_err-read_level-clause-err
returns-in_err-read_level-clause-err c =
    let p = err_from_is_err_and c.from_residual.result c.from_residual.ensures.1 in
    rw (p.1, p.2) (λ other. after_fails IsLevel level_after c.args.view c.loop-element.left c.next.new.self c.in-Some.element (contents_with c.args.levels.now c.args.registers.now)
    (contents_with c.loop-element.levels c.loop-element.registers) c.in_err-read_level.field-0.0.fault c.loop-element.invariant c.in-Some.ensures.member (c.in_err-read_level.ensures.err other))

pub returns-in_err-read_level-clause-span : goal.returns-in_err-read_level-clause-span
returns-in_err-read_level-clause-span c =
    let p = err_from_is_err_and c.from_residual.result c.from_residual.ensures.1 in
    rw (p.1, p.2) (λ other forms h.
    let s = c.in_err-read_level.ensures.span other in
    let level = c.in_err-read_level.ensures.err other in
    let stops = after_stops IsLevel level_after c.args.view c.loop-element.left c.next.new.self c.in-Some.element (contents_with c.args.levels.now c.args.registers.now)
    (contents_with c.loop-element.levels c.loop-element.registers) c.in_err-read_level.field-0.0.fault c.loop-element.invariant c.in-Some.ensures.member level forms h in
    let at = s stops.form stops.is in
    (at.0, (contents_with c.loop-element.levels c.loop-element.registers, piece_of c.in-Some.element, stops, at.1), at.2))

pub returns-clause-ok : goal.returns-clause-ok
returns-clause-ok c =
    after_ends IsLevel level_after c.args.view c.loop-element.left c.next.new.self (contents_with c.args.levels.now c.args.registers.now)
    (contents_with c.loop-element.levels c.loop-element.registers) c.loop-element.invariant c.in_default.ensures.member

pub returns-in_err-read_level-clause-memory : goal.returns-in_err-read_level-clause-memory
returns-in_err-read_level-clause-memory c =
    let p = err_from_is_err_and c.from_residual.result c.from_residual.ensures.1 in
    rw (p.1, p.2) (λ wanted forms h.
    reached_kept (contents_with c.args.levels.now c.args.registers.now) forms
    (after_reaches IsLevel level_after IsLevelKept c.args.view c.loop-element.left c.next.new.self c.in-Some.element (contents_with c.args.levels.now c.args.registers.now)
    (contents_with c.loop-element.levels c.loop-element.registers) c.loop-element.invariant c.in-Some.ensures.member (c.in_err-read_level.ensures.memory wanted) forms h))

pub returns-in_err-read_level-clause-nowhere : goal.returns-in_err-read_level-clause-nowhere
returns-in_err-read_level-clause-nowhere c =
    let p = err_from_is_err_and c.from_residual.result c.from_residual.ensures.1 in
    rw (p.1, p.2) (c.in_err-read_level.ensures.nowhere)
