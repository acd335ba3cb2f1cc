use Rattle.std.proofs.Common.{◌≡◌, ◌∙◌, ◌≤◌, ◌-◌, ap, arith}
use Rattle.std.specs.List.{range_with_len}
use Rattle.std.proofs.Crossing.{crosses}
use denote.Param.Send.{sendable}
use Rattle.rayon.specs.Numbers.{nat_range}
use Rattle.rayon.proofs.ListFacts.{IfOk-then}
use Rattle.rayon.proofs.ToStd.{nat_range-All}
use Rattle.tower_file.proofs.tower.Tower.TheSendSync as tower
use Rattle.report.specs.Finding.{IsOfTower}
use Rattle.report.proofs.Crosses.{closed_sync}
use Rattle.report.proofs.Batches.{zipped}
use Rattle.report.proofs.batch.batches.Goals as goal

pub map-requires-send-F : goal.map-requires-send-F
map-requires-send-F g c κs within = search (closed_sync, tower.the_sync, crosses, sendable) depth 40

pub map-requires-sync-F : goal.map-requires-sync-F
map-requires-sync-F g c κs within = search (closed_sync, tower.the_sync, crosses, sendable) depth 40

pub collect-requires-send-Self : goal.collect-requires-send-Self
collect-requires-send-Self g c κs within = search (closed_sync, tower.the_sync, crosses, sendable) depth 60

pub collect-requires-clause-ready : goal.collect-requires-clause-ready
collect-requires-clause-ready g c κs within =
    let ends = c.into_par_iter.ensures in
    let inside = nat_range-All (λ i. IsOfTower c.args.tower.now c.args.closed.now × (i ≤ 65536)) 0 c.div_ceil.result
    (λ i low high. (c.requires.of_tower, omega (arith, c.div_ceil.ensures, c.len.ensures.most))) in
    rw (c.map.ensures.base, c.map.ensures.f, c.with_min_len.ensures.base, ends.0, ends.1) (λ k d lt. (inside k d lt, λ y p. tt))

pub returns-clause-many : goal.returns-clause-many
returns-clause-many g c =
    let ends = c.into_par_iter.ensures in
    let n = c.div_ceil.result in
    let whole : n - 0 ≡ n = omega arith in
    IfOk-then c.collect.result _ _ c.collect.ensures (λ v h.
    let places = h.1.1 ∙ ap (λ it. nat_range it.base.start it.base.end) c.map.ensures.base ∙ ap (λ it. nat_range it.start it.end) c.with_min_len.ensures.base
    ∙ (λ i. nat_range (ends.0 i) (ends.1 i)) ∙ ap (range_with_len 0) whole in
    let are = zipped c.args.tower.now c.map.result.f.1.now c.args.closed.now c.map.result.f.2.now n h.1.0 h.0 v.items
    (ap (λ f. f.1.now) c.map.ensures.f) (ap (λ f. f.2.now) c.map.ensures.f) places h.2 h.1.2 in
    omega (arith, are.0, c.div_ceil.ensures, c.len.ensures.length))

pub returns-clause-each : goal.returns-clause-each
returns-clause-each g c =
    let ends = c.into_par_iter.ensures in
    let n = c.div_ceil.result in
    let whole : n - 0 ≡ n = omega arith in
    IfOk-then c.collect.result _ _ c.collect.ensures (λ v h.
    let places = h.1.1 ∙ ap (λ it. nat_range it.base.start it.base.end) c.map.ensures.base ∙ ap (λ it. nat_range it.start it.end) c.with_min_len.ensures.base
    ∙ (λ i. nat_range (ends.0 i) (ends.1 i)) ∙ ap (range_with_len 0) whole in
    let are = zipped c.args.tower.now c.map.result.f.1.now c.args.closed.now c.map.result.f.2.now n h.1.0 h.0 v.items
    (ap (λ f. f.1.now) c.map.ensures.f) (ap (λ f. f.2.now) c.map.ensures.f) places h.2 h.1.2 in
    are.1)
