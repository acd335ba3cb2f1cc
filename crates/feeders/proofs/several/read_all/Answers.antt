use Prim.Native.Nat.{ℕ}
use mathlib.Core.List.{[], ◌∷◌}
use base.Fml.{Lft}
use mir.Syntax.{named}
use denote.Ref.{NamedLft, ShrRef}
use denote.Param.Send.{IsSync, shr_sync}
use Rattle.std.proofs.Common.{◌<◌, sym, subst, rules, ◌∙◌}
use Rattle.std.proofs.alloc.Global.TheSendSync as alloc
use Rattle.jepsen_form.proofs.item.MomentField.TheSendSync as field
use Rattle.shards.proofs.Crosses.{auditor_sync}
use Rattle.tower_file.proofs.tower.Tower.TheSendSync as tower
use Rattle.feeders.proofs.pages.Pages.TheSendSync as pages
use Rattle.std.specs.contracts.alloc.Global as Global
use Rattle.jepsen_form.specs.contracts.item.MomentField as MomentField
use Rattle.shards.specs.contracts.auditor.Auditor as Auditor
use Rattle.tower_file.specs.contracts.tower.Tower as Tower
use Rattle.feeders.specs.contracts.pages.Pages as Pages
use Rattle.feeders.specs.contracts.several.read_all.{O-row, R-row, G-row}
use Rattle.feeders.proofs.Crosses.{closure_sync}
use Rattle.feeders.specs.Ending.{MayEnd}
use Rattle.feeders.specs.Progress.{IsReadAndFed}
use Rattle.logs.specs.Start.{first_start}
use Rattle.feeders.specs.Setting.{setting_of}
use Rattle.feeders.proofs.Stopping.{first_is}
use Rattle.feeders.proofs.Split.{fed_all, fresh_at, of_given, ok_then}
use Rattle.feeders.proofs.several.read_all.Goals as goal

pub map_vec-requires-after_bounds : goal.map_vec-requires-after_bounds
map_vec-requires-after_bounds g c κs within = λ i pair below is. (
  (c.requires.some, c.requires.of_tower, fresh_at g.O.Opening.plan c.in_ok-pairs.pairs.items c.args.passes.items c.in_ok-pairs.ensures.passes c.requires.fresh i pair below is),
  search rules parts 8,
)

pub returns-clause-fed : goal.returns-clause-fed
returns-clause-fed g c =
    let pairs = c.in_ok-pairs.pairs in
    let ended = c.in_ok-ended.ended in
    let remaining = g.S.Read.remaining in
    ok_then c.gathered.result c.gathered.ensures.all (λ outcomes are.
    fed_all remaining (λ feeder left fed. IsReadAndFed (setting_of g.O.Opening.plan c.args.site.tower.now c.args.site.field (first_start feeder)) left fed) pairs.items c.args.passes.items _ ended.items outcomes.items
    c.in_ok-pairs.ensures.passes (of_given remaining pairs.items c.args.readers.items c.in_ok-pairs.ensures.given) (sym ended.ok.0 ∙ c.in_ok-ended.ensures.len ∙ pairs.ok.0)
    (λ i d below. let one = (c.in_ok-ended.ensures.each i d below).1 in record { pair = one.job; is = one.job_is; fed = one.call.met.0 }) are)

pub map_vec-requires-sync-F : goal.map_vec-requires-sync-F
map_vec-requires-sync-F g c κs within =
    let runtime : IsSync (R-row g.row.O g.row.R g.row.G g.row.S) = search rules parts 8 in
    let gate : IsSync (G-row g.row.O g.row.R g.row.G g.row.S) = search rules parts 8 in
    let at : ℕ → Lft → NamedLft = λ n κ. record { mir = named n; lft = κ } in
    let captured =
    ShrRef (named 8) κs.1.1.1.1.1.1.1.1.0 (R-row g.row.O g.row.R g.row.G g.row.S) ∷
    ShrRef (named 9) κs.1.1.1.1.1.1.1.1.1.0 Global.the_row ∷
    ShrRef (named 10) κs.1.1.1.1.1.1.1.1.1.1.0 (Auditor.the_row (at 4 κs.1.1.1.1.0) (O-row g.row.O g.row.R g.row.G g.row.S) g.O.Opening) ∷
    ShrRef (named 11) κs.1.1.1.1.1.1.1.1.1.1.1.0 (G-row g.row.O g.row.R g.row.G g.row.S) ∷
    ShrRef (named 12) κs.1.1.1.1.1.1.1.1.1.1.1.1.0 Tower.the_row ∷
    ShrRef (named 13) κs.1.1.1.1.1.1.1.1.1.1.1.1.1.0 MomentField.the_row ∷
    ShrRef (named 14) κs.1.1.1.1.1.1.1.1.1.1.1.1.1.1.0 Pages.the_row ∷ [] in
    closure_sync _ captured _ (
      shr_sync _ _ _ runtime,
      (
        shr_sync _ _ _ alloc.the_sync,
        (shr_sync _ _ _ (auditor_sync _ _ _), (shr_sync _ _ _ gate, (shr_sync _ _ _ tower.the_sync, (shr_sync _ _ _ field.the_sync, (shr_sync _ _ _ pages.the_sync, tt))))),
      ),
    )

pub returns-clause-fault : goal.returns-clause-fault
returns-clause-fault g c =
    let pairs = c.in_ok-pairs.pairs in
    let ended = c.in_ok-ended.ended in
    let many = sym ended.ok.0 ∙ c.in_ok-ended.ensures.len ∙ pairs.ok.0 in
    first_is (MayEnd g.O.Opening.plan) ended.items c.gathered.result c.gathered.ensures.first (λ i d below. (c.in_ok-ended.ensures.each i d (subst (λ (n : ℕ). i < n) many below)).1.call.met.1)
