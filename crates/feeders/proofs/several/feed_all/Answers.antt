use Rattle.std.proofs.Common.{ℕ, ◌<◌, List, Bor, All, IfOk, sym, subst, rules, ◌∙◌}
use mathlib.Core.List.{[], ◌∷◌}
use base.Fml.{Lft}
use mir.Syntax.{named}
use denote.Ref.{NamedLft, ShrRef}
use denote.Param.Send.{IsSync, shr_sync}
use Rattle.feeders.specs.contracts.site.SharedSite as Site
use Rattle.std.proofs.lemmas.List.Elements.{All-from_recursion}
use Rattle.feeders.specs.contracts.several.feed_all.{O-row, R-row, G-row}
use Rattle.feeders.proofs.Crosses.{closure_sync, site_sync}
use Rattle.feeders.specs.Ending.{MayEnd}
use Rattle.feeders.specs.Progress.{AreFed, IsFed}
use Rattle.feeders.specs.Readers.{IsNotOfReading}
use Rattle.logs.specs.Start.{first_start}
use Rattle.feeders.specs.Setting.{setting_of}
use Rattle.feeders.specs.declared.outcome.FeederOutcome.{FeederOutcome}
use Rattle.feeders.proofs.Stopping.{first_is}
use Rattle.feeders.proofs.Split.{fed_all, fed_parts, fresh_at, ok_then}
use Rattle.feeders.proofs.several.feed_all.Given.{Over}
use Rattle.feeders.proofs.several.feed_all.Goals as goal

pub map_vec-requires-after_bounds : goal.map_vec-requires-after_bounds
map_vec-requires-after_bounds g c κs within = λ i pair below is. (
  (c.requires.some, c.requires.of_tower, fresh_at g.O.Opening.plan c.in_ok-pairs.pairs.items c.args.passes.items c.in_ok-pairs.ensures.passes c.requires.fresh i pair below is),
  search rules parts 8,
)

each_is_fed : (g : Over) (c : goal.After-gathered g) → IfOk c.gathered.result (λ outcomes. AreFed g.O.Opening.plan c.args.site.tower.now c.args.site.field c.args.passes.items c.args.traces.now outcomes.items × All (λ fed. IsNotOfReading fed.log) outcomes.items)
each_is_fed g c =
    let pairs = c.in_ok-pairs.pairs in
    let ended = c.in_ok-ended.ended in
    let IsFedOf : ℕ → Bor (List ℕ) → FeederOutcome → Type 0 = λ feeder trace fed. IsFed (setting_of g.O.Opening.plan c.args.site.tower.now c.args.site.field (first_start feeder)) trace.now fed in
    let IsOfText : FeederOutcome → Type 0 = λ fed. IsNotOfReading fed.log in
    ok_then c.gathered.result c.gathered.ensures.all (λ outcomes are.
    let fed = fed_all (λ (trace : Bor (List ℕ)). trace) (λ feeder trace fed. IsFedOf feeder trace fed × IsOfText fed) pairs.items c.args.passes.items c.args.traces.now ended.items outcomes.items
    c.in_ok-pairs.ensures.passes (c.in_ok-pairs.ensures.given ∙ c.in_ok-from_slice.ensures.items) (sym ended.ok.0 ∙ c.in_ok-ended.ensures.len ∙ pairs.ok.0)
    (λ i d below. let one = (c.in_ok-ended.ensures.each i d below).1 in record { pair = one.job; is = one.job_is; fed = one.call.met.0 }) are in
    let both = fed_parts IsFedOf IsOfText c.args.passes.items c.args.traces.now outcomes.items fed in
    (both.0, All-from_recursion IsOfText outcomes.items both.1))

pub returns-clause-fed : goal.returns-clause-fed
returns-clause-fed g c = ok_then c.gathered.result (each_is_fed g c) (λ outcomes both. both.0)

pub returns-clause-by_text : goal.returns-clause-by_text
returns-clause-by_text g c = ok_then c.gathered.result (each_is_fed g c) (λ outcomes both. both.1)

pub map_vec-requires-sync-F : goal.map_vec-requires-sync-F
map_vec-requires-sync-F g c κs within =
    let runtime : IsSync (R-row g.row.O g.row.R g.row.G) = search rules parts 8 in
    let gate : IsSync (G-row g.row.O g.row.R g.row.G) = search rules parts 8 in
    let at : ℕ → Lft → NamedLft = λ n κ. record { mir = named n; lft = κ } in
    let site = Site.the_row (at 10 κs.1.1.1.1.1.1.1.1.1.1.0) (at 11 κs.1.1.1.1.1.1.1.1.1.1.1.0) (at 4 κs.1.1.1.1.0) (O-row g.row.O g.row.R g.row.G) (R-row g.row.O g.row.R g.row.G) (G-row g.row.O g.row.R g.row.G) g.O.Opening in
    closure_sync _ (ShrRef (named 9) κs.1.1.1.1.1.1.1.1.1.0 site ∷ []) _ (shr_sync _ _ site (site_sync _ _ _ _ _ _ _ runtime gate), tt)

pub returns-clause-fault : goal.returns-clause-fault
returns-clause-fault g c =
    let pairs = c.in_ok-pairs.pairs in
    let ended = c.in_ok-ended.ended in
    let many = sym ended.ok.0 ∙ c.in_ok-ended.ensures.len ∙ pairs.ok.0 in
    first_is (MayEnd g.O.Opening.plan) ended.items c.gathered.result c.gathered.ensures.first (λ i d below. (c.in_ok-ended.ensures.each i d (subst (λ (n : ℕ). i < n) many below)).1.call.met.1)
