use Rattle.std.proofs.Common.{◌∙◌, List, refl, sym, subst}
use Rattle.std.proofs.lemmas.Bool.{false≢true}
use Rattle.std.proofs.lemmas.List.{take_all}
use Rattle.shards.specs.Pass.{PassModel}
use Rattle.shards.specs.Closing.{AreItsPasses}
use Rattle.shards.proofs.Passes.{has_found, its_more, not_its}
use Rattle.shards.proofs.fitting.are_its_passes.Goals as goal

pub returns-then-is_some : goal.returns-then-is_some
returns-then-is_some g c = (
  λ never. absurd (false≢true never),
  λ its. absurd (not_its g.O.Opening.plan c.args.passes.now c.loop-i.i c.index-passes-i.result c.loop-i-test.true c.index-passes-i.is
      (has_found c.pass_of.result _ c.index-passes-i.result.feeder (sym c.is_some.ensures ∙ c.if-is_some.true)
      (rw (sym c.feeder.ensures) c.pass_of.ensures.found))
      its),
)

pub loop-i-preserved : goal.loop-i-preserved
loop-i-preserved g c =
    its_more g.O.Opening.plan c.args.passes.now c.loop-i.i c.index-passes-i.result c.loop-i-test.true c.index-passes-i.is c.loop-i.invariant
    (c.is_of.ensures.0 c.if-not-is_of.false)
    (λ has. c.pass_of.ensures.none (sym c.is_some.ensures ∙ c.if-is_some.false) (rw c.feeder.ensures has))

pub returns : goal.returns
returns g c = (λ _. subst (λ (some : List PassModel). AreItsPasses g.O.Opening.plan some) (take_all c.loop-i.i c.args.passes.now c.loop-i-test.false) c.loop-i.invariant, λ _. refl)
