use Rattle.std.proofs.Common.{◌≡◌, List, arith, subst, sym}
use Rattle.std.specs.Vec.{with_items}
use Rattle.std.proofs.lemmas.List.{with_items_is}
use Rattle.shards.specs.declared.shard.Shard.{Shard}
use Rattle.shards.specs.Alone.{AreJournals}
use Rattle.shards.specs.Shard.{entries_of_each}
use Rattle.shards.proofs.CallsAlone.{journals_of_shards}
use Rattle.shards.proofs.lone_auditor.LoneAuditor.submit.Goals as goal

pub returns-then-self-register-clause-legal : goal.returns-then-self-register-clause-legal
returns-then-self-register-clause-legal g c =
    let before = subst (AreJournals g.O.Opening.plan) c.self.view_is (journals_of_shards g.O.Opening.plan c.self.inside.shards.items c.self.invariant.0) in
    (before, before)

pub returns-clause-legal : goal.returns-clause-legal
returns-clause-legal g c =
    let shards = c.enter_in-answered.new.shards in
    let kept : (with_items c.self.inside.shards shards).items ≡ shards = with_items_is c.self.inside.shards shards (omega (arith, c.enter_in-answered.ensures.alone.many, c.self.invariant.0.many, c.self.inside.shards.ok.0)) in (
      subst (AreJournals g.O.Opening.plan) c.self.view_is (journals_of_shards g.O.Opening.plan c.self.inside.shards.items c.self.invariant.0),
      subst (λ (held : List Shard). AreJournals g.O.Opening.plan (entries_of_each held)) (sym kept) (journals_of_shards g.O.Opening.plan shards c.enter_in-answered.ensures.alone),
    )
