use Rattle.std.proofs.Common.{◌∙◌, List, map, subst}
use Rattle.shards.specs.declared.entry.Entry.{Entry}
use Rattle.shards.specs.Closing.{IsClosed}
use Rattle.shards.specs.Alone.{passes_alone}
use Rattle.shards.specs.Shard.{ended_of}
use Rattle.shards.proofs.EndedAlone.{all_ended_alone, closed_alone, journals_left}
use Rattle.shards.proofs.lone_auditor.LoneAuditor.close.Goals as goal

pub new-requires : goal.new-requires
new-requires g c = all_ended_alone g.O.Opening.plan c.self.inside.shards.items c.self.invariant.0

pub returns-clause-journals : goal.returns-clause-journals
returns-clause-journals g c = rw c.new.ensures (journals_left c.self.inside.shards.items ∙ c.self.view_is)

pub returns-clause-closed : goal.returns-clause-closed
returns-clause-closed g c =
    rw c.new.ensures
    (subst (λ (journals : List (List Entry)). IsClosed g.O.Opening.plan (passes_alone g.O.Opening.plan journals) (map ended_of c.self.inside.shards.items)) c.self.view_is
    (closed_alone g.O.Opening.plan c.self.inside.shards.items c.self.invariant.0))
