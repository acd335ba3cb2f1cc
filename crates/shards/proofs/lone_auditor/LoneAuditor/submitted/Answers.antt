use Rattle.std.proofs.Common.{◌∙◌, List, ap, length}
use Rattle.std.proofs.lemmas.Option.{slice_get_past}
use Rattle.shards.specs.declared.entry.Entry.{Entry}
use Rattle.shards.specs.Pass.{own_entries}
use Rattle.shards.specs.Alone.{pass_alone}
use Rattle.shards.proofs.CallsAlone.{count_alone, count_of_none, found_at}
use Rattle.shards.proofs.lone_auditor.LoneAuditor.submitted.Goals as goal

pub count-requires-clause-kept : goal.count-requires-clause-kept
count-requires-clause-kept g c =
    (c.self.invariant.0.each c.args.shard c.in-Some.shard.now
    (found_at c.self.inside.shards.items c.args.shard c.in-Some.shard.now (rw c.deref.ensures.value at c.in-Some.ensures.lookup.3.0) (rw c.deref.ensures.value at c.in-Some.ensures.lookup.1))).1

pub returns-in-Some : goal.returns-in-Some
returns-in-Some g c =
    c.count.ensures
    ∙ count_alone g.O.Opening.plan c.self.inside.shards.items c.args.feeder c.args.shard c.in-Some.shard.now
    (found_at c.self.inside.shards.items c.args.shard c.in-Some.shard.now (rw c.deref.ensures.value at c.in-Some.ensures.lookup.3.0) (rw c.deref.ensures.value at c.in-Some.ensures.lookup.1))
    ∙ ap (λ (journals : List (List Entry)). length (own_entries (pass_alone g.O.Opening.plan c.args.feeder journals) c.args.shard)) c.self.view_is

pub returns-in-None : goal.returns-in-None
returns-in-None g c =
    count_of_none g.O.Opening.plan c.self.inside.shards.items c.args.feeder c.args.shard (slice_get_past c.self.inside.shards.items c.args.shard (rw c.deref.ensures.value at c.in-None.ensures.lookup.3))
    ∙ ap (λ (journals : List (List Entry)). length (own_entries (pass_alone g.O.Opening.plan c.args.feeder journals) c.args.shard)) c.self.view_is
