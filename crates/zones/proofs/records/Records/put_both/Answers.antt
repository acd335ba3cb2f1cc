use Rattle.std.proofs.Common.{◌∙◌, ap}
use Rattle.zones.specs.declared.edges.Edges.{Edges}
use Rattle.zones.specs.Records.{put_at}
use Rattle.zones.proofs.Recorded.{records_after}
use Rattle.zones.proofs.records.Records.put_both.Goals as goal

pub returns-clause-records : goal.returns-clause-records
returns-clause-records c before after old new are change edges =
    records_after before old new after change c.args.self.now c.put_in_some-2.new.self c.args.edges.now are
    (c.put_in_some-2.ensures.filled (c.put_in_some.ensures.filled are.filled)) edges
    (λ v. c.put_in_some-2.ensures.edges v ∙ ap (λ (e : Edges). put_at c.args.edges.now.1 v e) (c.put_in_some.ensures.edges v))
