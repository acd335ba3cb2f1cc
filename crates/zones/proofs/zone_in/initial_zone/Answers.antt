use Rattle.std.proofs.Common.{◌∙◌, ap}
use Rattle.zone_tree.specs.declared.edge.Edge.TheVariants.{Before}
use Rattle.zones.specs.declared.edges.Edges.{Edges}
use Rattle.zones.specs.Cluster.{zone_between}
use Rattle.zones.specs.Records.{edges_at}
use Rattle.zones.proofs.Ends.{initial_zone_by_edge}
use Rattle.zones.proofs.zone_in.initial_zone.Goals as goal

pub returns : goal.returns
returns c ops are none =
    let edges = edges_at c.args.records.now c.args.initial in
    c.zone_between.ensures
    ∙ (ap (λ (e : Edges). zone_between Before e.read_begin c.args.initial) c.edges_at.ensures
    ∙ initial_zone_by_edge ops c.args.initial edges.read_begin none (are.edges c.args.initial).read.begin)
