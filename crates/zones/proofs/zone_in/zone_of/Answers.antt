use Rattle.std.proofs.Common.{◌∙◌, ap}
use Rattle.zone_tree.specs.declared.edge.Edge.{Edge}
use Rattle.zones.specs.Cluster.{zone_between}
use Rattle.zone_tree.specs.Edge.{earlier_edge}
use Rattle.zones.proofs.Ends.{written_zone_by_edges}
use Rattle.zones.proofs.zone_in.zone_of.Goals as goal

pub returns : goal.returns
returns c ops value are =
    let edges = c.args.edges.now in
    c.zone_between.ensures
    ∙ (ap (zone_between c.min.result c.max.result) are.same
    ∙ (ap (λ (m : Edge). zone_between m c.max.result value) c.min.ensures
    ∙ (ap (λ (m : Edge). zone_between (earlier_edge edges.write_end edges.read_end) m value) c.max.ensures
    ∙ written_zone_by_edges ops value edges.write_end edges.read_end edges.write_begin edges.read_begin are.write.end are.read.end are.write.begin are.read.begin)))
