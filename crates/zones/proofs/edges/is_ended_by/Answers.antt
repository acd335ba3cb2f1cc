use Rattle.std.proofs.Common.{◌≡◌, ◌∙◌, false, Option, sym, ap, subst}
use Rattle.std.specs.Prelude.{IfSome, option_copied}
use Rattle.intervals.specs.declared.operation.Op.{Op}
use Rattle.zone_tree.specs.declared.edge.Edge.{Edge}
use Rattle.zone_tree.specs.Edge.{same_edge}
use Rattle.zones.specs.Cluster.{edge_of_end}
use Rattle.zones.proofs.edges.is_ended_by.Goals as goal

pub returns-in-Some : goal.returns-in-Some
returns-in-Some c none =
    let end = c.args.edges.now.read_end in
    subst (λ (o : Option Op). IfSome o (λ read. same_edge (edge_of_end read.end) end ≡ false)) (sym (ap option_copied c.in-Some.is) ∙ c.read_in.ensures)
    (ap (λ (e : Edge). same_edge e end) (sym c.edge_of_end.ensures) ∙ (sym c.is_same.ensures ∙ none))

pub returns-in-None : goal.returns-in-None
returns-in-None c none =
    let end = c.args.edges.now.read_end in
    subst (λ (o : Option Op). IfSome o (λ read. same_edge (edge_of_end read.end) end ≡ false)) (sym (ap option_copied c.in-None.is) ∙ c.read_in.ensures) tt
