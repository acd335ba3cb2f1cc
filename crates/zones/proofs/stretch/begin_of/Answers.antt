use Rattle.std.proofs.Common.{◌≡◌, true, false, subst, rules}
use Rattle.std.proofs.lemmas.Bool.{both_ways}
use Rattle.intervals.specs.declared.operation.Value.{Value}
use Rattle.zone_tree.specs.declared.edge.Edge.TheVariants.{Before, Never}
use Rattle.zone_tree.specs.Edge.{edge_before}
use Rattle.zones.specs.Faults.{begin_of_write, write_of}
use Rattle.zones.proofs.EdgesOf.{at_itself, begin_by_edge, begin_by_none}
use Rattle.zones.proofs.stretch.begin_of.Goals as goal

pub returns-then-comes_before : goal.returns-then-comes_before
returns-then-comes_before c ops value are =
    let edges = c.args.edges.now in
    let h : edge_before Before edges.write_begin ≡ true = search rules in
    subst (λ (u : Value). edges.write_begin ≡ begin_of_write (write_of ops u)) are.same
    (begin_by_edge ops edges.value edges.write_begin edges.write_end (at_itself ops value edges are).write h)

pub returns-else-comes_before : goal.returns-else-comes_before
returns-else-comes_before c ops value are =
    let edges = c.args.edges.now in
    let h : edge_before Before edges.write_begin ≡ false = search rules in
    subst (λ (u : Value). Never ≡ begin_of_write (write_of ops u)) are.same
    (begin_by_none ops edges.value edges.write_begin edges.write_end (at_itself ops value edges are).write (both_ways (edge_before Before edges.write_begin) h))
