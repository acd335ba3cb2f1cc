use Rattle.std.proofs.Common.{◌≡◌, ◌∙◌, false, sym, ap, subst, rules}
use Rattle.std.specs.Prelude.{option_copied}
use Rattle.intervals.specs.Operation.{IsJudgedRead}
use Rattle.zones.specs.Cluster.{edge_of_end}
use Rattle.zone_tree.specs.Edge.{earlier_edge}
use Rattle.zones.specs.Edges.{read_part}
use Rattle.zones.specs.Members.{IsLeastEnd}
use Rattle.zones.proofs.EdgesOf.{edges_apart, end_more, end_same}
use Rattle.zones.proofs.edges.read_end_after.Goals as goal

pub returns-then-is_ended_by : goal.returns-then-is_ended_by
returns-then-is_ended_by c ops later are change members = c.read_end.ensures later members

pub returns-in-Some : goal.returns-in-Some
returns-in-Some c ops later are change members =
    let edges = c.args.before.now in
    let read = c.in-Some.read.now in
    let apart : c.is_ended_by.result ≡ false = search rules in
    subst (IsLeastEnd IsJudgedRead later edges.value) (sym (c.min.ensures ∙ ap (earlier_edge edges.read_end) c.edge_of_end.ensures))
    (end_more ops c.args.old.now c.args.new.now later change edges.value edges.read_end
    (edges_apart (λ op. edge_of_end op.end) edges.read_end (read_part edges.value c.args.old.now) (c.is_ended_by.ensures apart))
    read (sym c.read_in.ensures ∙ ap option_copied c.in-Some.is) are.read.end)

pub returns-in-None : goal.returns-in-None
returns-in-None c ops later are change members =
    let edges = c.args.before.now in
    let apart : c.is_ended_by.result ≡ false = search rules in
    end_same ops c.args.old.now c.args.new.now later change edges.value edges.read_end
    (edges_apart (λ op. edge_of_end op.end) edges.read_end (read_part edges.value c.args.old.now) (c.is_ended_by.ensures apart))
    (sym c.read_in.ensures ∙ ap option_copied c.in-None.is) are.read.end
