use Rattle.std.proofs.Common.{◌↔◌, Bool, sym, subst}
use Rattle.std.specs.Prelude.{IsTrue}
use Rattle.intervals.specs.declared.operation.Value.{Value}
use Rattle.zones.specs.Members.{HasWrite}
use Rattle.zones.proofs.EdgesOf.{at_itself, written_by_edge}
use Rattle.zones.proofs.zone_in.is_written.Goals as goal

pub returns : goal.returns
returns c ops value are =
    let edges = c.args.edges.now in
    subst (λ (u : Value). IsTrue c.comes_before.result ↔ HasWrite ops u) are.same
    (subst (λ (t : Bool). IsTrue t ↔ HasWrite ops edges.value) (sym c.comes_before.ensures)
    (written_by_edge ops edges.value edges.write_begin edges.write_end (at_itself ops value edges are).write))
