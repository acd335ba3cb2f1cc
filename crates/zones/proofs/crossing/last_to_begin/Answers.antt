use Rattle.std.proofs.Common.{◌≡◌, [], Option, subst, sym}
use Rattle.std.specs.Prelude.{MatchOption}
use Rattle.intervals.specs.declared.operation.Op.{Op}
use Rattle.zones.specs.Cluster.{cluster_of}
use Rattle.zones.specs.Members.{IsLastToBegin}
use Rattle.zones.proofs.Ends.{last_found}
use Rattle.zones.proofs.crossing.last_to_begin.Goals as goal

pub returns : goal.returns
returns c is recorded distinct =
    let ops = c.args.table.now.ops in
    subst (λ (o : Option Op). MatchOption o (cluster_of ops c.args.value ≡ []) (IsLastToBegin ops c.args.value)) (sym c.began_last.ensures)
    (last_found ops c.args.value distinct c.args.value (recorded.edges c.args.value).write.one c.write_of.result c.last_read.result (c.write_of.ensures recorded distinct) (c.last_read.ensures is distinct))
