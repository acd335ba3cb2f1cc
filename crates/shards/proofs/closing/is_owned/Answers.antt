use Rattle.std.proofs.Common.{◌<◌, length, arith}
use Rattle.std.proofs.lemmas.List.Elements.{All-contains}
use Rattle.shards.specs.Pass.{PassModel}
use Rattle.shards.specs.Steps.{numbered_entry}
use Rattle.shards.proofs.Starts.{starts_set}
use Rattle.shards.proofs.Strangers.{owned_by}
use Rattle.shards.proofs.closing.is_owned.Goals as goal

pub returns-in-Some-clause-owned : goal.returns-in-Some-clause-owned
returns-in-Some-clause-owned c =
    owned_by c.is_told.result c.args.passes.now c.args.place (numbered_entry c.args.number c.args.entry.now) c.in-Some.pass.now c.requires.apart c.in-Some.ensures.found.1 c.in-Some.ensures.found.0 c.is_told.ensures

pub returns-in-Some-clause-starts : goal.returns-in-Some-clause-starts
returns-in-Some-clause-starts c =
    let below = All-contains (λ (pass : PassModel). pass.feeder < 256) c.args.passes.now c.in-Some.pass.now c.requires.few c.in-Some.ensures.found.1 in
    let within : c.args.entry.now.feeder < length c.args.starts.now = omega (arith, below, c.in-Some.ensures.found.0, c.is_told.array_long) in
    starts_set c.args.passes.now c.args.place c.args.number c.args.starts.now c.in-Some.pass.now c.args.entry.now.feeder c.start_from-start.result c.requires.apart c.requires.starts c.in-Some.ensures.found.1 c.in-Some.ensures.found.0 within
    c.start_from-start.ensures.0
