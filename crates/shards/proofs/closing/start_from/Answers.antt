use Rattle.shards.specs.Pass.{own_entries}
use Rattle.shards.proofs.Starts.{past_of_number, starts_found, starts_past}
use Rattle.shards.proofs.closing.start_from.Goals as goal

pub returns-in_default : goal.returns-in_default
returns-in_default c =
    starts_found (own_entries c.args.pass.now c.args.shard) c.args.number c.loop-start.start c.in-Some.own c.in-Some.ensures.rises c.loop-start.invariant c.in-Some.ensures.number c.if-own-number.false

pub returns-in_default-2 : goal.returns-in_default-2
returns-in_default-2 c =
    starts_past (own_entries c.args.pass.now c.args.shard) c.args.number c.loop-start.start c.loop-start.invariant (past_of_number (own_entries c.args.pass.now c.args.shard) c.loop-start.start (c.in_default.ensures.number))
