use Rattle.shards.proofs.CallsAlone.{register_here, shard_read, standing_in}
use Rattle.shards.proofs.lone_auditor.answer_in.Goals as goal

pub answer-requires-clause-kept : goal.answer-requires-clause-kept
answer-requires-clause-kept g c = (shard_read g.O.Opening.plan c.args.shards.now c.args.register.0 c.index-shards-at.result c.requires.alone c.index-shards-at.is).of_plan

pub answer-requires-clause-here : goal.answer-requires-clause-here
answer-requires-clause-here g c =
    register_here g.O.Opening.plan c.args.shards.now c.args.register.0 c.index-shards-at.result c.requires.alone
    (shard_read g.O.Opening.plan c.args.shards.now c.args.register.0 c.index-shards-at.result c.requires.alone c.index-shards-at.is)

pub returns : goal.returns
returns g c =
    standing_in g.O.Opening.plan c.args.shards.now c.args.register.0 c.index-shards-at.result c.answer.result c.requires.alone
    (shard_read g.O.Opening.plan c.args.shards.now c.args.register.0 c.index-shards-at.result c.requires.alone c.index-shards-at.is) c.answer.ensures
