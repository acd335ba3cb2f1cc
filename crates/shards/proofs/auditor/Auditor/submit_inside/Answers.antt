use Rattle.shards.proofs.Locked.{refused, submitted}
use Rattle.shards.proofs.auditor.Auditor.submit_inside.Goals as goal

pub returns-clause-submitted : goal.returns-clause-submitted
returns-clause-submitted g c =
    submitted g.O.Opening.plan c.args.pass.now c.args.sharded.register c.args.edit.now c.submit-answered.result c.deref_mut.result.now c.submit-answered.new.self c.requires.pass c.requires.known (cc) c.submit-answered.ensures.journal c.submit-answered.ensures.of_shard c.submit-answered.ensures.receipt c.submit-answered.ensures.change c.submit-answered.ensures.keeping

pub returns-clause-refused : goal.returns-clause-refused
returns-clause-refused g c =
    refused g.O.Opening.plan c.args.pass.now c.submit-answered.new.pass c.args.sharded.register.0 c.submit-answered.result c.deref_mut.result.now c.submit-answered.new.self c.requires.pass c.requires.known (cc) c.submit-answered.ensures.of_shard c.submit-answered.ensures.refused c.submit-answered.ensures.err
