use Rattle.shards.proofs.CallsAlone.{alone_after, entered_after, journals_after, journals_as_before, register_here, shard_got}
use Rattle.shards.proofs.lone_auditor.enter_in.Goals as goal

pub enter-answered-requires-clause-kept : goal.enter-answered-requires-clause-kept
enter-answered-requires-clause-kept g c = (shard_got g.O.Opening.plan c.args.shards.now c.args.register.0 c.index-shards-at.result c.requires.alone).of_plan

pub enter-answered-requires-clause-here : goal.enter-answered-requires-clause-here
enter-answered-requires-clause-here g c =
    register_here g.O.Opening.plan c.args.shards.now c.args.register.0 _ c.requires.alone (shard_got g.O.Opening.plan c.args.shards.now c.args.register.0 c.index-shards-at.result c.requires.alone)

pub returns-clause-alone : goal.returns-clause-alone
returns-clause-alone g c =
    let e = c.enter-answered.ensures in
    alone_after g.O.Opening.plan c.args.shards.now _ c.args.feeder c.args.register c.args.edit.now c.enter-answered.result _ c.enter-answered.new.self c.requires.alone
    (shard_got g.O.Opening.plan c.args.shards.now c.args.register.0 c.index-shards-at.result c.requires.alone)
    (record { kept = e.kept; journal = e.journal; replied = e.answered; receipt = e.receipt; change = e.change; err = e.err })

pub returns-clause-entered : goal.returns-clause-entered
returns-clause-entered g c =
    let e = c.enter-answered.ensures in
    entered_after g.O.Opening.plan c.args.shards.now c.args.feeder c.args.register c.args.edit.now c.enter-answered.result _ c.enter-answered.new.self c.requires.feeder c.requires.alone
    (shard_got g.O.Opening.plan c.args.shards.now c.args.register.0 c.index-shards-at.result c.requires.alone)
    (record { kept = e.kept; journal = e.journal; replied = e.answered; receipt = e.receipt; change = e.change; err = e.err })

pub returns-clause-journals : goal.returns-clause-journals
returns-clause-journals g c =
    let e = c.enter-answered.ensures in
    journals_after g.O.Opening.plan c.args.shards.now _ c.args.feeder c.args.register c.args.edit.now c.enter-answered.result _ c.enter-answered.new.self
    (shard_got g.O.Opening.plan c.args.shards.now c.args.register.0 c.index-shards-at.result c.requires.alone)
    (record { kept = e.kept; journal = e.journal; replied = e.answered; receipt = e.receipt; change = e.change; err = e.err })

pub returns-clause-err : goal.returns-clause-err
returns-clause-err g c =
    let e = c.enter-answered.ensures in
    journals_as_before g.O.Opening.plan c.args.shards.now _ c.args.feeder c.args.register c.args.edit.now c.enter-answered.result _ c.enter-answered.new.self
    (shard_got g.O.Opening.plan c.args.shards.now c.args.register.0 c.index-shards-at.result c.requires.alone)
    (record { kept = e.kept; journal = e.journal; replied = e.answered; receipt = e.receipt; change = e.change; err = e.err })
