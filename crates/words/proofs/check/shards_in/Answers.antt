use Rattle.words.proofs.Arguments.{no_shards, some_shards}
use Rattle.words.proofs.check.shards_in.Goals as goal

pub returns-then-shards-le64-clause-asks : goal.returns-then-shards-le64-clause-asks
returns-then-shards-le64-clause-asks c =
    let read = c.in-Ok.ensures.value.0 in
    some_shards c.args.text.now c.in-Ok.shards read.0.0 read.1 c.if-shards-ge1.true c.if-shards-le64.true

pub returns-in-Err-clause-asks : goal.returns-in-Err-clause-asks
returns-in-Err-clause-asks c = no_shards c.args.text.now c.in-Err.field-0 c.in-Err.ensures.value.0
