use Rattle.words.proofs.Arguments.{no_count, some_count}
use Rattle.words.proofs.check.count_in.Goals as goal

pub returns-in-Ok : goal.returns-in-Ok
returns-in-Ok c =
    let read = c.in-Ok.ensures.value.0 in
    some_count c.args.text.now c.in-Ok.count read.0.0 read.1 (rw (read.1) read.0.1)

pub returns-in-Err : goal.returns-in-Err
returns-in-Err c = no_count c.args.text.now c.in-Err.field-0 c.in-Err.ensures.value.0
