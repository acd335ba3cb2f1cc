use Rattle.words.proofs.Arguments.{no_status, some_status}
use Rattle.words.proofs.demand.status_in.Goals as goal

pub returns-in-Ok : goal.returns-in-Ok
returns-in-Ok c =
    let read = c.in-Ok.ensures.value.0 in
    some_status c.args.text.now c.in-Ok.status read.0.0 read.1 (rw (read.1) read.0.1)

pub returns-in-Err : goal.returns-in-Err
returns-in-Err c = no_status c.args.text.now c.in-Err.field-0 c.in-Err.ensures.value.0
