use Rattle.std.proofs.Common.{◌∙◌, sym}
use Rattle.words.proofs.Arguments.{no_integer, some_integer}
use Rattle.words.proofs.keys.initial_named.Goals as goal

pub returns-in-Ok : goal.returns-in-Ok
returns-in-Ok c =
    let read = c.in-Ok.ensures.value.0 in
    some_integer c.args.kind c.args.text.now c.in-Ok.number (sym c.eq.ensures ∙ c.if-eq.false) (sym c.eq-2.ensures ∙ c.if-eq-2.false) read.0.0 read.0.1 read.1

pub returns-in-Err : goal.returns-in-Err
returns-in-Err c = no_integer c.args.kind c.args.text.now c.in-Err.field-0 (sym c.eq.ensures ∙ c.if-eq.false) (sym c.eq-2.ensures ∙ c.if-eq-2.false) c.in-Err.ensures.value.0
