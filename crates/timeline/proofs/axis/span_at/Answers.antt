use Rattle.std.proofs.Common.{arith, refl}
use Rattle.std.proofs.lemmas.List.Sorted.{Contains-permutation}
use Rattle.std.proofs.lemmas.Option.{slice_get_read}
use Rattle.timeline.specs.Axis.{begin_mark, marks_from}
use Rattle.timeline.proofs.InOrder.{begin_present, end_among_all, span_there}
use Rattle.timeline.proofs.axis.span_at.Goals as goal

pub span_of-requires-clause-begin : goal.span_of-requires-clause-begin
span_of-requires-clause-begin c =
    let number = c.args.number in
    let op = c.in-Some.op.now in
    let present = slice_get_read c.args.ops.now _ number op refl c.requires.within c.in-Some.ensures.lookup.1 in
    Contains-permutation (marks_from 0 c.args.ops.now) c.args.marks.now (begin_mark number op) c.requires.marks.each_once (begin_present 0 number number c.args.ops.now op (omega arith) present)

pub span_of-requires-clause-end : goal.span_of-requires-clause-end
span_of-requires-clause-end c =
    let number = c.args.number in
    let op = c.in-Some.op.now in
    let present = slice_get_read c.args.ops.now _ number op refl c.requires.within c.in-Some.ensures.lookup.1 in
    end_among_all c.args.ops.now c.args.marks.now number op c.requires.marks present

pub returns : goal.returns
returns c =
    let number = c.args.number in
    let op = c.in-Some.op.now in
    let present = slice_get_read c.args.ops.now _ number op refl c.requires.within c.in-Some.ensures.lookup.1 in
    span_there c.args.ops.now c.args.marks.now number op c.span_of.result present c.span_of.ensures
