use Rattle.std.proofs.Common.{◌+◌, arith}
use Rattle.edn_reader.proofs.Reading.{taken_ends}
use Rattle.edn_reader.proofs.Resuming.{found_whole}
use Rattle.edn_reader.proofs.Within.{led_nowhere, led_on, reads_element, reads_fault, reads_within, reads_all}
use Rattle.edn_reader.proofs.tokens.read_tokens.Goals as goal

pub loop-at-init : goal.loop-at-init
loop-at-init c = record { low = omega arith; high = c.requires.within; led = led_nowhere c.args.piece.now c.args.base c.args.from c.args.nesting.now }

pub overflow_add-token : goal.overflow_add-token
overflow_add-token c =
    let found = found_whole c.args.piece.now c.loop-at.at c.in-Whole.found c.loop-at-test.true c.in-Whole.ensures in
    omega (arith, found.1, c.requires.fits)

pub pass_plain-at-requires : goal.pass_plain-at-requires
pass_plain-at-requires c = (found_whole c.args.piece.now c.loop-at.at c.in-Whole.found c.loop-at-test.true c.in-Whole.ensures).1

pub loop-at-smaller : goal.loop-at-smaller
loop-at-smaller c =
    let found = found_whole c.args.piece.now c.loop-at.at c.in-Whole.found c.loop-at-test.true c.in-Whole.ensures in
    omega (arith, found.2, c.pass_plain-at.ensures.after, c.pass_plain-at.ensures.within, c.loop-at-test.true)

pub loop-at-preserved : goal.loop-at-preserved
loop-at-preserved c =
    let found = found_whole c.args.piece.now c.loop-at.at c.in-Whole.found c.loop-at-test.true c.in-Whole.ensures in
    let given = rw c.in-Ok-None.field-0-is at c.in-Ok-None.ensures.gives in
    record {
      low = omega (arith, c.loop-at.invariant.low, found.2, c.pass_plain-at.ensures.after);
      high = c.pass_plain-at.ensures.within;
      led = led_on c.args.piece.now c.args.base c.args.from c.loop-at.at c.pass_plain-at.result c.in-Whole.found c.args.nesting.now c.loop-at.nesting c.take.new.nesting c.pass_plain-at.new.nesting
          c.loop-at.invariant.led c.loop-at-test.true c.in-Whole.ensures given c.pass_plain-at.ensures.leads;
    }

pub returns-in-Ok-Some-clause-reads : goal.returns-in-Ok-Some-clause-reads
returns-in-Ok-Some-clause-reads c =
    let given = rw c.in-Ok-Some.field-0-is at c.in-Ok-Some.ensures.gives in
    reads_element c.args.piece.now c.args.base c.args.from c.loop-at.at c.in-Whole.found c.in-Ok-Some.span c.args.nesting.now c.loop-at.nesting c.take.new.nesting
    c.loop-at.invariant.led c.loop-at-test.true c.in-Whole.ensures given.0

pub returns-in-Ok-Some-clause-between : goal.returns-in-Ok-Some-clause-between
returns-in-Ok-Some-clause-between c =
    let found = found_whole c.args.piece.now c.loop-at.at c.in-Whole.found c.loop-at-test.true c.in-Whole.ensures in
    let given = rw c.in-Ok-Some.field-0-is at c.in-Ok-Some.ensures.gives in
    let place = taken_ends c.in-Whole.found.token (c.args.base + c.loop-at.at) (c.args.base + c.in-Whole.found.end) c.loop-at.nesting c.in-Ok-Some.span given.0 in
    (given.1, omega (arith, c.loop-at.invariant.low, found.2, place), omega (arith, found.1, place))

pub returns-in-Err-clause-reads : goal.returns-in-Err-clause-reads
returns-in-Err-clause-reads c =
    reads_fault c.args.piece.now c.args.base c.args.from c.loop-at.at c.in-Whole.found c.in-Err.fault c.args.nesting.now c.loop-at.nesting c.take.new.nesting
    c.loop-at.invariant.led c.loop-at-test.true c.in-Whole.ensures c.in-Err.ensures.gives c.in-Err.ensures.memory c.in-Err.ensures.open

pub returns-in-Within-clause-reads : goal.returns-in-Within-clause-reads
returns-in-Within-clause-reads c =
    reads_within c.args.piece.now c.args.base c.args.from c.loop-at.at c.in-Within.part c.args.nesting.now c.loop-at.nesting c.loop-at.invariant.led c.loop-at-test.true c.in-Within.ensures

pub returns-clause-reads : goal.returns-clause-reads
returns-clause-reads c =
    reads_all c.args.piece.now c.args.base c.args.from c.loop-at.at c.args.nesting.now c.loop-at.nesting c.loop-at.invariant.led (omega (arith, c.loop-at.invariant.high, c.loop-at-test.false))
