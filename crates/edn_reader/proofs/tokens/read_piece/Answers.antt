use Rattle.std.proofs.Common.{◌+◌, drop, arith, length-drop}
use Rattle.edn_reader.proofs.Reading.{taken_ends}
use Rattle.edn_reader.proofs.Resuming.{ahead_whole}
use Rattle.edn_reader.proofs.Within.{piece_anew, piece_on, piece_element, piece_fault, piece_within, wants_begun}
use Rattle.edn_reader.proofs.tokens.read_piece.Goals as goal

pub returns-then-begun-base-clause-reads : goal.returns-then-begun-base-clause-reads
returns-then-begun-base-clause-reads c =
    piece_anew c.args.piece.now c.args.base c.args.begun c.args.nesting.now c.read_tokens.new.nesting c.read_tokens.result c.if-begun-base.true c.read_tokens.ensures.reads

pub overflow_add-token : goal.overflow_add-token
overflow_add-token c =
    let ahead = ahead_whole c.args.begun.part 0 (drop 0 c.args.piece.now) c.in-Whole.found c.in-Whole.ensures in
    omega (arith, ahead.1, length-drop 0 c.args.piece.now, c.requires)

pub read_tokens-requires-in-Ok-None-clause-within : goal.read_tokens-requires-in-Ok-None-clause-within
read_tokens-requires-in-Ok-None-clause-within c =
    let ahead = ahead_whole c.args.begun.part 0 (drop 0 c.args.piece.now) c.in-Whole.found c.in-Whole.ensures in
    omega (arith, ahead.1, length-drop 0 c.args.piece.now)

pub returns-in-Ok-None-clause-reads : goal.returns-in-Ok-None-clause-reads
returns-in-Ok-None-clause-reads c =
    let given = rw c.in-Ok-None.field-0-is at c.in-Ok-None.ensures.gives in
    piece_on c.args.piece.now c.args.base c.args.begun c.in-Whole.found c.args.nesting.now c.take.new.nesting c.read_tokens-in-Ok-None.new.nesting c.read_tokens-in-Ok-None.result c.if-begun-base.false
    c.in-Whole.ensures given c.read_tokens-in-Ok-None.ensures.reads

pub returns-in-Ok-Some-clause-reads : goal.returns-in-Ok-Some-clause-reads
returns-in-Ok-Some-clause-reads c =
    let given = rw c.in-Ok-Some.field-0-is at c.in-Ok-Some.ensures.gives in
    piece_element c.args.piece.now c.args.base c.args.begun c.in-Whole.found c.in-Ok-Some.span c.args.nesting.now c.take.new.nesting c.if-begun-base.false c.in-Whole.ensures given.0

pub returns-in-Ok-Some-clause-between : goal.returns-in-Ok-Some-clause-between
returns-in-Ok-Some-clause-between c =
    let ahead = ahead_whole c.args.begun.part 0 (drop 0 c.args.piece.now) c.in-Whole.found c.in-Whole.ensures in
    let given = rw c.in-Ok-Some.field-0-is at c.in-Ok-Some.ensures.gives in
    let place = taken_ends c.in-Whole.found.token c.args.begun.start (c.args.base + c.in-Whole.found.end) c.args.nesting.now c.in-Ok-Some.span given.0 in
    (given.1, omega (arith, place), omega (arith, ahead.1, length-drop 0 c.args.piece.now, place))

pub returns-in-Err-clause-reads : goal.returns-in-Err-clause-reads
returns-in-Err-clause-reads c =
    piece_fault c.args.piece.now c.args.base c.args.begun c.in-Whole.found c.in-Err.fault c.args.nesting.now c.take.new.nesting c.if-begun-base.false c.in-Whole.ensures c.in-Err.ensures.gives
    c.in-Err.ensures.memory c.in-Err.ensures.open

pub returns-in-Err-clause-wants : goal.returns-in-Err-clause-wants
returns-in-Err-clause-wants c =
    wants_begun c.args.piece.now c.args.base c.args.begun c.in-Whole.found c.in-Err.fault c.args.nesting.now c.take.new.nesting c.in-Whole.ensures c.in-Err.ensures.memory

pub returns-in-Within-clause-reads : goal.returns-in-Within-clause-reads
returns-in-Within-clause-reads c = piece_within c.args.piece.now c.args.base c.args.begun c.in-Within.part c.args.nesting.now c.in-Within.ensures
