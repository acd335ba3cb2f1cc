use Rattle.edn_reader.proofs.Within.{whole_element, whole_fault, whole_memory, whole_end, whole_end_memory}
use Rattle.edn_reader.proofs.reader.read_element.Goals as goal

pub returns-in-Ok-Ended-clause-reads : goal.returns-in-Ok-Ended-clause-reads
returns-in-Ok-Ended-clause-reads c =
    let said = rw c.in-Ok-Ended.field-0-is at c.in-Ok-Ended.ensures in
    whole_element c.args.input.now c.args.from c.args.nesting.now c.read_tokens.new.nesting c.in-Ok-Ended.span c.requires.none_open said.reads said.between

pub returns-in-Ok-Within-clause-reads : goal.returns-in-Ok-Within-clause-reads
returns-in-Ok-Within-clause-reads c =
    let said = rw c.in-Ok-Within.field-0-is at c.in-Ok-Within.ensures in
    whole_end c.args.input.now c.args.from c.args.nesting.now c.read_tokens.new.nesting c.read_end.new.nesting c.in-Ok-Within.begun c.read_end.result c.requires.none_open said.reads said.between
    c.read_end.ensures.reads c.read_end.ensures.place

pub returns-in-Ok-Within-clause-memory : goal.returns-in-Ok-Within-clause-memory
returns-in-Ok-Within-clause-memory c =
    let said = rw c.in-Ok-Within.field-0-is at c.in-Ok-Within.ensures in
    whole_end_memory c.args.input.now c.args.from c.args.nesting.now c.read_tokens.new.nesting c.read_end.new.nesting c.in-Ok-Within.begun c.read_end.result c.requires.none_open said.reads c.read_end.ensures.reads

pub returns-in-Err-clause-reads : goal.returns-in-Err-clause-reads
returns-in-Err-clause-reads c = whole_fault c.args.input.now c.args.from c.args.nesting.now c.read_tokens.new.nesting c.in-Err.fault c.requires.none_open c.in-Err.ensures.reads

pub returns-in-Err-clause-memory : goal.returns-in-Err-clause-memory
returns-in-Err-clause-memory c = whole_memory c.args.input.now c.args.from c.args.nesting.now c.read_tokens.new.nesting c.in-Err.fault c.requires.none_open c.in-Err.ensures.reads
