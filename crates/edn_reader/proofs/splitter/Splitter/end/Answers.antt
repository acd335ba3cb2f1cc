use Rattle.std.proofs.Common.{sym, ◌∙◌}
use Rattle.edn_reader.proofs.Splitting.{ends_element, ends_text, ends_fault}
use Rattle.edn_reader.specs.contracts.splitter.Splitter.{the_view}
use Rattle.edn_reader.proofs.splitter.Splitter.end.Goals as goal

pub returns-in-Ok-Some-clause-ends : goal.returns-in-Ok-Some-clause-ends
returns-in-Ok-Some-clause-ends c =
    let old = the_view c.self.inside in
    let reads = rw c.in-Ok-Some.field-0-is at c.in-Ok-Some.ensures in
    rw (← c.self.view_is, c.nothing-self-inside.ensures) (ends_element old c.in-Ok-Some.span c.read_end.new.nesting reads.reads reads.place)

pub returns-in-Ok-None-clause-ends : goal.returns-in-Ok-None-clause-ends
returns-in-Ok-None-clause-ends c =
    let old = the_view c.self.inside in
    let reads = rw c.in-Ok-None.field-0-is at c.in-Ok-None.ensures in
    rw (← c.self.view_is, c.nothing-self-inside-in-Ok-None.ensures) (ends_text old c.read_end.new.nesting reads.reads reads.place)

pub returns-in-None-clause-ends : goal.returns-in-None-clause-ends
returns-in-None-clause-ends c =
    let old = the_view c.self.inside in
    rw (← c.self.view_is) (ends_fault old c.in-Err.fault c.read_end.new.nesting (sym c.wanted_at.ensures ∙ c.in-None.is) c.in-Err.ensures.reads)
