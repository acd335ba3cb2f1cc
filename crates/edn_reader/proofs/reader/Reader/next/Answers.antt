use Rattle.edn_reader.specs.Taking.{piece_in}
use Rattle.edn_reader.proofs.Views.{last_is_element}
use Rattle.edn_reader.proofs.reader.Reader.next.Goals as goal

pub new-requires-clause-whole : goal.new-requires-clause-whole
new-requires-clause-whole c =
    let input = c.self.inside.input.now in
    let span = c.in-Ok-Some.span in
    let before = c.self.invariant.front in
    let reads = rw c.in-Ok-Some.field-0-is at c.in-Ok-Some.ensures in
    ∣ last_is_element input before.0 (piece_in input span) span.end (reads.reads.2 before.0 before.1).3 ∣₁
