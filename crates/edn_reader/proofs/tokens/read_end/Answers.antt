use Rattle.std.proofs.Common.{sym, subst, ◌∙◌}
use Rattle.edn_reader.proofs.Reading.{taken_ends}
use Rattle.edn_reader.proofs.Within.{EndStands, end_same, end_on, end_element, end_fault, end_text, end_open}
use Rattle.edn_reader.proofs.tokens.read_end.Goals.{then-begun-end+in-Ok-None, else-begun-end}
use Rattle.edn_reader.proofs.tokens.read_end.Goals as goal

pub returns-in-Ok-Some-clause-reads : goal.returns-in-Ok-Some-clause-reads
returns-in-Ok-Some-clause-reads c =
    let given = rw (c.in-Ok-Some.field-0-is, c.last.ensures) at c.in-Ok-Some.ensures.gives in
    end_element c.args.end c.args.begun c.in-Ok-Some.span c.args.nesting.now c.take.new.nesting c.if-begun-end.true given.0 (taken_ends _ c.args.begun.start c.args.end c.args.nesting.now c.in-Ok-Some.span given.0)

pub returns-in-Ok-Some-clause-place : goal.returns-in-Ok-Some-clause-place
returns-in-Ok-Some-clause-place c =
    let given = rw c.in-Ok-Some.field-0-is at c.in-Ok-Some.ensures.gives in
    (given.1, c.if-begun-end.true, taken_ends c.last.result c.args.begun.start c.args.end c.args.nesting.now c.in-Ok-Some.span given.0)

pub returns-in-Err-clause-reads : goal.returns-in-Err-clause-reads
returns-in-Err-clause-reads c =
    let gives = rw c.last.ensures at c.in-Err.ensures.gives in
    let memory = rw c.last.ensures at c.in-Err.ensures.memory in
    end_fault c.args.end c.args.begun c.in-Err.fault c.args.nesting.now c.take.new.nesting c.if-begun-end.true gives memory c.in-Err.ensures.open

pub returns-then-has-clause-reads : goal.returns-then-has-clause-reads
returns-then-has-clause-reads c =
    let begun = c.args.begun in
    let opens = c.args.nesting.now in
    let present : EndStands c.args.end begun opens c.if-begun-end.nesting = elim c.if-begun-end.branch [
      | then-begun-end+in-Ok-None w ↦
          let given = rw (w.in-Ok-None.field-0-is, w.last.ensures) at w.in-Ok-None.ensures.gives in
          subst (EndStands c.args.end begun opens) (sym w.nesting-is) (end_on c.args.end begun opens w.take.new.nesting w.if-begun-end.true given)
      | else-begun-end w ↦ subst (EndStands c.args.end begun opens) (sym w.nesting-is) (end_same c.args.end begun opens w.if-begun-end.false)
    ] in
    end_text c.args.end begun opens c.if-begun-end.nesting present (sym c.has.ensures ∙ c.if-has.true)

pub returns-else-has-clause-reads : goal.returns-else-has-clause-reads
returns-else-has-clause-reads c =
    let begun = c.args.begun in
    let opens = c.args.nesting.now in
    let present : EndStands c.args.end begun opens c.if-begun-end.nesting = elim c.if-begun-end.branch [
      | then-begun-end+in-Ok-None w ↦
          let given = rw (w.in-Ok-None.field-0-is, w.last.ensures) at w.in-Ok-None.ensures.gives in
          subst (EndStands c.args.end begun opens) (sym w.nesting-is) (end_on c.args.end begun opens w.take.new.nesting w.if-begun-end.true given)
      | else-begun-end w ↦ subst (EndStands c.args.end begun opens) (sym w.nesting-is) (end_same c.args.end begun opens w.if-begun-end.false)
    ] in
    end_open c.args.end begun opens c.if-begun-end.nesting present (sym c.has.ensures ∙ c.if-has.false)
