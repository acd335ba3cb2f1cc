use Rattle.std.proofs.Common.{Bool, Err, sym, subst, ◌∙◌}
use Rattle.edn_reader.specs.Splitting.{IsFull}
use Rattle.edn_reader.proofs.Splitting.{takes_never, takes_element, takes_full, takes_within, takes_fault, takes_before, takes_there, is_wanted}
use Rattle.edn_reader.specs.contracts.splitter.Splitter.{the_view}
use Rattle.edn_reader.proofs.splitter.Splitter.take.Goals as goal

pub returns-in-Some-clause-takes : goal.returns-in-Some-clause-takes
returns-in-Some-clause-takes c =
    let old = the_view c.self.inside in
    rw (← c.self.view_is) (takes_never c.args.piece.now old old (Err c.in-Some.fault) c.in-Some.fault c.in-Some.is)

pub returns-in-Ok-Ended-clause-takes : goal.returns-in-Ok-Ended-clause-takes
returns-in-Ok-Ended-clause-takes c =
    let old = the_view c.self.inside in
    let said = rw c.in-Ok-Ended.field-0-is at c.in-Ok-Ended.ensures in
    rw (← c.self.view_is, c.nothing-self-inside.ensures) (takes_element c.args.piece.now old c.in-Ok-Ended.span c.read_piece.new.nesting said.reads said.between)

pub returns-then-is_full-clause-takes : goal.returns-then-is_full-clause-takes
returns-then-is_full-clause-takes c =
    let old = the_view c.self.inside in
    let said = rw c.in-Ok-Within.field-0-is at c.in-Ok-Within.ensures in
    let full = subst (λ (t : Bool). IsFull t c.in-Ok-Within.begun c.read_piece.new.nesting) c.if-is_full.true c.is_full.ensures in
    rw (← c.self.view_is) (takes_full c.args.piece.now old c.in-Ok-Within.begun c.read_piece.new.nesting full said.reads)

pub returns-else-is_full-clause-takes : goal.returns-else-is_full-clause-takes
returns-else-is_full-clause-takes c =
    let old = the_view c.self.inside in
    let said = rw c.in-Ok-Within.field-0-is at c.in-Ok-Within.ensures in
    let few = subst (λ (t : Bool). IsFull t c.in-Ok-Within.begun c.read_piece.new.nesting) c.if-is_full.false c.is_full.ensures in
    rw (← c.self.view_is) (takes_within c.args.piece.now old c.in-Ok-Within.begun c.read_piece.new.nesting few said.reads)

pub returns-in-None-clause-takes : goal.returns-in-None-clause-takes
returns-in-None-clause-takes c =
    let old = the_view c.self.inside in
    rw (← c.self.view_is) (takes_fault c.args.piece.now old c.in-Err.fault c.read_piece.new.nesting (sym c.wanted_at.ensures ∙ c.in-None.is) c.in-Err.ensures.reads)

pub returns-then-place-base-clause-takes : goal.returns-then-place-base-clause-takes
returns-then-place-base-clause-takes c =
    let old = the_view c.self.inside in
    let said = rw (is_wanted c.in-Err.fault c.in-Some-wanted_at.place (sym c.wanted_at.ensures ∙ c.in-Some-wanted_at.is)) at c.in-Err.ensures in
    rw (← c.self.view_is) (takes_before c.args.piece.now old c.in-Some-wanted_at.place c.read_piece.new.nesting c.if-place-base.true said.wants said.reads)

pub returns-else-place-base-clause-takes : goal.returns-else-place-base-clause-takes
returns-else-place-base-clause-takes c =
    let old = the_view c.self.inside in
    let said = rw (is_wanted c.in-Err.fault c.in-Some-wanted_at.place (sym c.wanted_at.ensures ∙ c.in-Some-wanted_at.is)) at c.in-Err.ensures in
    rw (← c.self.view_is, c.nothing-self-inside-in-Some-wanted_at.ensures) (takes_there c.args.piece.now old c.in-Some-wanted_at.place c.read_piece.new.nesting c.if-place-base.false said.reads)
