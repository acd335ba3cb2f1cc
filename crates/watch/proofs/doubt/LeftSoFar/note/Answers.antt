use Rattle.std.proofs.Common.{List, ◌++◌, ap, ◌∙◌}
use Rattle.watch.specs.declared.doubt.LeftElement.{LeftElement}
use Rattle.watch.specs.Doubt.{kept_at}
use Rattle.watch.proofs.Doubting.{given, left_more_by, left_same, not_given, on_ok_then}
use Rattle.watch.proofs.doubt.LeftSoFar.note.Goals as goal

pub returns-in-Some : goal.returns-in-Some
returns-in-Some c =
    left_more_by c.note_element.result c.args.notice.now c.args.self.now c.note_element.new.self
    (on_ok_then c.note_element.result
    (λ grows number. grows number ∙ ap (λ (l : List LeftElement). kept_at c.args.self.now number ++ l) (given c.args.notice.now c.element_of.result c.in-Some.element number c.element_of.ensures c.in-Some.is))
    c.note_element.ensures)

pub returns-in-None : goal.returns-in-None
returns-in-None c = λ earlier are. left_same earlier c.args.notice.now c.args.self.now (λ number. not_given c.args.notice.now c.element_of.result number c.element_of.ensures c.in-None.is) are
