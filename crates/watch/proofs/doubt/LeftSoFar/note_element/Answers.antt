use Rattle.std.proofs.Common.{List, ◌++◌, ap, append-nil, sym, ◌∙◌}
use Rattle.watch.specs.declared.doubt.LeftElement.{LeftElement}
use Rattle.watch.specs.Doubt.{kept_at}
use Rattle.watch.proofs.Doubting.{of_none, of_one, on_ok_then}
use Rattle.watch.proofs.doubt.LeftSoFar.note_element.Goals as goal

pub returns-in-Some : goal.returns-in-Some
returns-in-Some c =
    on_ok_then c.add.result
    (λ grows number. grows number ∙ ap (λ (l : List LeftElement). kept_at c.args.self.now number ++ l) (of_one c.args.element c.in-Some.register number c.in-Some.is))
    c.add.ensures

pub returns-in-None : goal.returns-in-None
returns-in-None c = λ number. sym (ap (λ (l : List LeftElement). kept_at c.args.self.now number ++ l) (of_none c.args.element number c.in-None.is) ∙ append-nil (kept_at c.args.self.now number))
