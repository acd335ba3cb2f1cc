use Rattle.std.proofs.Common.{List, ◌==◌, ◌++◌, ◌∷◌, [], if◌then◌else◌, ap, ◌∙◌}
use Rattle.watch.specs.declared.doubt.LeftElement.{LeftElement}
use Rattle.report.proofs.Doubts.{added}
use Rattle.watch.proofs.doubt.LeftSoFar.add.Goals as goal

pub returns : goal.returns
returns c = λ other.
    added (λ elements. elements.items) c.reach.new.self.by_register.items c.args.number c.index_mut.result.now c.push.new.self (c.args.element ∷ [])
    c.in_ok-reach.ensures.reached c.index_mut.ensures.value c.in_ok-push.ensures.items other
    ∙ ap (λ (l : List LeftElement). l ++ (if c.args.number == other then c.args.element ∷ [] else [])) (c.in_ok-reach.ensures.same other)
