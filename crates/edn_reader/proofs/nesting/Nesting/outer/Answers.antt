use Rattle.edn_reader.proofs.Splitting.{outer_first}
use Rattle.edn_reader.proofs.nesting.Nesting.outer.Goals as goal

pub returns-in-Some : goal.returns-in-Some
returns-in-Some c =
    let inside = c.self.inside in
    rw (← c.self.view_is) (outer_first inside.last inside.around.items c.in-Some.open.now c.args.place (rw c.as_slice.ensures at c.in-Some.ensures.value) c.self.invariant.1)
