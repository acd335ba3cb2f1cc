use Rattle.std.proofs.Common.{◌≡◌, ◌∙◌, false, Option, sym, ap, subst}
use Rattle.std.specs.Prelude.{IfSome, option_copied}
use Rattle.intervals.specs.declared.operation.Op.{Op}
use Rattle.zone_tree.specs.declared.edge.Edge.TheVariants.{At}
use Rattle.zone_tree.specs.Edge.{same_edge}
use Rattle.zones.proofs.edges.is_begun_by.Goals as goal

pub returns-in-Some : goal.returns-in-Some
returns-in-Some c none =
    subst (λ (o : Option Op). IfSome o (λ read. same_edge (At read.begin) c.args.edges.now.read_begin ≡ false)) (sym (ap option_copied c.in-Some.is) ∙ c.read_in.ensures)
    (sym c.is_same.ensures ∙ none)

pub returns-in-None : goal.returns-in-None
returns-in-None c none =
    subst (λ (o : Option Op). IfSome o (λ read. same_edge (At read.begin) c.args.edges.now.read_begin ≡ false)) (sym (ap option_copied c.in-None.is) ∙ c.read_in.ensures) tt
