use Rattle.std.proofs.Common.{sym, ap, ◌∙◌, subst}
use Rattle.std.specs.Prelude.{option_copied}
use Rattle.zone_tree.specs.declared.edge.Edge.TheVariants.{At}
use Rattle.zones.specs.Edges.{AreWriteEdges}
use Rattle.zones.proofs.EdgesOf.{named_came, named_same, named_went, write_came, write_same, write_went}
use Rattle.zones.proofs.edges.write_after.Goals as goal

pub returns-in-Some-clause-named : goal.returns-in-Some-clause-named
returns-in-Some-clause-named c ops later are change =
    named_came ops c.args.old.now c.args.new.now later change c.args.before.now.value c.in-Some.write.now (sym c.write_in.ensures ∙ ap option_copied c.in-Some.is)

pub returns-in-Some-clause-edges : goal.returns-in-Some-clause-edges
returns-in-Some-clause-edges c ops later are change =
    let v = c.args.before.now.value in
    let write = c.in-Some.write.now in
    subst (AreWriteEdges later v (At write.begin)) (sym c.edge_of_end.ensures)
    (write_came ops c.args.old.now c.args.new.now later change v write (sym c.write_in.ensures ∙ ap option_copied c.in-Some.is))

pub returns-in-Some-write_in-clause-named : goal.returns-in-Some-write_in-clause-named
returns-in-Some-write_in-clause-named c ops later are change =
    named_went ops c.args.old.now c.args.new.now later change c.args.before.now.value c.in-Some-write_in.field-0.now (sym c.write_in.ensures ∙ ap option_copied c.in-None.is)
    (sym c.write_in-in-None.ensures ∙ ap option_copied c.in-Some-write_in.is)

pub returns-in-Some-write_in-clause-edges : goal.returns-in-Some-write_in-clause-edges
returns-in-Some-write_in-clause-edges c ops later are change =
    write_went ops c.args.old.now c.args.new.now later change c.args.before.now.value c.in-Some-write_in.field-0.now (sym c.write_in.ensures ∙ ap option_copied c.in-None.is)
    (sym c.write_in-in-None.ensures ∙ ap option_copied c.in-Some-write_in.is)

pub returns-in-None-write_in-clause-named : goal.returns-in-None-write_in-clause-named
returns-in-None-write_in-clause-named c ops later are change =
    named_same ops c.args.old.now c.args.new.now later change c.args.before.now.value c.args.before.now.write_id (sym c.write_in.ensures ∙ ap option_copied c.in-None.is)
    (sym c.write_in-in-None.ensures ∙ ap option_copied c.in-None-write_in.is) are.named

pub returns-in-None-write_in-clause-edges : goal.returns-in-None-write_in-clause-edges
returns-in-None-write_in-clause-edges c ops later are change =
    write_same ops c.args.old.now c.args.new.now later change c.args.before.now.value c.args.before.now.write_begin c.args.before.now.write_end (sym c.write_in.ensures ∙ ap option_copied c.in-None.is)
    (sym c.write_in-in-None.ensures ∙ ap option_copied c.in-None-write_in.is) are.write
