use Rattle.std.proofs.Common.{◌≡◌, ◌+◌, ◌*◌, ◌≤◌, length, None, Some, Option, ap, sym, subst, ◌∙◌, arith}
use Rattle.std.specs.Prelude.{IfSome}
use Rattle.intervals.specs.declared.operation.Op.{Op}
use Rattle.intervals.specs.Operation.{writes}
use Rattle.intervals.specs.Edit.{new_op, edited, edit_id, found_by}
use Rattle.intervals.specs.Refusal.{reply_to}
use Rattle.intervals.specs.Table.{TableModel, prepared_after}
use Rattle.intervals.specs.Target.{IsTargetOf}
use Rattle.intervals.specs.Terms.{terms_of, state_of}
use Rattle.intervals.proofs.Accepted.{edit_accepted}
use Rattle.zone_tree.specs.Digits.{binary_digits}
use Rattle.zones.specs.Together.{ClustersModel, AreOfOneRegister}
use Rattle.zones.specs.Zoned.{judged_part}
use Rattle.zones.proofs.Unjudged.{not_there, together_unjudged}
use Rattle.zones.proofs.register.Clusters.settle.Goals as goal

pub admit-requires-clause-accepted : goal.admit-requires-clause-accepted
admit-requires-clause-accepted c =
    let claim = terms_of c.self.inside.claim in
    let ops = c.self.inside.table.ops in
    edit_accepted (state_of claim ops) c.args.edit.now (subst (λ (x : ClustersModel). reply_to (state_of x.claim x.ops) c.args.edit.now ≡ None) (sym c.self.view_is) c.requires.accepted)

pub admit-requires-clause-target : goal.admit-requires-clause-target
admit-requires-clause-target c = subst (λ (x : ClustersModel). IsTargetOf x.ops c.args.edit.now c.args.target.now) (sym c.self.view_is) c.requires.target

pub admit-requires-clause-room : goal.admit-requires-clause-room
admit-requires-clause-room c =
    let prepared = c.self.inside.table.prepared in
    let asked : c.args.target.now.new ≡ new_op c.self.inside.table.ops c.args.edit.now = subst (λ (x : ClustersModel). c.args.target.now.new ≡ new_op x.ops c.args.edit.now) (sym c.self.view_is) c.requires.target.new in
    let held : IfSome c.args.target.now.new (λ op. prepared ≡ Some op) = subst (λ (x : ClustersModel). IfSome c.args.target.now.new (λ op. x.prepared ≡ Some op)) (sym c.self.view_is) c.requires.prepared in
    subst (λ (n : Option Op). IfSome n (λ op. prepared ≡ Some op)) asked held

pub invariant_of-self : goal.invariant_of-self
invariant_of-self c =
    let claim = terms_of c.self.inside.claim in
    let table = c.self.inside.table in
    let ops = table.ops in
    let accepted : reply_to (state_of claim ops) c.args.edit.now ≡ None = subst (λ (x : ClustersModel). reply_to (state_of x.claim x.ops) c.args.edit.now ≡ None) (sym c.self.view_is) c.requires.accepted in
    let found : c.args.target.now.old ≡ found_by ops (edit_id c.args.edit.now) = subst (λ (x : ClustersModel). c.args.target.now.old ≡ found_by x.ops (edit_id c.args.edit.now)) (sym c.self.view_is) c.requires.target.old in
    let asked : c.args.target.now.new ≡ new_op ops c.args.edit.now = subst (λ (x : ClustersModel). c.args.target.now.new ≡ new_op x.ops c.args.edit.now) (sym c.self.view_is) c.requires.target.new in
    let held : IfSome c.args.target.now.new (λ op. table.prepared ≡ Some op) = subst (λ (x : ClustersModel). IfSome c.args.target.now.new (λ op. x.prepared ≡ Some op)) (sym c.self.view_is) c.requires.prepared in
    let no_old : c.judged-old.result.now ≡ None = not_there c.judged-old.result.now (sym c.is_some.ensures ∙ c.if-is_some.false) in
    let no_new : c.judged-new.result.now ≡ None = not_there c.judged-new.result.now (sym c.is_some-else-is_some.ensures ∙ c.if-is_some-2.false) in
    subst (λ (t : TableModel). AreOfOneRegister claim t c.self.inside.members c.self.inside.records c.self.inside.zones c.self.inside.stretches) (sym c.admit.ensures)
    (together_unjudged claim table c.self.inside.members c.self.inside.records c.self.inside.zones c.self.inside.stretches c.self.invariant c.args.edit.now accepted
    (sym no_old ∙ (c.judged-old.ensures ∙ ap judged_part found)) (sym no_new ∙ (c.judged-new.ensures ∙ ap judged_part asked))
    (subst (λ (n : Option Op). IfSome n (λ op. table.prepared ≡ Some op)) asked held))

pub returns-clause-edited : goal.returns-clause-edited
returns-clause-edited c =
    let claim = terms_of c.self.inside.claim in
    let table = c.self.inside.table in
    let steps = c.self.inside.zones.steps in
    let asked : c.args.target.now.new ≡ new_op table.ops c.args.edit.now = subst (λ (x : ClustersModel). c.args.target.now.new ≡ new_op x.ops c.args.edit.now) (sym c.self.view_is) c.requires.target.new in
    ap {B = ClustersModel} (λ (t : TableModel). record { claim = claim; ops = t.ops; prepared = t.prepared; steps = steps }) c.admit.ensures
    ∙ (ap {B = ClustersModel} (λ (n : Option Op). record { claim = claim; ops = edited table.ops c.args.edit.now; prepared = prepared_after n table.prepared; steps = steps }) (sym asked)
    ∙ ap {B = ClustersModel} (λ (x : ClustersModel). record { claim = x.claim; ops = edited x.ops c.args.edit.now; prepared = prepared_after c.args.target.now.new x.prepared; steps = steps }) c.self.view_is)

pub returns-clause-steps : goal.returns-clause-steps
returns-clause-steps c =
    let zones = c.self.inside.zones in
    subst (λ (x : ClustersModel). zones.steps ≤ x.steps + 4 * (2 * binary_digits (length (writes x.ops) + 1) + 1)) c.self.view_is (omega arith)
