use Rattle.std.proofs.Common.{◌≡◌, ◌∙◌, List, Option, sym, ap, subst}
use Rattle.zone_tree.specs.declared.stretch.Stretch.{Stretch}
use Rattle.zones.specs.Faults.{stretch_shape}
use Rattle.zones.specs.Moves.{AreChanges, IsNew, with, without}
use Rattle.zones.proofs.stretch_moves.exchange_stretches.Goals as goal

pub put-requires-clause-new : goal.put-requires-clause-new
put-requires-clause-new c =
    let gone : Option Stretch × Option Stretch = (c.change-gone.result.0, c.change-other_gone.result.0) in
    let come : Option Stretch × Option Stretch = (c.change-gone.result.1, c.change-other_gone.result.1) in
    let changes : AreChanges c.args.before.now c.args.after.now gone come = record { one = c.change-gone.ensures; other = c.change-other_gone.ensures } in
    let twice : c.take-2.new.tree.stretches ≡ without stretch_shape gone.1 (without stretch_shape gone.0 c.args.tree.now.stretches) = c.take-2.ensures.stretches ∙ ap (without stretch_shape gone.1) c.take.ensures.stretches in
    subst (λ (l : List Stretch). IsNew stretch_shape l come.0) (sym twice) (c.requires.new gone come changes).first

pub put-requires-2-clause-new : goal.put-requires-2-clause-new
put-requires-2-clause-new c =
    let gone : Option Stretch × Option Stretch = (c.change-gone.result.0, c.change-other_gone.result.0) in
    let come : Option Stretch × Option Stretch = (c.change-gone.result.1, c.change-other_gone.result.1) in
    let changes : AreChanges c.args.before.now c.args.after.now gone come = record { one = c.change-gone.ensures; other = c.change-other_gone.ensures } in
    let twice : c.take-2.new.tree.stretches ≡ without stretch_shape gone.1 (without stretch_shape gone.0 c.args.tree.now.stretches) = c.take-2.ensures.stretches ∙ ap (without stretch_shape gone.1) c.take.ensures.stretches in
    subst (λ (l : List Stretch). IsNew stretch_shape l come.1) (sym (c.put.ensures.stretches ∙ ap (with stretch_shape come.0) twice)) (c.requires.new gone come changes).second

pub returns-clause-stretches : goal.returns-clause-stretches
returns-clause-stretches c =
    let gone : Option Stretch × Option Stretch = (c.change-gone.result.0, c.change-other_gone.result.0) in
    let come : Option Stretch × Option Stretch = (c.change-gone.result.1, c.change-other_gone.result.1) in
    let twice : c.take-2.new.tree.stretches ≡ without stretch_shape gone.1 (without stretch_shape gone.0 c.args.tree.now.stretches) = c.take-2.ensures.stretches ∙ ap (without stretch_shape gone.1) c.take.ensures.stretches in
    record {
      gone = gone;
      come = come;
      changes = record { one = c.change-gone.ensures; other = c.change-other_gone.ensures };
      moves = c.put-2.ensures.stretches ∙ ap (with stretch_shape come.1) (c.put.ensures.stretches ∙ ap (with stretch_shape come.0) twice);
    }
