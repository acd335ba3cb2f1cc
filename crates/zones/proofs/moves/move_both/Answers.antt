use Rattle.std.proofs.Common.{◌≡◌, ◌+◌, ◌*◌, ◌≤◌, List, length, ap, ◌∙◌, subst}
use Rattle.zone_tree.specs.declared.zone.Zone.{Zone}
use Rattle.zone_tree.specs.Digits.{binary_digits}
use Rattle.zones.specs.Moves.{with, without}
use Rattle.zones.specs.Zoned.{zone_shape}
use Rattle.zones.proofs.Lengths.{four_steps}
use Rattle.zones.proofs.moves.move_both.Goals as goal

pub returns-clause-steps : goal.returns-clause-steps
returns-clause-steps c =
    let t = c.args.tree.now in
    let once : c.take.new.tree.zones ≡ without zone_shape c.args.gone.now.0 t.zones = c.take.ensures.zones in
    let twice : c.take-2.new.tree.zones ≡ without zone_shape c.args.gone.now.1 (without zone_shape c.args.gone.now.0 t.zones) = c.take-2.ensures.zones ∙ ap (without zone_shape c.args.gone.now.1) once in
    let more : c.put.new.tree.zones ≡ with zone_shape c.args.come.now.0 (without zone_shape c.args.gone.now.1 (without zone_shape c.args.gone.now.0 t.zones)) = c.put.ensures.zones ∙ ap (with zone_shape c.args.come.now.0) twice in
    four_steps c.digits_are_the_least_that_hold_a_number.ensures.above c.args.gone.now c.args.come.now t.zones t.steps c.take.new.tree.steps c.take-2.new.tree.steps c.put.new.tree.steps c.put-2.new.tree.steps
    c.take.ensures.steps
    (subst (λ (l : List Zone). c.take-2.new.tree.steps ≤ c.take.new.tree.steps + (2 * binary_digits (length l) + 1)) once c.take-2.ensures.steps)
    (subst (λ (l : List Zone). c.put.new.tree.steps ≤ c.take-2.new.tree.steps + (2 * binary_digits (length l) + 1)) twice c.put.ensures.steps)
    (subst (λ (l : List Zone). c.put-2.new.tree.steps ≤ c.put.new.tree.steps + (2 * binary_digits (length l) + 1)) more c.put-2.ensures.steps)
