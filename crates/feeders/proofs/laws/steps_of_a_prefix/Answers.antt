use Rattle.feeders.proofs.Prefixes.{prefix_of_steps}
use Rattle.feeders.proofs.laws.steps_of_a_prefix.Goals as goal

pub returns : goal.returns
returns c =
    let law = c.elements_of_a_prefix.ensures in
    prefix_of_steps c.one_item.ensures.one (record { before = law.before; so_far = law.so_far; text = law.text })
