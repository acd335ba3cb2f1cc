use Rattle.std.proofs.Common.{refl, rules}
use Rattle.show.proofs.layout.layout_of.Goals as goal

pub returns : goal.returns
returns c = record {
  scene_is = refl;
  first = c.first_step.result;
  places = c.in_ok-places.ensures;
  rows = search rules;
}
