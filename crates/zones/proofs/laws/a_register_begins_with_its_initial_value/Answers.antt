use Rattle.std.proofs.Common.{ap, ◌∙◌}
use Rattle.zones.specs.AtFirst.{or_fresh}
use Rattle.zones.proofs.Fresh.{fresh_is_new}
use Rattle.zones.proofs.Start.{known_initial, known_start, sole_is, start_not_written}
use Rattle.zones.proofs.laws.a_register_begins_with_its_initial_value.Goals as goal

pub returns : goal.returns
returns c = record {
  known = λ claim ops known. (known_initial claim ops known, known_start claim ops known);
  read = λ claim ops value unknown e. let is = sole_is claim ops unknown value e in (ap (or_fresh ops) e, is.0, is.1);
  none = λ claim ops op e h f. fresh_is_new ops op h (f ∙ ap (or_fresh ops) e);
  not_written = start_not_written;
}
