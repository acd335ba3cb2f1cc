use Rattle.std.proofs.Common.{[]}
use Rattle.intervals.proofs.Claimed.{repeat_named, repeat_nowhere, none_repeat}
use Rattle.intervals.proofs.laws.first_repeat_was_appended_first.Goals as goal

pub returns : goal.returns
returns c = record {
  named = λ claim ops id holder e.
      let is = repeat_named claim [] ops id holder e in
      (is.front, is.write, is.rest, is.parts, is.id_is, is.is_write, is.held, is.none);
  none = λ claim ops ids. ((λ e. none_repeat claim ops ids e), repeat_nowhere claim ops);
}
