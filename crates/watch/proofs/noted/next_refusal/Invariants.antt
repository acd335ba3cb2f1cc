-- the lines so far are of answers
use Rattle.std.proofs.Common.{◌≡◌, drop}
use Rattle.std.specs.Prelude.{filter_map}
use Rattle.watch.specs.Noted.{note_of_line}
use Rattle.watch.proofs.noted.next_refusal.Given as goal

abbrev pub invariant-loop-at : goal.invariant-loop-at
invariant-loop-at l = filter_map note_of_line (drop l.at l.lines) ≡ filter_map note_of_line l.lines
