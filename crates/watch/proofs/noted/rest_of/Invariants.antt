-- what the notices so far note, and then what is left
use Rattle.std.proofs.Common.{◌≡◌, ◌++◌, take}
use Rattle.std.specs.Prelude.{filter_map}
use Rattle.watch.specs.Left.{notes_left}
use Rattle.watch.specs.Noted.{note_of, notes_of_log}
use Rattle.watch.proofs.noted.rest_of.Given as goal

abbrev pub invariant-loop-notice : goal.invariant-loop-notice
invariant-loop-notice l = notes_of_log l.log ≡ filter_map (note_of l.at) (take l.notice-index l.notices) ++ notes_left l.left
