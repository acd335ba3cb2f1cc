-- each trace so far is noted
use Rattle.std.proofs.Common.{ℕ, ◌≡◌, ◌<◌, Some}
use Rattle.std.specs.Prelude.{filter_map}
use Rattle.std.specs.List.{slice_get}
use Rattle.logs.specs.declared.log.Log.{Log}
use Rattle.watch.specs.Noted.{IsToldOf, note_of, notes_of_log}
use Rattle.watch.proofs.noted.are_each_noted.Given as goal

abbrev pub invariant-loop-at : goal.invariant-loop-at
invariant-loop-at l = (k : ℕ) (log : Log) → k < l.at → slice_get l.logs k ≡ Some log → IsToldOf l.stopped (filter_map (note_of k) l.notices) (notes_of_log log)
