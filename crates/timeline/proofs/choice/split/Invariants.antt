-- the operations shown and hidden so far and those among the operations left are all shown and hidden ones
use Rattle.std.proofs.Common.{◌≡◌, ◌≤◌, ◌++◌, drop, length, map, not}
use Rattle.intervals.specs.declared.operation.Op.{Op}
use Rattle.timeline.specs.Choice.{is_shown, picked}
use Rattle.timeline.proofs.choice.split.Given as goal

abbrev pub invariant-loop-place : goal.invariant-loop-place
invariant-loop-place l = record {
  within : l.place ≤ length l.ops;
  shown : l.shown.items ++ picked (is_shown l.extent (length l.ops) l.centres) l.place (drop l.place l.ops) ≡ picked (is_shown l.extent (length l.ops) l.centres) 0 l.ops;
  hidden : l.hidden.items ++ map (λ (op : Op). op.begin) (picked (λ place. not (is_shown l.extent (length l.ops) l.centres place)) l.place (drop l.place l.ops))
      ≡ map (λ (op : Op). op.begin) (picked (λ place. not (is_shown l.extent (length l.ops) l.centres place)) 0 l.ops);
}
