-- the spans so far are those of the operations so far
use Rattle.std.proofs.Common.{◌≡◌, ◌≤◌, ℕ, Some, length}
use Rattle.std.specs.List.{slice_get}
use Rattle.intervals.specs.declared.operation.Op.{Op}
use Rattle.timeline.specs.declared.axis.BarSpan.{BarSpan}
use Rattle.timeline.specs.Axis.{IsSpan}
use Rattle.timeline.proofs.axis.spans.Given as goal

abbrev pub invariant-loop-number : goal.invariant-loop-number
invariant-loop-number l = record {
  within : l.number ≤ length l.ops;
  many : length l.spans.items ≡ l.number;
  each : (number : ℕ) (op : Op) (span : BarSpan) → slice_get l.ops number ≡ Some op → slice_get l.spans.items number ≡ Some span → IsSpan l.marks number op span;
}
