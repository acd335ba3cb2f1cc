-- the wants so far and those of the spans left are all
use Rattle.std.specs.Prelude.{All}
use Rattle.std.proofs.Common.{◌≡◌, ◌≤◌, ◌++◌, drop, length}
use Rattle.show.specs.Measure.{IsWanted, wanted_of}
use Rattle.show.proofs.measure.label_wants.Given as goal

abbrev pub invariant-loop-number : goal.invariant-loop-number
invariant-loop-number l = record {
  number_within : l.number ≤ length l.scene.spans.items;
  within : All (IsWanted (length l.scene.marks.items)) l.wants.items;
  rest : l.wants.items ++ wanted_of l.measure (length l.scene.marks.items) l.scene.labels.items l.number (drop l.number l.scene.spans.items)
      ≡ wanted_of l.measure (length l.scene.marks.items) l.scene.labels.items 0 l.scene.spans.items;
}
