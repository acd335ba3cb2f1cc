-- the place so far is that after the bytes so far
use Rattle.std.proofs.Common.{◌≡◌, ◌≤◌, ◌+◌}
use Rattle.places.specs.LineColumn.{place_of_byte}
use Rattle.places.proofs.line_column.place_on.Given as goal

abbrev pub invariant-loop-byte : goal.invariant-loop-byte
invariant-loop-byte l = record {
  place : l.place ≡ place_of_byte l.fn.text (l.fn.from + l.byte-index);
  line : l.place.line ≤ l.fn.from + l.byte-index + 1;
  column : l.place.column ≤ l.fn.from + l.byte-index + 1;
}
