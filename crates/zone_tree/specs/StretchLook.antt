-- What is looked for among stretches.
use Rattle.std.specs.Prelude.{Bool, ◌&&◌, not}
use Rattle.intervals.specs.declared.operation.Value.{Value}
use Rattle.intervals.specs.Operation.{same_value}
use Rattle.zone_tree.specs.declared.stretch.Stretch.{Stretch}

-- whether the stretch is writeless: no write has its value
abbrev pub has_no_write : Stretch → Bool
has_no_write s = not s.written

-- whether the stretch is writeless and its value is another than this
abbrev pub is_writeless_but : Value → Stretch → Bool
is_writeless_but value s = not s.written && not (same_value s.value value)

-- whether the stretch is early: its value has a write, which begins after the first read of it ended
abbrev pub is_read_early : Stretch → Bool
is_read_early s = s.written
