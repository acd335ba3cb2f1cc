-- A list of operations without one write or without one read.
use Rattle.std.specs.Prelude.{List, not, ◌&&◌, filter}
use Rattle.intervals.specs.declared.operation.Op.{Op}
use Rattle.intervals.specs.declared.operation.OpId.{OpId}
use Rattle.intervals.specs.Operation.{is_write, same_id}

-- the operations without the write of that id; all of them where no write has the id
abbrev pub without_write : List Op → OpId → List Op
without_write ops id = filter (λ op. not (is_write op && same_id op.id id)) ops

-- the operations without the read of that id; all of them where no read has the id
abbrev pub without_read : List Op → OpId → List Op
without_read ops id = filter (λ op. not (not (is_write op) && same_id op.id id)) ops
