-- The writes around a wrong read.
use Rattle.std.specs.Prelude.{◌≡◌, ◌&&◌, Bool, List, IsPermutation, filter, find, reverse}
use Rattle.std.specs.List.Sorted.{IsNonDecreasingBy}
use Rattle.intervals.specs.declared.operation.Op.{Op}
use Rattle.intervals.specs.Operation.{overlaps, precedes, same_value, value_of, writes}
use Rattle.register_book.specs.declared.around.WritesAround.{WritesAround}

-- the write is of the value that the read returned
abbrev pub is_of_its_value : Op → Op → Bool
is_of_its_value read write = same_value (value_of write.act) (value_of read.act)

-- the write is of the value that the read returned, and precedes the read
abbrev pub is_source : Op → Op → Bool
is_source read write = precedes write read && is_of_its_value read write

-- the write is of the value that the read returned, and the read precedes it
abbrev pub is_later_source : Op → Op → Bool
is_later_source read write = precedes read write && is_of_its_value read write

-- the writes around a wrong read, of the operations that stand: by beginning, the last write that precedes it, those
-- that overlap it, the last of its value that precedes it, and the first of its value that it precedes
pub record AreAround (ops : List Op) (read : Op) (around : WritesAround) : Type 0 where
  pub sorted : List Op
  pub each_once : IsPermutation (writes ops) sorted
  pub in_order : IsNonDecreasingBy (λ op. op.begin.0) sorted
  pub last : around.last ≡ find (λ write. precedes write read) (reverse sorted)
  pub over : around.over.items ≡ filter (λ write. overlaps write read) sorted
  pub source : around.source ≡ find (is_source read) (reverse sorted)
  pub later : around.later ≡ find (is_later_source read) sorted
