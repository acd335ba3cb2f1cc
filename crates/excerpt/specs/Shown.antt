-- The operations that show how a register fails, by themselves.
use Rattle.std.specs.Prelude.{◌≡◌, ◌&&◌, Bool, IsPermutation, not, List, [], ◌∷◌, ◌++◌, filter}
use Rattle.std.specs.List.{list_any}
use Rattle.std.specs.List.Sorted.{IsNonDecreasingBy}
use Rattle.std.specs.Option.{option_to_list}
use Rattle.intervals.specs.declared.operation.Op.{Op}
use Rattle.intervals.specs.Operation.{is_write, same_id, same_value, value_of}
use Rattle.register_book.specs.declared.around.WritesAround.{WritesAround}
use Rattle.register_book.specs.declared.fault.Witness.{Witness}
use Rattle.register_book.specs.declared.fault.Witness.TheVariants.{Wrong}
use Rattle.register_book.specs.Around.{AreAround}
use Rattle.register_book.specs.Fault.{ops_in_roles, roles_of}

-- one of these operations has the value of this one
abbrev pub has_value_of : List Op → Op → Bool
has_value_of ops op = list_any (λ other. same_value (value_of other.act) (value_of op.act)) ops

-- this operation is one of these, by its id
abbrev pub is_one_of : List Op → Op → Bool
is_one_of ops op = list_any (λ other. same_id other.id op.id) ops

-- a write of the value of one of these operations, and none of them
abbrev pub is_their_write : List Op → Op → Bool
is_their_write shown op = is_write op && has_value_of shown op && not (is_one_of shown op)

-- the writes of their values that are none of these operations, and these
abbrev pub with_writes : List Op → List Op → List Op
with_writes ops shown = filter (is_their_write shown) ops ++ shown

-- the writes that tell of a wrong read: the last of its value that precedes it, and the last one that precedes it, which it
-- missed; then the read
abbrev pub told_by : WritesAround → Op → List Op
told_by around read = option_to_list around.source ++ option_to_list around.last ++ read ∷ []

-- of the operations that stand those that show the failure by themselves: a wrong read with the write of its value and the
-- write that it missed; or else the operations of the witness, with the writes of their values
abbrev pub IsFound : List Op → Witness → List Op → Type 0
IsFound ops (Wrong read) found = (around : WritesAround) × AreAround ops read around × (found ≡ told_by around read)
IsFound ops witness found = found ≡ with_writes ops (ops_in_roles (roles_of witness))

-- these are those operations, each once, by beginning
pub record AreShown (ops : List Op) (witness : Witness) (shown : List Op) : Type 0 where
  pub found : List Op
  pub are : IsFound ops witness found
  pub each_once : IsPermutation found shown
  pub in_order : IsNonDecreasingBy (λ op. op.begin.0) shown
