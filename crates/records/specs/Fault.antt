-- The record of a fault.
use Rattle.std.specs.Prelude.{ℕ, List, [], ◌∷◌, ◌++◌, codes, flat_map}
use Rattle.intervals.specs.declared.claim.Holder.{Holder}
use Rattle.intervals.specs.declared.operation.OpId.{OpId}
use Rattle.intervals.specs.declared.operation.Value.{Value}
use Rattle.intervals.specs.declared.operation.Value.TheVariants.{Nil}
use Rattle.intervals.specs.Operation.{value_of}
use Rattle.register_book.specs.declared.fault.Fault.{Fault}
use Rattle.register_book.specs.declared.fault.Fault.TheVariants as faults
use Rattle.register_book.specs.declared.fault.Side.{Side}
use Rattle.register_book.specs.declared.fault.Side.TheVariants as sides
use Rattle.register_book.specs.declared.fault.Witness.{Witness}
use Rattle.register_book.specs.declared.fault.Witness.TheVariants.{Wrong, Crossing}
use Rattle.register_book.specs.Fault.{ids_of}
use Rattle.places.specs.Spots.{PlacesModel}
use Rattle.records.specs.declared.allowed.Allowed.{Allowed}
use Rattle.records.specs.Allowed.{allowed_symbols}
use Rattle.records.specs.Field.{end_symbols, list_symbols}
use Rattle.records.specs.Symbol.{Symbol, begin_record, end_record, key, place, word}
use Rattle.records.specs.Value.{holder_symbol, value_symbol}

-- the value of a side of a conflict; nil where the side is no operation
abbrev pub side_value : Side → Value
side_value (sides.Op op) = value_of op.act
side_value sides.Initial = Nil

-- the beginning of a fault's record, with its kind
abbrev pub kind_symbols : List ℕ → List Symbol
kind_symbols kind = begin_record ∷ key (codes "kind") ∷ word kind ∷ []

-- the beginning of a fault's record, with its kind and a read
abbrev pub read_symbols : List ℕ → OpId → List Symbol
read_symbols kind read = begin_record ∷ key (codes "kind") ∷ word kind ∷ key (codes "read") ∷ place read.feeder read.event ∷ []

-- the beginning of a fault's record, with its kind and two operations under these names
abbrev pub two_symbols : List ℕ → List ℕ → OpId → List ℕ → OpId → List Symbol
two_symbols kind name one other_name other =
    begin_record ∷ key (codes "kind") ∷ word kind
    ∷ key name ∷ place one.feeder one.event ∷ key other_name ∷ place other.feeder other.event ∷ []

-- two sides of a conflict under these names
abbrev pub pair_symbols : List ℕ → Holder → List ℕ → Holder → List Symbol
pair_symbols name one other_name other = key name ∷ holder_symbol one ∷ key other_name ∷ holder_symbol other ∷ []

-- the beginning of a conflict's record, with its kind and its sides
abbrev pub conflict_symbols : Holder → Holder → Holder → Holder → List Symbol
conflict_symbols a b c d =
    kind_symbols (codes "conflict") ++ pair_symbols (codes "a") a (codes "b") b ++ pair_symbols (codes "c") c (codes "d") d

-- the beginning of a fault's record: its kind, and the ids of the operations that show it
abbrev pub fault_head : Fault → List Symbol
fault_head (faults.Wrong read) = read_symbols (codes "wrong") read
fault_head (faults.Unwritten read) = read_symbols (codes "unwritten") read
fault_head (faults.Split first second) = two_symbols (codes "split") (codes "first") first (codes "second") second
fault_head (faults.Early read write) = two_symbols (codes "early") (codes "read") read (codes "write") write
fault_head (faults.Crossing a b c d) = conflict_symbols a b c d

-- what a wrong read might have returned, with which a fault's record ends
abbrev pub allowed_list : PlacesModel → List Allowed → List Symbol
allowed_list places allowed = list_symbols (codes "allowed") ++ flat_map (allowed_symbols places) allowed ++ end_symbols

-- the values of a conflict, with which its record ends
abbrev pub values_symbols : Side → Side → List Symbol
values_symbols first second =
    key (codes "first") ∷ value_symbol (side_value first) ∷ key (codes "second") ∷ value_symbol (side_value second) ∷ end_record ∷ []

-- the end of a fault's record: what a wrong read might have returned, or the values of a conflict
abbrev pub rest_symbols : PlacesModel → List Allowed → Witness → List Symbol
rest_symbols places allowed (Wrong read) = allowed_list places allowed
rest_symbols places allowed (Crossing a b c d) = values_symbols d b
rest_symbols places allowed witness = end_record ∷ []

-- the record of a fault, with what a wrong read might have returned
abbrev pub fault_symbols : PlacesModel → List Allowed → Witness → List Symbol
fault_symbols places allowed witness = fault_head (ids_of witness) ++ rest_symbols places allowed witness
