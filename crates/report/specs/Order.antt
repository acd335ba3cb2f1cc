-- What is printed of the order of a register, where it is asked for.
use Rattle.std.specs.Prelude.{◌≡◌, ◌↔◌, ℕ, List, [], ◌∷◌, ◌++◌, flat_map, Option, Some, None, IfSome, IsNone, codes}
use Rattle.intervals.specs.declared.claim.Kind.TheVariants.{Atomic}
use Rattle.intervals.specs.declared.operation.OpId.{OpId}
use Rattle.intervals.specs.declared.operation.RegId.{RegId}
use Rattle.intervals.specs.Terms.{RegisterState}
use Rattle.intervals.specs.Kind.{Holds}
use Rattle.zones.specs.AtFirst.{with_start}
use Rattle.zones.specs.Turn.{IsOrder}
use Rattle.tower_file.specs.Contents.{Register}
use Rattle.shards.specs.Closing.{ClosedShard, book_of}
use Rattle.phrases.specs.Names.{printed, id_text, register_name}

-- an order of a register's operations if the register is atomic and holds, else none; the register has to be there
abbrev pub IsOrderOf : Option RegisterState → Option (List OpId) → Type 0
IsOrderOf None found = ⊥
IsOrderOf (Some held) found =
    IfSome found (IsOrder (with_start held) held.ops)
    × (IsNone found ↔ ¬ ((held.claim.kind ≡ Atomic) × Holds held))

-- the register whose order is asked for, if any, with that order
abbrev pub IsAsked : List ClosedShard → Option RegId → Option (RegId × Option (List OpId)) → Type 0
IsAsked closed None None = Unit {0}
IsAsked closed None (Some found) = ⊥
IsAsked closed (Some id) None = ⊥
IsAsked closed (Some id) (Some found) = (found.0 ≡ id) × IsOrderOf (book_of closed id.0) found.1

-- the ids of an order, each after a space; ` none` where there is no order
abbrev pub ids_text : Option (List OpId) → List ℕ
ids_text None = codes " none"
ids_text (Some ids) = flat_map (λ id. codes " " ++ id_text id) ids

-- the line of the order that is asked for; empty where none is
abbrev pub order_line : List Register → Option (RegId × Option (List OpId)) → List ℕ
order_line registers None = []
order_line registers (Some found) = codes "order " ++ printed (register_name registers found.0) ++ ids_text found.1 ++ 10 ∷ []
