-- What a wrong read of a register might have returned, by its book.
use Rattle.std.specs.Prelude.{◌≡◌, ◌+◌, ℕ, List, [], ◌∷◌, Option, Some, None}
use Rattle.std.specs.List.{slice_get}
use Rattle.intervals.specs.declared.claim.Kind.{Kind}
use Rattle.intervals.specs.declared.operation.Op.{Op}
use Rattle.intervals.specs.declared.operation.Value.{Value}
use Rattle.intervals.specs.Terms.{ClaimModel, RegisterState}
use Rattle.tower_file.specs.Contents.{Register, TowerModel}
use Rattle.register_book.specs.declared.around.WritesAround.{WritesAround}
use Rattle.register_book.specs.declared.fault.Witness.{Witness}
use Rattle.register_book.specs.declared.fault.Witness.TheVariants.{Wrong}
use Rattle.register_book.specs.Around.{AreAround}
use Rattle.shards.specs.Closing.{ClosedShard, book_of}
use Rattle.report.specs.declared.finding.Finding.{Finding}
use Rattle.records.specs.declared.allowed.Allowed.{Allowed}
use Rattle.records.specs.Allowed.{allowed_by}

-- the values of an optional domain; none where there is no domain
abbrev pub domain_values : Option (List Value) → List Value
domain_values None = []
domain_values (Some values) = values

-- what a wrong read of a register of this kind might have returned, by the claim and the operations that stand
abbrev pub IsAllowedRead : Kind → ClaimModel → List Op → Op → List Allowed → Type 0
IsAllowedRead kind claim ops read allowed =
    (around : WritesAround) × AreAround ops read around
    × (allowed ≡ allowed_by kind claim.initial (domain_values claim.domain) around.last around.over.items)

-- what the read of a witness might have returned, where it is a wrong read; else nothing
abbrev pub IsAllowedBy : Kind → ClaimModel → List Op → Option Witness → List Allowed → Type 0
IsAllowedBy kind claim ops (Some (Wrong read)) allowed = IsAllowedRead kind claim ops read allowed
IsAllowedBy kind claim ops witness allowed = allowed ≡ []

-- the same of a register of a tower and its book; nothing where one of them is not there
abbrev pub IsAllowedIn : Option Register → Option RegisterState → Finding → List Allowed → Type 0
IsAllowedIn None held finding allowed = allowed ≡ []
IsAllowedIn (Some register) None finding allowed = allowed ≡ []
IsAllowedIn (Some register) (Some held) finding allowed = IsAllowedBy finding.kind register.claim held.ops finding.witness allowed

-- the same of the registers from this number on
abbrev pub AreAllowed : TowerModel → List ClosedShard → ℕ → List Finding → List (List Allowed) → Type 0
AreAllowed tower closed n [] [] = Unit {0}
AreAllowed tower closed n [] (allowed ∷ others) = ⊥
AreAllowed tower closed n (finding ∷ findings) [] = ⊥
AreAllowed tower closed n (finding ∷ findings) (allowed ∷ others) =
    IsAllowedIn (slice_get tower.registers n) (book_of closed n) finding allowed × AreAllowed tower closed (n + 1) findings others
