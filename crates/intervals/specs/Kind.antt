-- What each kind of register promises (Lamport 1986).
use Rattle.std.specs.Prelude.{◌≡◌, ◌≢◌, ◌≤◌, ◌⊎◌, Bool, true, false, List, [], ◌∷◌, Option, Some, None, All, Any, Contains, IsPermutation}
use Rattle.std.specs.List.{AllByRecursion}
use Rattle.intervals.specs.declared.operation.Op.{Op}
use Rattle.intervals.specs.declared.operation.Value.{Value}
use Rattle.intervals.specs.declared.operation.Act.{Act}
use Rattle.intervals.specs.declared.operation.Act.TheVariants.{Read, Write}
use Rattle.intervals.specs.Terms.{ClaimModel, RegisterState}
use Rattle.intervals.specs.declared.claim.Kind.{Kind}
use Rattle.intervals.specs.declared.claim.Kind.TheVariants.{Safe, Regular, Atomic}
use Rattle.intervals.specs.Operation.{Precedes, Overlaps, IsWrite, IsJudgedRead, value_of, judged}

-- the write `w` is the last that precedes `r`: it is in the list, and no write that precedes `r` begins later
pub record IsLastBefore (ops : List Op) (r w : Op) : Type 0 where
  pub present : Contains ops w
  pub write : IsWrite w
  pub before : Precedes w r
  pub last : All (λ v. IsWrite v → Precedes v r → v.begin.0 ≤ w.begin.0) ops

-- the read returns the value of the last write that precedes it, or the initial value where none does
abbrev pub ReturnsLast : Value → List Op → Op → Type 0
ReturnsLast initial ops r =
    ((w : Op) × IsLastBefore ops r w × (value_of r.act ≡ value_of w.act))
    ⊎ (All (λ w. IsWrite w → ¬ Precedes w r) ops × (value_of r.act ≡ initial))

-- some write of the list overlaps the read
abbrev pub OverlapsWrite : List Op → Op → Type 0
OverlapsWrite ops r = Any (λ w. IsWrite w × Overlaps w r) ops

-- the value is in the optional domain or is the initial one; all values are where there is no domain
abbrev pub IsAllowed : Option (List Value) → Value → Value → Type 0
IsAllowed None initial value = Unit {0}
IsAllowed (Some values) initial value = Contains values value ⊎ (value ≡ initial)

-- the value is in the claim's domain or is the initial one; all values are where the claim has no domain
abbrev pub IsInValueSet : ClaimModel → Value → Type 0
IsInValueSet claim value = IsAllowed claim.domain claim.initial value

-- a read that overlaps no write returns the value of the last write that precedes it, or the initial value where none
-- does; any other read returns a value of the domain or the initial one (`IsInValueSet`)
abbrev pub IsSafeRead : ClaimModel → List Op → Op → Type 0
IsSafeRead claim ops r =
    (¬ OverlapsWrite ops r → ReturnsLast claim.initial ops r)
    × (OverlapsWrite ops r → IsInValueSet claim (value_of r.act))

-- a safe register: each read that has an end is right by `IsSafeRead`
abbrev pub IsSafe : ClaimModel → List Op → Type 0
IsSafe claim ops = All (λ r. IsJudgedRead r → IsSafeRead claim ops r) ops

-- a read returns the value of some write that overlaps it, or of the last write that precedes it, or the initial value
-- where none precedes it
abbrev pub IsRegularRead : ClaimModel → List Op → Op → Type 0
IsRegularRead claim ops r =
    Any (λ w. IsWrite w × Overlaps w r × (value_of r.act ≡ value_of w.act)) ops
    ⊎ ReturnsLast claim.initial ops r

-- a regular register: each read that has an end is right by `IsRegularRead`
abbrev pub IsRegular : ClaimModel → List Op → Type 0
IsRegular claim ops = All (λ r. IsJudgedRead r → IsRegularRead claim ops r) ops

-- the order of the list keeps precedence: no operation precedes one that comes earlier in the list
abbrev pub KeepsPrecedence : List Op → Type 0
KeepsPrecedence [] = Unit {0}
KeepsPrecedence (a ∷ later) = AllByRecursion (λ b. ¬ Precedes b a) later × KeepsPrecedence later

-- the act fits the value that the register has: a read returns it; a write always fits
abbrev pub Finds : Value → Act → Type 0
Finds value (Read v) = v ≡ value
Finds value (Write v) = Unit {0}

-- the value that the register has after an act: that of a write, or after a read the value that it had before
abbrev pub value_after : Value → Act → Value
value_after value (Read v) = value
value_after value (Write v) = v

-- each read of the list returns the value of the nearest write earlier in the list, or else the given value
abbrev pub ReadsNearest : Value → List Op → Type 0
ReadsNearest value [] = Unit {0}
ReadsNearest value (a ∷ later) = Finds value a.act × ReadsNearest (value_after value a.act) later

-- an arrangement (a linearization) of the operations: each write, and each read that has an end, once, in an order that
-- keeps precedence, where each read returns the value of the nearest write earlier in it, or else the initial value
pub record Arranges (claim : ClaimModel) (ops order : List Op) : Type 0 where
  pub each_once : IsPermutation (judged ops) order
  pub keeps : KeepsPrecedence order
  pub reads : ReadsNearest claim.initial order

-- there is an arrangement (`Arranges`) of the operations from the claim's initial value
abbrev pub IsArranged : ClaimModel → List Op → Type 0
IsArranged claim ops = (order : List Op) × Arranges claim ops order

-- no write of the list has the value
abbrev pub HasNoWrite : List Op → Value → Type 0
HasNoWrite ops value = All (λ w. IsWrite w → value_of w.act ≢ value) ops

-- there is an arrangement from some initial value that no write has: nil, or a whole number of any size
abbrev pub IsArrangedFromSome : ClaimModel → List Op → Type 0
IsArrangedFromSome claim ops = (value : Value) × HasNoWrite ops value × IsArranged (record claim { initial = value }) ops

-- where the flag is true there is an arrangement from the claim's initial value, else from some value that no write has
abbrev pub IsAtomicWhere : Bool → ClaimModel → List Op → Type 0
IsAtomicWhere true claim ops = IsArranged claim ops
IsAtomicWhere false claim ops = IsArrangedFromSome claim ops

-- an atomic (linearizable) register: there is an arrangement of its operations, from the initial value where that is
-- known and else from some value that no write has
abbrev pub IsAtomic : ClaimModel → List Op → Type 0
IsAtomic claim ops = IsAtomicWhere claim.known claim ops

-- the operations keep what a register of this kind promises: `IsSafe`, `IsRegular` or `IsAtomic`
abbrev pub Keeps : Kind → ClaimModel → List Op → Type 0
Keeps Safe claim ops = IsSafe claim ops
Keeps Regular claim ops = IsRegular claim ops
Keeps Atomic claim ops = IsAtomic claim ops

-- a register holds: its operations keep what its claimed kind promises
abbrev pub Holds : RegisterState → Type 0
Holds held = Keeps held.claim.kind held.claim held.ops
