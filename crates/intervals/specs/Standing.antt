-- What is true of the operations that stand, whatever the edits were.
use Rattle.std.specs.Prelude.{◌≡◌, ◌≢◌, ◌<◌, ◌⊎◌, true, false, List, [], ◌∷◌, Some, None, All, IfSome}
use Rattle.std.specs.List.{AllPairs}
use Rattle.intervals.specs.declared.operation.Op.{Op}
use Rattle.intervals.specs.declared.operation.Moment.{Moment}
use Rattle.intervals.specs.declared.operation.Value.{Value}
use Rattle.intervals.specs.declared.claim.Kind.TheVariants.{Atomic}
use Rattle.intervals.specs.Operation.{IsWrite, Overlaps, value_of}
use Rattle.intervals.specs.Edit.{op_of}
use Rattle.intervals.specs.Refusal.{has_large_moment, may_write, is_in_domain}
use Rattle.intervals.specs.Kind.{HasNoWrite}
use Rattle.intervals.specs.Terms.{ClaimModel, RegisterState}

-- no two operations of the list have the same id
abbrev pub HasDistinctIds : List Op → Type 0
HasDistinctIds [] = Unit {0}
HasDistinctIds (op ∷ ops) = (op_of ops op.id ≡ None) × HasDistinctIds ops

-- the operation begins or ends at the moment
abbrev pub IsMomentOf : Op → Moment → Type 0
IsMomentOf op moment = (op.begin ≡ moment) ⊎ (op.end ≡ Some moment)

-- the second operation has another id than the first, and begins or ends at the moment
abbrev pub IsMomentHolder : Op → Moment → Op → Type 0
IsMomentHolder op moment other = (other.id ≢ op.id) × IsMomentOf other moment

-- two operations have no moment in common, neither a beginning nor an end
abbrev pub ShareNoMoment : Op → Op → Type 0
ShareNoMoment a b = (moment : Moment) → IsMomentOf a moment → ¬ IsMomentOf b moment

-- no two operations of the list have a moment in common, neither a beginning nor an end
abbrev pub HasDistinctMoments : List Op → Type 0
HasDistinctMoments ops = AllPairs ShareNoMoment ops

-- each operation that has an end ends after it began
abbrev pub HasEndsAfterBeginnings : List Op → Type 0
HasEndsAfterBeginnings ops = All (λ op. IfSome op.end (λ end. op.begin.0 < end.0)) ops

-- no two writes of the list overlap
abbrev pub HasNoOverlappingWrites : List Op → Type 0
HasNoOverlappingWrites ops = AllPairs (λ v w. IsWrite v → IsWrite w → ¬ Overlaps v w) ops

-- the second operation is a write of another id than the first, and has the value of the first
abbrev pub IsHolder : Op → Op → Type 0
IsHolder op other = (other.id ≢ op.id) × IsWrite other × (value_of other.act ≡ value_of op.act)

-- no two writes of the list have the same value
abbrev pub HasNoValueTwice : List Op → Type 0
HasNoValueTwice ops = AllPairs (λ v w. IsWrite v → IsWrite w → value_of v.act ≢ value_of w.act) ops

-- no two writes of the list have the same value, and none has the given initial value
pub record HasDistinctValues (initial : Value) (ops : List Op) : Type 0 where
  pub apart : HasNoValueTwice ops
  pub new : HasNoWrite ops initial

-- the value is the claim's initial one, and that is known
abbrev pub IsInitial : ClaimModel → Value → Type 0
IsInitial claim value = (claim.known ≡ true) × (value ≡ claim.initial)

-- no two writes of the list have the same value, and none has the claim's initial value where that is known
pub record HasOwnValues (claim : ClaimModel) (ops : List Op) : Type 0 where
  pub apart : HasNoValueTwice ops
  pub new : All (λ w. IsWrite w → ¬ IsInitial claim (value_of w.act)) ops

-- the claim permits the write: its process is a writer, and its value is in the domain, or there is no domain
pub record IsPermitted (claim : ClaimModel) (w : Op) : Type 0 where
  pub writer : may_write claim.writers w.process ≡ true
  pub value : is_in_domain claim.domain (value_of w.act) ≡ true

-- what is so after any edits: ids and moments are distinct, ends after beginnings, no moment too large, each write
-- permitted; on a safe or regular register no writes overlap, on an atomic one `HasOwnValues`
pub record StandApart (held : RegisterState) : Type 0 where
  pub ids : HasDistinctIds held.ops
  pub moments : HasDistinctMoments held.ops
  pub ends : HasEndsAfterBeginnings held.ops
  pub low : All (λ op. has_large_moment op ≡ false) held.ops
  pub allowed : All (λ w. IsWrite w → IsPermitted held.claim w) held.ops
  pub writes : held.claim.kind ≢ Atomic → HasNoOverlappingWrites held.ops
  pub values : held.claim.kind ≡ Atomic → HasOwnValues held.claim held.ops
