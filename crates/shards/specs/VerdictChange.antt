-- The entries of a journal that change the verdict on their register.
use Rattle.std.specs.Prelude.{◌≡◌, ◌↔◌, List, [], ◌∷◌, ◌++◌, length, Option, Some, None, IsNone, IsTrue}
use Rattle.std.specs.List.{slice_get}
use Rattle.intervals.specs.declared.operation.Value.{Value}
use Rattle.intervals.specs.Terms.{ClaimModel, RegisterState}
use Rattle.intervals.specs.Kind.{Holds}
use Rattle.register_book.specs.declared.fault.Witness.{Witness}
use Rattle.register_book.specs.declared.fault.Fault.{Fault}
use Rattle.register_book.specs.Fault.{IsWitness, ids_of, values_shown}
use Rattle.shards.specs.declared.entry.VerdictChange.{VerdictChange}
use Rattle.shards.specs.declared.entry.Entry.{Entry}
use Rattle.shards.specs.Plan.{Plan}
use Rattle.shards.specs.Journal.{HoldsAfter, left_by}

-- the operations that show why a register fails are those of this fault, and they read or wrote these values; where there is
-- no fault there are no values
abbrev pub IsFaultShown : RegisterState → Option Fault → List (Option Value) → Type 0
IsFaultShown state None values = values ≡ None ∷ None ∷ []
IsFaultShown state (Some fault) values = (witness : Witness) × IsWitness state.claim state.ops witness × (ids_of witness ≡ fault) × (values_shown witness ≡ values)

-- an entry after these leaves the verdict on its register as it was
abbrev pub IsAsBefore : Plan → List Entry → Entry → Type 0
IsAsBefore plan before entry = HoldsAfter plan entry.register.0 before ↔ HoldsAfter plan entry.register.0 (before ++ entry ∷ [])

-- an entry after these changes the verdict on its register, to the one that the change has, with the kind that the
-- register then claims to be, how many operations stand and why it fails where it does; the number is the entry's
pub record IsVerdictChangeBy (plan : Plan) (before : List Entry) (entry : Entry) (change : VerdictChange) : Type 0 where
  pub number : change.number ≡ length before
  pub register : change.register ≡ entry.register
  pub differs : ¬ IsAsBefore plan before entry
  pub claim : ClaimModel
  pub known : slice_get plan.claims entry.register.0 ≡ Some claim
  pub kind : change.kind ≡ (left_by (before ++ entry ∷ []) entry.register.0 claim).claim.kind
  pub verdict : IsTrue change.holds ↔ Holds (left_by (before ++ entry ∷ []) entry.register.0 claim)
  pub operations : change.operations ≡ length (left_by (before ++ entry ∷ []) entry.register.0 claim).ops
  pub fault : IsFaultShown (left_by (before ++ entry ∷ []) entry.register.0 claim) change.fault change.values
  pub none : IsNone change.fault ↔ Holds (left_by (before ++ entry ∷ []) entry.register.0 claim)

-- the optional change is the one by an entry after these; none where the entry leaves the verdict on its register as it
-- was
abbrev pub IsChangeIfAny : Plan → List Entry → Entry → Option VerdictChange → Type 0
IsChangeIfAny plan before entry None = IsAsBefore plan before entry
IsChangeIfAny plan before entry (Some change) = IsVerdictChangeBy plan before entry change

-- these are the changes of verdicts by the entries of a journal, in order: no entries make none, an entry that leaves
-- the verdict as it was adds none, and one that changes it adds that change
pub data AreVerdictChanges (plan : Plan) : List Entry → List VerdictChange → Type 0 where
  no_entries : AreVerdictChanges plan [] []
  as_before : (journal : List Entry) (changes : List VerdictChange) (entry : Entry) → AreVerdictChanges plan journal changes → IsAsBefore plan journal entry → AreVerdictChanges plan (journal ++ entry ∷ []) changes
  one_changed : (journal : List Entry) (changes : List VerdictChange) (entry : Entry) (change : VerdictChange) → AreVerdictChanges plan journal changes → IsVerdictChangeBy plan journal entry change
      → AreVerdictChanges plan (journal ++ entry ∷ []) (changes ++ change ∷ [])
