-- A list of slots, of which some may be empty, and the operations in them.
use Rattle.std.proofs.Common.{◌≡◌, ◌≢◌, ◌<◌, ◌≤◌, ◌+◌, ◌-◌, ℕ, zero, suc, true, false, not, List, [], ◌∷◌, ◌++◌, length, set, map, Option, Some, None, refl, sym, ap, ◌∙◌, length-append, append-nil, arith}
use Rattle.std.specs.Prelude.{Contains, filter}
use Rattle.std.specs.List.{slice_get}
use Rattle.std.specs.Option.{option_to_list}
use Rattle.intervals.specs.declared.operation.Op.{Op}
use Rattle.intervals.specs.declared.operation.OpId.{OpId}
use Rattle.intervals.specs.declared.edit.Change.{Change}
use Rattle.intervals.specs.Operation.{same_id}
use Rattle.intervals.specs.Edit.{amended, changed}
use Rattle.intervals.specs.Table.{ops_in_slots, slot_at}

-- an operation in a slot is one of the operations
pub slot_present : (slots : List (Option Op)) (i : ℕ) (op : Op) → slot_at slots i ≡ Some op → Contains (ops_in_slots slots) op
slot_present [] i op e = absurd (cc)
slot_present (None ∷ slots) zero op e = absurd (cc)
slot_present (Some a ∷ slots) zero op e = (0, omega arith, let same : a ≡ op = cc in same)
slot_present (None ∷ slots) (suc i) op e = slot_present slots i op e
slot_present (Some a ∷ slots) (suc i) op e = let h = slot_present slots i op e in (suc h.0, omega (arith, h.1), h.2)

-- each operation is in a slot
pub present_in_slot : (slots : List (Option Op)) (op : Op) → Contains (ops_in_slots slots) op → (i : ℕ) × (slot_at slots i ≡ Some op)
present_in_slot [] op h = absurd (omega (arith, h.1))
present_in_slot (None ∷ slots) op h = let k = present_in_slot slots op h in (suc k.0, k.1)
present_in_slot (Some a ∷ slots) op (zero, lt, e) = (0, ap Some e)
present_in_slot (Some a ∷ slots) op (suc k, lt, e) = let h = present_in_slot slots op (k, omega arith, e) in (suc h.0, h.1)

pub slot_within : (slots : List (Option Op)) (i : ℕ) (op : Op) → slot_at slots i ≡ Some op → i < length slots
slot_within [] i op e = absurd (cc)
slot_within (slot ∷ slots) zero op e = omega arith
slot_within (slot ∷ slots) (suc i) op e = let lt = slot_within slots i op e in omega arith

-- there are no more operations than slots
pub few_stand : (slots : List (Option Op)) → length (ops_in_slots slots) ≤ length slots
few_stand [] = omega arith
few_stand (None ∷ slots) = let le = few_stand slots in omega arith
few_stand (Some op ∷ slots) = let le = few_stand slots in omega arith

pub standing_more : (slots : List (Option Op)) (op : Op) → ops_in_slots (slots ++ Some op ∷ []) ≡ ops_in_slots slots ++ op ∷ []
standing_more [] op = refl
standing_more (None ∷ slots) op = standing_more slots op
standing_more (Some a ∷ slots) op = ap (λ ops. a ∷ ops) (standing_more slots op)

pub standing_shorter : (slots : List (Option Op)) → ops_in_slots (slots ++ None ∷ []) ≡ ops_in_slots slots
standing_shorter [] = refl
standing_shorter (None ∷ slots) = standing_shorter slots
standing_shorter (Some a ∷ slots) = ap (λ ops. a ∷ ops) (standing_shorter slots)

pub slot_at-shorter : (slots : List (Option Op)) (i : ℕ) → slot_at (slots ++ None ∷ []) i ≡ slot_at slots i
slot_at-shorter [] zero = refl
slot_at-shorter [] (suc i) = refl
slot_at-shorter (slot ∷ slots) zero = refl
slot_at-shorter (slot ∷ slots) (suc i) = slot_at-shorter slots i

last_of : (slots : List (Option Op)) (slot : Option Op) → slice_get (slots ++ slot ∷ []) (length slots) ≡ Some slot
last_of [] slot = refl
last_of (first ∷ slots) slot = last_of slots slot

-- to drop an empty slot at the end changes no operation
pub empty_popped : (before after : List (Option Op)) (popped : Option (Option Op)) → before ≡ after ++ option_to_list popped → slice_get before (length before - 1) ≡ Some None
    → (ops_in_slots after ≡ ops_in_slots before) × ((i : ℕ) → slot_at after i ≡ slot_at before i)
empty_popped before after None e last = let same : before ≡ after = e ∙ append-nil after in rw same (refl, λ i. refl)
empty_popped before after (Some slot) e last =
    let at : length before - 1 ≡ length after = omega (arith, ap length e, length-append after (slot ∷ [])) in
    let is : Some slot ≡ Some None = sym (last_of after slot) ∙ rw (at, e) at last in
    let none : slot ≡ None = cc in
    rw (e, none) (sym (standing_shorter after), λ i. sym (slot_at-shorter after i))

pub slot_at-more : (slots : List (Option Op)) (op : Op) → slot_at (slots ++ Some op ∷ []) (length slots) ≡ Some op
slot_at-more [] op = refl
slot_at-more (slot ∷ slots) op = slot_at-more slots op

pub slot_at-others : (slots : List (Option Op)) (op : Op) (j : ℕ) → j ≢ length slots → slot_at (slots ++ Some op ∷ []) j ≡ slot_at slots j
slot_at-others [] op zero other = absurd (other refl)
slot_at-others [] op (suc j) other = refl
slot_at-others (slot ∷ slots) op zero other = refl
slot_at-others (slot ∷ slots) op (suc j) other = slot_at-others slots op j (λ e. other (ap suc e))

pub slot_at-past : (slots : List (Option Op)) → slot_at slots (length slots) ≡ None
slot_at-past [] = refl
slot_at-past (slot ∷ slots) = slot_at-past slots

pub slot_at-set : (slots : List (Option Op)) (i : ℕ) (new : Option Op) → i < length slots → slot_at (set slots i new) i ≡ new
slot_at-set [] i new lt = absurd (omega arith)
slot_at-set (slot ∷ slots) zero new lt = refl
slot_at-set (slot ∷ slots) (suc i) new lt = slot_at-set slots i new (omega arith)

pub slot_at-set_others : (slots : List (Option Op)) (i : ℕ) (new : Option Op) (j : ℕ) → j ≢ i → slot_at (set slots i new) j ≡ slot_at slots j
slot_at-set_others [] i new j other = refl
slot_at-set_others (slot ∷ slots) zero new zero other = absurd (other refl)
slot_at-set_others (slot ∷ slots) zero new (suc j) other = refl
slot_at-set_others (slot ∷ slots) (suc i) new zero other = refl
slot_at-set_others (slot ∷ slots) (suc i) new (suc j) other = slot_at-set_others slots i new j (λ e. other (ap suc e))

-- no slot but this one has an operation of the id
abbrev pub IsOnlyAt : List (Option Op) → ℕ → OpId → Type 0
IsOnlyAt slots i id = (j : ℕ) (op : Op) → slot_at slots j ≡ Some op → j ≢ i → same_id op.id id ≡ false

-- no slot has an operation of the id
abbrev pub HasNone : List (Option Op) → OpId → Type 0
HasNone slots id = (j : ℕ) (op : Op) → slot_at slots j ≡ Some op → same_id op.id id ≡ false

all_kept : (slots : List (Option Op)) (id : OpId) → HasNone slots id → filter (λ op. not (same_id op.id id)) (ops_in_slots slots) ≡ ops_in_slots slots
all_kept [] id none = refl
all_kept (None ∷ slots) id none = all_kept slots id (λ j. none (suc j))
all_kept (Some a ∷ slots) id none = rw (none 0 a refl) (ap (λ ops. a ∷ ops) (all_kept slots id (λ j. none (suc j))))

all_same : (slots : List (Option Op)) (id : OpId) (change : Change) → HasNone slots id → map (amended id change) (ops_in_slots slots) ≡ ops_in_slots slots
all_same [] id change none = refl
all_same (None ∷ slots) id change none = all_same slots id change (λ j. none (suc j))
all_same (Some a ∷ slots) id change none = rw (none 0 a refl) (ap (λ ops. a ∷ ops) (all_same slots id change (λ j. none (suc j))))

later_none : (slot : Option Op) (slots : List (Option Op)) (id : OpId) → IsOnlyAt (slot ∷ slots) 0 id → HasNone slots id
later_none slot slots id only j op e = only (suc j) op e (λ h. absurd (omega arith))

later_only : (slot : Option Op) (slots : List (Option Op)) (i : ℕ) (id : OpId) → IsOnlyAt (slot ∷ slots) (suc i) id → IsOnlyAt slots i id
later_only slot slots i id only j op e other = only (suc j) op e (λ h. other (omega arith))

-- to empty a slot takes its operation out
pub standing_without : (slots : List (Option Op)) (i : ℕ) (op : Op) (id : OpId) → slot_at slots i ≡ Some op → same_id op.id id ≡ true → IsOnlyAt slots i id
    → ops_in_slots (set slots i None) ≡ filter (λ op. not (same_id op.id id)) (ops_in_slots slots)
standing_without [] i op id e t only = absurd (cc)
standing_without (None ∷ slots) zero op id e t only = absurd (cc)
standing_without (Some a ∷ slots) zero op id e t only =
    let same : a ≡ op = cc in
    let s : same_id a.id id ≡ true = ap (λ (o : Op). same_id o.id id) same ∙ t in
    rw s (sym (all_kept slots id (later_none (Some a) slots id only)))
standing_without (None ∷ slots) (suc i) op id e t only = standing_without slots i op id e t (later_only None slots i id only)
standing_without (Some a ∷ slots) (suc i) op id e t only =
    rw (only 0 a refl (λ h. absurd (omega arith))) (ap (λ ops. a ∷ ops) (standing_without slots i op id e t (later_only (Some a) slots i id only)))

pub one_less : (slots : List (Option Op)) (i : ℕ) (op : Op) → slot_at slots i ≡ Some op → length (ops_in_slots (set slots i None)) + 1 ≡ length (ops_in_slots slots)
one_less [] i op e = absurd (cc)
one_less (None ∷ slots) zero op e = absurd (cc)
one_less (Some a ∷ slots) zero op e = omega arith
one_less (None ∷ slots) (suc i) op e = one_less slots i op e
one_less (Some a ∷ slots) (suc i) op e = let h = one_less slots i op e in omega arith

-- to put the changed operation into a slot changes the one that was there
pub standing_changed : (slots : List (Option Op)) (i : ℕ) (op : Op) (id : OpId) (change : Change) → slot_at slots i ≡ Some op → same_id op.id id ≡ true → IsOnlyAt slots i id
    → ops_in_slots (set slots i (Some (changed op change))) ≡ map (amended id change) (ops_in_slots slots)
standing_changed [] i op id change e t only = absurd (cc)
standing_changed (None ∷ slots) zero op id change e t only = absurd (cc)
standing_changed (Some a ∷ slots) zero op id change e t only =
    let same : a ≡ op = cc in
    let s : same_id a.id id ≡ true = ap (λ (o : Op). same_id o.id id) same ∙ t in
    rw (s, ← same) (ap (λ ops. changed a change ∷ ops) (sym (all_same slots id change (later_none (Some a) slots id only))))
standing_changed (None ∷ slots) (suc i) op id change e t only = standing_changed slots i op id change e t (later_only None slots i id only)
standing_changed (Some a ∷ slots) (suc i) op id change e t only =
    rw (only 0 a refl (λ h. absurd (omega arith))) (ap (λ ops. a ∷ ops) (standing_changed slots i op id change e t (later_only (Some a) slots i id only)))

pub as_many : (slots : List (Option Op)) (i : ℕ) (op new : Op) → slot_at slots i ≡ Some op → length (ops_in_slots (set slots i (Some new))) ≡ length (ops_in_slots slots)
as_many [] i op new e = absurd (cc)
as_many (None ∷ slots) zero op new e = absurd (cc)
as_many (Some a ∷ slots) zero op new e = refl
as_many (None ∷ slots) (suc i) op new e = as_many slots i op new e
as_many (Some a ∷ slots) (suc i) op new e = let h = as_many slots i op new e in omega arith
