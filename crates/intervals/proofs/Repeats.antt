-- The first write that repeats a value, found slot by slot.
use Rattle.std.proofs.Common.{◌≡◌, ◌≤◌, ◌+◌, ℕ, zero, suc, Bool, true, false, ◌&&◌, List, [], ◌∷◌, ◌++◌, length, Option, Some, None, refl, sym, ap, subst, ◌∙◌, cond, arith}
use Rattle.std.specs.Prelude.{All, find, option_map}
use Rattle.std.proofs.lemmas.List.Elements.{All-contains, All-head, All-tail, All-weaker}
use Rattle.intervals.specs.declared.operation.Op.{Op}
use Rattle.intervals.specs.declared.operation.OpId.{OpId}
use Rattle.intervals.specs.declared.operation.Value.{Value}
use Rattle.intervals.specs.declared.claim.Holder.{Holder}
use Rattle.intervals.specs.declared.claim.Holder.TheVariants as holders
use Rattle.intervals.specs.declared.ordered_index.OrderedIndex.{OrderedIndex}
use Rattle.intervals.specs.declared.ordered_index.Spot.{Spot}
use Rattle.intervals.specs.Edit.{op_of}
use Rattle.intervals.specs.Operation.{is_write, same_id, same_value, value_of}
use Rattle.intervals.specs.Refusal.{as_holder, holder_of, is_holder, is_initial}
use Rattle.intervals.specs.FirstWrites.{AreFirst, writes_value}
use Rattle.intervals.specs.Refusal.{first_repeat, first_there, id_with, repeat_of}
use Rattle.intervals.specs.OrderedIndex.{id_at, id_if_there, place_at, same_spot, spot_of}
use Rattle.intervals.specs.Standing.{HasDistinctIds}
use Rattle.intervals.specs.Table.{ops_in_slots, slot_at}
use Rattle.intervals.specs.Terms.{ClaimModel}
use Rattle.intervals.proofs.Agreement.{Decides-same_value}
use Rattle.intervals.proofs.Found.{not_mapped}
use Rattle.intervals.proofs.Fronts.{front_of, front_none, front_on, front_over, front_some, rest_of, rest_none, rest_past, rest_some}
use Rattle.intervals.proofs.Ids.{none_of, not_found, other_way}
use Rattle.intervals.proofs.Slots.{slot_present}

-- the first operation that passes a test, with one more at the end of the list
pub find_past : (p : Op → Bool) (ops : List Op) (op : Op) → p op ≡ false → find p (ops ++ op ∷ []) ≡ find p ops
find_past p [] op e = rw e refl
find_past p (a ∷ ops) op e = by_cases (p a) (find_past p ops op e)
  where
    by_cases : (t : Bool) → find p (ops ++ op ∷ []) ≡ find p ops → cond t (Some a) (find p (ops ++ op ∷ [])) ≡ cond t (Some a) (find p ops)
    by_cases true rest = refl
    by_cases false rest = rest

pub find_at : (p : Op → Bool) (ops : List Op) (op : Op) → p op ≡ true → find p ops ≡ None → find p (ops ++ op ∷ []) ≡ Some op
find_at p [] op t e = rw t refl
find_at p (a ∷ ops) op t e = by_cases (p a) e (find_at p ops op t)
  where
    by_cases : (b : Bool) → cond b (Some a) (find p ops) ≡ None → (find p ops ≡ None → find p (ops ++ op ∷ []) ≡ Some op) → cond b (Some a) (find p (ops ++ op ∷ [])) ≡ Some op
    by_cases true e rest = absurd (cc)
    by_cases false e rest = rest e

find_alike : (p q : Op → Bool) (ops : List Op) → All (λ op. p op ≡ q op) ops → find p ops ≡ find q ops
find_alike p q [] alike = refl
find_alike p q (a ∷ ops) alike =
    let rest = find_alike p q ops (All-tail (λ op. p op ≡ q op) a ops alike) in
    let here = All-head (λ op. p op ≡ q op) a ops alike in
    λ i. cond (here i) (Some a) (rest i)

-- among operations of other ids a holder is a write of the value
holder_is_writer : (op : Op) (before : List Op) → op_of before op.id ≡ None → find (is_holder op) before ≡ find (writes_value (value_of op.act)) before
holder_is_writer op before none =
    find_alike (is_holder op) (writes_value (value_of op.act)) before
    (All-weaker (λ o. same_id o.id op.id ≡ false) (λ o. is_holder op o ≡ writes_value (value_of op.act) o) (λ o other. rw other refl) before (none_of before op.id none))

-- the spot of the value in an index of first writes
abbrev pub at_first : Value → Spot
at_first value = spot_of value (record { 0 = 0 })

-- the repeat of a write whose value is not the initial one, by the index of first writes
pub repeat_by : (claim : ClaimModel) (before : List Op) (op : Op) (first : OrderedIndex) → is_write op ≡ true → is_initial claim (value_of op.act) ≡ false
    → AreFirst first before → op_of before op.id ≡ None → repeat_of claim before op ≡ option_map (id_with op) (option_map holders.Op (id_at first (at_first (value_of op.act))))
repeat_by claim before op first write other are none =
    ap (λ (t : Bool). cond t (option_map (id_with op) (holder_of claim before op)) None) write
    ∙ ap (λ (t : Bool). option_map (id_with op) (cond t (Some holders.Initial) (option_map as_holder (find (is_holder op) before)))) other
    ∙ ap (option_map (id_with op))
    (ap (option_map as_holder) (holder_is_writer op before none)
    ∙ by_id (find (writes_value (value_of op.act)) before)
    ∙ ap (option_map holders.Op) (sym (are (value_of op.act))))
  where
    by_id : (found : Option Op) → option_map as_holder found ≡ option_map holders.Op (option_map (λ (w : Op). w.id) found)
    by_id None = refl
    by_id (Some w) = refl

-- the index with one more operation in the list: a read does not change it
pub first_with_read : (first : OrderedIndex) (before : List Op) (op : Op) → AreFirst first before → is_write op ≡ false → AreFirst first (before ++ op ∷ [])
first_with_read first before op are read =
    λ value. are value ∙ ap (option_map (λ (w : Op). w.id)) (sym (find_past (writes_value value) before op (rw read refl)))

-- the index with one more operation in the list: the first write of a value is put there
pub first_with_write : (first held new : OrderedIndex) (before : List Op) (op : Op) (value : Value) → AreFirst first before → is_write op ≡ true → value ≡ value_of op.act → id_at first (at_first value) ≡ None
    → ((other : Spot) → id_at held other ≡ id_at first other)
    → ((other : Spot) → place_at new other ≡ cond (same_spot (at_first value) other) (Some (Some op.id)) (place_at held other))
    → AreFirst new (before ++ op ∷ [])
first_with_write first held new before op value are write value_is none same put =
    λ v. ap id_if_there (put (at_first v)) ∙ by_value v (same_value value v) refl
  where
    by_value : (v : Value) (t : Bool) → same_value value v ≡ t
        → id_if_there (cond (t && true) (Some (Some op.id)) (place_at held (at_first v))) ≡ option_map (λ (w : Op). w.id) (find (writes_value v) (before ++ op ∷ []))
    by_value v true t =
        let is : value ≡ v = (Decides-same_value value v).0 t in
        let empty : find (writes_value v) before ≡ None = not_mapped (λ (w : Op). w.id) (find (writes_value v) before) (sym (are v) ∙ subst (λ (u : Value). id_at first (at_first u) ≡ None) is none) in
        let passes : writes_value v op ≡ true = rw (write, ← value_is) t in
        ap (option_map (λ (w : Op). w.id)) (sym (find_at (writes_value v) before op passes empty))
    by_value v false t =
        let passes : writes_value v op ≡ false = rw (write, ← value_is) t in
        same (at_first v) ∙ are v ∙ ap (option_map (λ (w : Op). w.id)) (sym (find_past (writes_value v) before op passes))

-- no operation before an index has the id of the one there
pub new_at : (slots : List (Option Op)) (k : ℕ) (op : Op) → HasDistinctIds (ops_in_slots slots) → slot_at slots k ≡ Some op → op_of (front_of slots k) op.id ≡ None
new_at [] zero op distinct e = absurd (cc)
new_at [] (suc k) op distinct e = absurd (cc)
new_at (slot ∷ slots) zero op distinct e = refl
new_at (None ∷ slots) (suc k) op distinct e = new_at slots k op distinct e
new_at (Some a ∷ slots) (suc k) op distinct e =
    let later = All-contains (λ o. same_id o.id a.id ≡ false) (ops_in_slots slots) op (none_of (ops_in_slots slots) a.id distinct.0) (slot_present slots k op e) in
    not_found a (front_of slots k) op.id (other_way op.id a.id later) (new_at slots k op distinct.1 e)

more : (k : ℕ) → suc k ≡ k + 1
more k = omega arith

pub write_without : (claim : ClaimModel) (before : List Op) (op : Op) → is_write op ≡ true → holder_of claim before op ≡ None → repeat_of claim before op ≡ None
write_without claim before op write none = rw (write, none) refl

pub no_write_repeats : (claim : ClaimModel) (before : List Op) (op : Op) → is_write op ≡ false → repeat_of claim before op ≡ None
no_write_repeats claim before op read = rw read refl

module _ (claim : ClaimModel) (slots : List (Option Op)) where
  -- the first repeat is looked for from the index on: no operation before it is one
  abbrev pub Walked : ℕ → Type 0
  Walked k = first_repeat claim [] (ops_in_slots slots) ≡ first_repeat claim (front_of slots k) (rest_of slots k)

  on_from : (k : ℕ) (op : Op) → Walked k → slot_at slots k ≡ Some op
      → first_repeat claim [] (ops_in_slots slots) ≡ first_there (repeat_of claim (front_of slots k) op) (first_repeat claim (front_of slots (suc k)) (rest_of slots (suc k)))
  on_from k op walked at =
      walked
      ∙ ap (first_repeat claim (front_of slots k)) (rest_some slots k op at)
      ∙ ap (λ (front : List Op). first_there (repeat_of claim (front_of slots k) op) (first_repeat claim front (rest_of slots (suc k)))) (sym (front_some slots k op at))

  pub walked_on : (k : ℕ) (op : Op) → Walked k → slot_at slots k ≡ Some op → repeat_of claim (front_of slots k) op ≡ None → Walked (k + 1)
  walked_on k op walked at none =
      subst Walked (more k)
      (on_from k op walked at ∙ ap (λ (found : Option (OpId × Holder)). first_there found (first_repeat claim (front_of slots (suc k)) (rest_of slots (suc k)))) none)

  pub walked_to : (k : ℕ) (op : Op) (found : OpId × Holder) → Walked k → slot_at slots k ≡ Some op → repeat_of claim (front_of slots k) op ≡ Some found → first_repeat claim [] (ops_in_slots slots) ≡ Some found
  walked_to k op found walked at is =
      on_from k op walked at ∙ ap (λ (first : Option (OpId × Holder)). first_there first (first_repeat claim (front_of slots (suc k)) (rest_of slots (suc k)))) is

  pub walked_over : (k : ℕ) → Walked k → slot_at slots k ≡ None → Walked (k + 1)
  walked_over k walked at =
      subst Walked (more k)
      (walked
      ∙ ap (first_repeat claim (front_of slots k)) (rest_none slots k at)
      ∙ ap (λ (front : List Op). first_repeat claim front (rest_of slots (suc k))) (sym (front_none slots k at)))

  pub walked_all : (k : ℕ) → length slots ≤ k → Walked k → first_repeat claim [] (ops_in_slots slots) ≡ None
  walked_all k past walked = walked ∙ ap (first_repeat claim (front_of slots k)) (rest_past slots k past)

-- the index of first writes is that of the operations before the next index
pub first_on : (shelf : OrderedIndex) (slots : List (Option Op)) (k : ℕ) (op : Op) → slot_at slots k ≡ Some op → AreFirst shelf (front_of slots k ++ op ∷ []) → AreFirst shelf (front_of slots (k + 1))
first_on shelf = front_on (AreFirst shelf)

pub first_over : (shelf : OrderedIndex) (slots : List (Option Op)) (k : ℕ) → slot_at slots k ≡ None → AreFirst shelf (front_of slots k) → AreFirst shelf (front_of slots (k + 1))
first_over shelf = front_over (AreFirst shelf)
