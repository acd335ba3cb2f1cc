-- What the look-ups by id and by moment find, and that they still do after an edit.
use Rattle.std.proofs.Common.{◌≡◌, ◌≢◌, ◌==◌, ℕ, zero, suc, inl, inr, ◌⊎◌, Bool, true, false, not, ◌&&◌, List, [], ◌∷◌, ◌++◌, length, set, map, Option, Some, None, refl, sym, ap, subst, ◌∙◌, cond}
use Rattle.std.specs.Borrow.{Bor}
use Rattle.std.specs.Prelude.{IfSome, IsSome, option_map}
use Rattle.std.proofs.lemmas.Bool.Decides.{Decides-eqb, Decides-or}
use Rattle.std.proofs.lemmas.List.Elements.{All-contains}
use Rattle.intervals.specs.declared.operation.Op.{Op}
use Rattle.intervals.specs.declared.operation.OpId.{OpId}
use Rattle.intervals.specs.declared.operation.Moment.{Moment}
use Rattle.intervals.specs.declared.edit.Change.{Change}
use Rattle.intervals.specs.declared.edit.Edit.TheVariants.{Append, Amend}
use Rattle.intervals.specs.Operation.{same_id}
use Rattle.intervals.specs.Edit.{op_of, amended, changed, edited, new_op}
use Rattle.intervals.specs.Refusal.{is_at, is_moment_of, find_other_with, moments_refusal, first_refusal}
use Rattle.intervals.specs.Standing.{IsMomentOf, ShareNoMoment}
use Rattle.intervals.specs.Table.{ops_in_slots, slot_at, IsIndexed}
use Rattle.intervals.proofs.Accepted.{shares_none, moments_accepted}
use Rattle.intervals.proofs.Found.{find-None, find-Some}
use Rattle.intervals.proofs.Ids.{Decides-same_id_is, same_id-refl, none_of, not_taken, other_way}
use Rattle.intervals.proofs.Slots.{slot_present, present_in_slot, slot_within, slot_at-more, slot_at-others, slot_at-past, slot_at-set, slot_at-set_others, standing_changed, IsOnlyAt}

abbrev is_moment_of_next : Option Op → Moment → Bool
is_moment_of_next None moment = false
is_moment_of_next (Some op) moment = is_moment_of op moment

abbrev has_id : Option Op → OpId → Bool
has_id None id = false
has_id (Some op) id = same_id op.id id

abbrev id_of : Option Op → Option OpId
id_of None = None
id_of (Some op) = Some op.id

some_is : {X : Type 0} (a b : X) → Some a ≡ Some b → a ≡ b
some_is a b e = cc

-- the optional holder of a moment, or none where it is the operation itself
abbrev pub other_of : Option OpId → OpId → Option OpId
other_of None id = None
other_of (Some holder) id = cond (same_id holder id) None (Some holder)

not_other : (a b : Bool) → (not a && b) ≡ false → b ≡ true → a ≡ true
not_other true b e t = refl
not_other false b e t = absurd (cc)

both : (a b : Bool) → (not a && b) ≡ true → (a ≡ false) × (b ≡ true)
both true b e = absurd (cc)
both false b e = (refl, e)

same_moment : (a b : Moment) → a.0 ≡ b.0 → a ≡ b
same_moment a b e = ap {B = Moment} (λ n. record { 0 = n }) e

-- where the test of a moment passes, the operation has the moment
pub moment_of : (op : Op) (m : Moment) → is_moment_of op m ≡ true → IsMomentOf op m
moment_of op m t = by_cases ((Decides-or (op.begin.0 == m.0) (is_at op.end m) (Decides-eqb op.begin.0 m.0) (λ t. t, λ t. t)).0 t)
  where
    by_end : (end : Option Moment) → is_at end m ≡ true → end ≡ Some m
    by_end None t = absurd (cc)
    by_end (Some end) t = ap Some (same_moment end m ((Decides-eqb end.0 m.0).0 t))

    by_cases : (op.begin.0 ≡ m.0) ⊎ (is_at op.end m ≡ true) → IsMomentOf op m
    by_cases (inl e) = inl (same_moment op.begin m e)
    by_cases (inr t) = inr (by_end op.end t)

-- what follows of an optional thing
pub if_some : {X : Type 0} (P Q : X → Type 0) → ((x : X) → P x → Q x) → (o : Option X) → IfSome o P → IfSome o Q
if_some P Q f None p = tt
if_some P Q f (Some x) p = f x p

-- the operation that an amendment makes has the amendment's id
pub left_id : (ops : List Op) (id : OpId) (change : Change) (new : Op) → new_op ops (Amend id change) ≡ Some new → id ≡ new.id
left_id ops id change new left = by_cases (op_of ops id) refl left
  where
    by_cases : (o : Option Op) → op_of ops id ≡ o → option_map (λ op. changed op change) o ≡ Some new → id ≡ new.id
    by_cases None o e = absurd (cc)
    by_cases (Some op) o e =
        let own : op.id ≡ id = (Decides-same_id_is op.id id).0 (find-Some (λ op. same_id op.id id) ops op o).1 in
        sym own ∙ ap (λ (a : Op). a.id) (some_is (changed op change) new e)

-- where an amendment makes an operation, one of its id stands
pub left_present : (ops : List Op) (id : OpId) (change : Change) (new : Op) → new_op ops (Amend id change) ≡ Some new → IsSome (op_of ops new.id)
left_present ops id change new left = subst (λ (id : OpId). IsSome (op_of ops id)) (left_id ops id change new left) (by_cases (op_of ops id) left)
  where
    by_cases : (o : Option Op) → option_map (λ op. changed op change) o ≡ Some new → IsSome o
    by_cases None e = absurd (cc)
    by_cases (Some op) e = refl

module _ (at : ℕ → Option Op) (place : OpId → Option ℕ) (holder : Moment → Option OpId) (indexed : IsIndexed at place holder) where
  -- two operations of one id are in one slot
  one_slot : (i j : ℕ) (a b : Op) → at i ≡ Some a → at j ≡ Some b → a.id ≡ b.id → i ≡ j
  one_slot i j a b e f same = some_is i j (sym (indexed.placed i a e) ∙ (ap place same ∙ indexed.placed j b f))

  -- two operations of one moment are in one slot
  one_holder : (i j : ℕ) (a b : Op) (m : Moment) → at i ≡ Some a → at j ≡ Some b → is_moment_of a m ≡ true → is_moment_of b m ≡ true → i ≡ j
  one_holder i j a b m e f s t = one_slot i j a b e f (some_is a.id b.id (sym (indexed.held i a m e s) ∙ indexed.held j b m f t))

  pub one_id : (i : ℕ) (a : Op) (id : OpId) → at i ≡ Some a → same_id a.id id ≡ true → (j : ℕ) (b : Op) → at j ≡ Some b → j ≢ i → same_id b.id id ≡ false
  one_id i a id e t j b f other = by_cases (same_id b.id id) refl
    where
      by_cases : (s : Bool) → same_id b.id id ≡ s → s ≡ false
      by_cases false s = refl
      by_cases true s = absurd (other (one_slot j i b a f e ((Decides-same_id_is b.id id).0 s ∙ sym ((Decides-same_id_is a.id id).0 t))))

  -- the look-ups, where one slot gets another operation, or none
  module _ (at' : ℕ → Option Op) (place' : OpId → Option ℕ) (holder' : Moment → Option OpId) (i : ℕ) (old new : Option Op)
      (was : at i ≡ old) (is : at' i ≡ new) (others : (j : ℕ) → j ≢ i → at' j ≡ at j)
      (places : (id : OpId) → place' id ≡ cond (has_id new id) (Some i) (cond (has_id old id) None (place id)))
      (holders : (m : Moment) → holder' m ≡ cond (is_moment_of_next new m) (id_of new) (cond (is_moment_of_next old m) None (holder m)))
      (new_id : (j : ℕ) (op : Op) → at j ≡ Some op → j ≢ i → has_id new op.id ≡ false)
      (new_moments : (j : ℕ) (op : Op) → at j ≡ Some op → j ≢ i → (m : Moment) → is_moment_of op m ≡ true → is_moment_of_next new m ≡ false) where
    old_id : (o : Option Op) → at i ≡ o → (j : ℕ) (op : Op) → at j ≡ Some op → j ≢ i → has_id o op.id ≡ false
    old_id None e j op f other = refl
    old_id (Some o) e j op f other = by_cases (same_id o.id op.id) refl
      where
        by_cases : (s : Bool) → same_id o.id op.id ≡ s → s ≡ false
        by_cases false s = refl
        by_cases true s = absurd (other (one_slot j i op o f e (sym ((Decides-same_id_is o.id op.id).0 s))))

    old_moments : (o : Option Op) → at i ≡ o → (j : ℕ) (op : Op) → at j ≡ Some op → j ≢ i → (m : Moment) → is_moment_of op m ≡ true → is_moment_of_next o m ≡ false
    old_moments None e j op f other m t = refl
    old_moments (Some o) e j op f other m t = by_cases (is_moment_of o m) refl
      where
        by_cases : (s : Bool) → is_moment_of o m ≡ s → s ≡ false
        by_cases false s = refl
        by_cases true s = absurd (other (one_holder j i op o m f e t s))

    by_slot : (j : ℕ) → (j ≡ i) ⊎ (j ≢ i)
    by_slot j = by_cases (j == i) refl
      where
        by_cases : (t : Bool) → (j == i) ≡ t → (j ≡ i) ⊎ (j ≢ i)
        by_cases true t = inl ((Decides-eqb j i).0 t)
        by_cases false t = inr (λ e. let s = (Decides-eqb j i).1 e in absurd (cc))

    new_placed : (n : Option Op) → new ≡ n → (op : Op) → n ≡ Some op → place' op.id ≡ Some i
    new_placed n e op f = places op.id ∙ rw (e ∙ f) (rw (same_id-refl op.id) refl)

    new_held : (op : Op) (m : Moment) → new ≡ Some op → is_moment_of op m ≡ true → holder' m ≡ Some op.id
    new_held op m e t = holders m ∙ rw e (rw t refl)

    placed : (j : ℕ) (op : Op) → at' j ≡ Some op → place' op.id ≡ Some j
    placed j op e = by_cases (by_slot j)
      where
        by_cases : (j ≡ i) ⊎ (j ≢ i) → place' op.id ≡ Some j
        by_cases (inl same) = new_placed new refl op (sym is ∙ (ap at' (sym same) ∙ e)) ∙ ap Some (sym same)
        by_cases (inr other) =
            let f = sym (others j other) ∙ e in
            places op.id ∙ rw (new_id j op f other, old_id old was j op f other) (indexed.placed j op f)

    held : (j : ℕ) (op : Op) (m : Moment) → at' j ≡ Some op → is_moment_of op m ≡ true → holder' m ≡ Some op.id
    held j op m e t = by_cases (by_slot j)
      where
        by_cases : (j ≡ i) ⊎ (j ≢ i) → holder' m ≡ Some op.id
        by_cases (inl same) = new_held op m (sym is ∙ (ap at' (sym same) ∙ e)) t
        by_cases (inr other) =
            let f = sym (others j other) ∙ e in
            holders m ∙ rw (new_moments j op f other m t, old_moments old was j op f other m t) (indexed.held j op m f t)

    -- an operation that passes a test which the old one fails is in another slot
    elsewhere : (P : Option Op → Bool) (k : ℕ) (op : Op) → P old ≡ false → at k ≡ Some op → P (Some op) ≡ true → k ≢ i
    elsewhere P k op f e t same = let s : old ≡ Some op = sym was ∙ (ap at (sym same) ∙ e) in let u = ap P s in absurd (cc)

    there : (id : OpId) (k : ℕ) → place' id ≡ Some k → (op : Op) × (at' k ≡ Some op) × (same_id op.id id ≡ true)
    there id k e = by_new new refl (has_id new id) refl (sym (places id) ∙ e)
      where
        by_old : (t : Bool) → has_id old id ≡ t → cond t None (place id) ≡ Some k → (op : Op) × (at' k ≡ Some op) × (same_id op.id id ≡ true)
        by_old true t e = absurd (cc)
        by_old false t e =
            let h = indexed.there id k e in
            (h.0, others k (elsewhere (λ o. has_id o id) k h.0 t h.1 h.2) ∙ h.1, h.2)

        by_new : (n : Option Op) → new ≡ n → (t : Bool) → has_id n id ≡ t → cond t (Some i) (cond (has_id old id) None (place id)) ≡ Some k → (op : Op) × (at' k ≡ Some op) × (same_id op.id id ≡ true)
        by_new n s false t e = by_old (has_id old id) refl e
        by_new None s true t e = absurd (cc)
        by_new (Some op) s true t e = (op, ap at' (sym (some_is i k e)) ∙ (is ∙ s), t)

    holds : (m : Moment) (id : OpId) → holder' m ≡ Some id → (k : ℕ) × (op : Op) × (at' k ≡ Some op) × (is_moment_of op m ≡ true) × (op.id ≡ id)
    holds m id e = by_new new refl (is_moment_of_next new m) refl (sym (holders m) ∙ e)
      where
        by_old : (t : Bool) → is_moment_of_next old m ≡ t → cond t None (holder m) ≡ Some id → (k : ℕ) × (op : Op) × (at' k ≡ Some op) × (is_moment_of op m ≡ true) × (op.id ≡ id)
        by_old true t e = absurd (cc)
        by_old false t e =
            let h = indexed.holds m id e in
            (h.0, h.1, others h.0 (elsewhere (λ o. is_moment_of_next o m) h.0 h.1 t h.2 h.3) ∙ h.2, h.3, h.4)

        by_new : (n : Option Op) → new ≡ n → (t : Bool) → is_moment_of_next n m ≡ t → cond t (id_of n) (cond (is_moment_of_next old m) None (holder m)) ≡ Some id → (k : ℕ) × (op : Op) × (at' k ≡ Some op) × (is_moment_of op m ≡ true) × (op.id ≡ id)
        by_new n s false t e = by_old (is_moment_of_next old m) refl e
        by_new None s true t e = absurd (cc)
        by_new (Some op) s true t e = (i, op, is ∙ s, t, some_is op.id id e)

    pub indexed_after : IsIndexed at' place' holder'
    indexed_after = record { placed = placed; there = there; held = held; holds = holds }

none_at : (i : ℕ) → slot_at [] i ≡ None
none_at zero = refl
none_at (suc i) = refl

-- with no slots nothing is found
pub indexed_none : (place : OpId → Option ℕ) (holder : Moment → Option OpId) → ((id : OpId) → place id ≡ None) → ((m : Moment) → holder m ≡ None) → IsIndexed (slot_at []) place holder
indexed_none place holder no_place no_holder = record {
  placed = λ i op e. let none = none_at i in absurd (cc);
  there = λ id i e. let none = no_place id in absurd (cc);
  held = λ i op m e t. let none = none_at i in absurd (cc);
  holds = λ m id e. let none = no_holder m in absurd (cc);
}

-- look-ups that find the same things are as good
pub indexed_alike : (at at' : ℕ → Option Op) (place place' : OpId → Option ℕ) (holder holder' : Moment → Option OpId) → IsIndexed at place holder
    → ((i : ℕ) → at' i ≡ at i) → ((id : OpId) → place' id ≡ place id) → ((m : Moment) → holder' m ≡ holder m) → IsIndexed at' place' holder'
indexed_alike at at' place place' holder holder' indexed e f g = record {
  placed = λ i op h. f op.id ∙ indexed.placed i op (sym (e i) ∙ h);
  there = λ id i h. let (op, k, same) = indexed.there id i (sym (f id) ∙ h) in (op, e i ∙ k, same);
  held = λ i op m h t. g m ∙ indexed.held i op m (sym (e i) ∙ h) t;
  holds = λ m id h. let (i, op, k, t, same) = indexed.holds m id (sym (g m) ∙ h) in (i, op, e i ∙ k, t, same);
}

module _ (slots : List (Option Op)) (place : OpId → Option ℕ) (holder : Moment → Option OpId) (indexed : IsIndexed (slot_at slots) place holder) where
  -- what is in the slot of an id has that id
  pub has_own_id : (id : OpId) (i : ℕ) (op : Op) → place id ≡ Some i → slot_at slots i ≡ Some op → same_id op.id id ≡ true
  has_own_id id i op p e = let h = indexed.there id i p in let same : h.0 ≡ op = some_is h.0 op (sym h.1 ∙ e) in ap (λ (o : Op). same_id o.id id) (sym same) ∙ h.2

  -- what is in the slot of an id is the operation of that id
  pub found_in_slot : (id : OpId) (i : ℕ) (op : Op) → place id ≡ Some i → slot_at slots i ≡ Some op → op_of (ops_in_slots slots) id ≡ Some op
  found_in_slot id i op p e = by_cases (op_of (ops_in_slots slots) id) refl
    where
      has : same_id op.id id ≡ true
      has = has_own_id id i op p e

      by_cases : (o : Option Op) → op_of (ops_in_slots slots) id ≡ o → o ≡ Some op
      by_cases None o = let t : same_id op.id id ≡ true = has in let f = All-contains (λ op. same_id op.id id ≡ false) (ops_in_slots slots) op (none_of (ops_in_slots slots) id o) (slot_present slots i op e) in absurd (cc)
      by_cases (Some a) o =
          let h = find-Some (λ op. same_id op.id id) (ops_in_slots slots) a o in
          let k = present_in_slot slots a h.0 in
          let same = one_slot (slot_at slots) place holder indexed k.0 i a op k.1 e ((Decides-same_id_is a.id id).0 h.1 ∙ sym ((Decides-same_id_is op.id id).0 has)) in
          sym k.1 ∙ (ap (slot_at slots) same ∙ e)

  -- where an id has no slot, no operation has it
  pub none_in_slot : (id : OpId) → ((i : ℕ) → place id ≡ Some i → slot_at slots i ≡ None) → op_of (ops_in_slots slots) id ≡ None
  none_in_slot id none = by_cases (op_of (ops_in_slots slots) id) refl
    where
      by_cases : (o : Option Op) → op_of (ops_in_slots slots) id ≡ o → o ≡ None
      by_cases None o = refl
      by_cases (Some a) o =
          let h = find-Some (λ op. same_id op.id id) (ops_in_slots slots) a o in
          let k = present_in_slot slots a h.0 in
          let e = none k.0 (ap place (sym ((Decides-same_id_is a.id id).0 h.1)) ∙ indexed.placed k.0 a k.1) in
          absurd (cc)

  -- what is found of an id, or that nothing is
  pub found_or_none : (id : OpId) (found : Option (ℕ × Bor Op)) → IfSome found (λ one. place id ≡ Some one.0) → IfSome found (λ one. slot_at slots one.0 ≡ Some one.1.now)
      → (found ≡ None → (i : ℕ) → place id ≡ Some i → slot_at slots i ≡ None) → option_map (λ one. one.1.now) found ≡ op_of (ops_in_slots slots) id
  found_or_none id None placed at none = sym (none_in_slot id (none refl))
  found_or_none id (Some one) placed at none = sym (found_in_slot id one.0 one.1.now placed at)

  -- the holder of a moment, unless it is the operation itself, is the other one that has it
  pub other_found : (id : OpId) (m : Moment) → other_of (holder m) id ≡ option_map (λ op. op.id) (find_other_with (ops_in_slots slots) id m)
  other_found id m = by_cases (find_other_with (ops_in_slots slots) id m) refl (holder m) refl
    where
      by_cases : (o : Option Op) → find_other_with (ops_in_slots slots) id m ≡ o → (h : Option OpId) → holder m ≡ h → other_of h id ≡ option_map (λ op. op.id) o
      by_cases None o None h = refl
      by_cases None o (Some holder_id) h =
          let (k, a, e, t, same) = indexed.holds m holder_id h in
          let none = All-contains (λ op. (not (same_id op.id id) && is_moment_of op m) ≡ false) (ops_in_slots slots) a (find-None (λ op. not (same_id op.id id) && is_moment_of op m) (ops_in_slots slots) o) (slot_present slots k a e) in
          let own : same_id a.id id ≡ true = not_other (same_id a.id id) (is_moment_of a m) none t in
          rw (← same, own) refl
      by_cases (Some x) o h e =
          let f = find-Some (λ op. not (same_id op.id id) && is_moment_of op m) (ops_in_slots slots) x o in
          let k = present_in_slot slots x f.0 in
          let (apart, t) = both (same_id x.id id) (is_moment_of x m) f.1 in
          let s : h ≡ Some x.id = sym e ∙ indexed.held k.0 x m k.1 t in
          rw (s, apart) refl

  -- the other operation that has a moment, by what the look-up found
  pub other_is : (id : OpId) (m : Moment) (found : Option OpId) (ops : List Op) → found ≡ holder m → ops_in_slots slots ≡ ops → other_of found id ≡ option_map (λ op. op.id) (find_other_with ops id m)
  other_is id m found ops e f = rw (e, ← f) (other_found id m)

  -- the moments of a new operation that is not refused are not those of another
  pub moments_free : (new : Op) → moments_refusal (ops_in_slots slots) new ≡ None → (j : ℕ) (op : Op) → slot_at slots j ≡ Some op → same_id op.id new.id ≡ false → (m : Moment) → is_moment_of op m ≡ true → is_moment_of new m ≡ false
  moments_free new accepted j op e apart m t = by_cases (is_moment_of new m) refl
    where
      by_cases : (s : Bool) → is_moment_of new m ≡ s → s ≡ false
      by_cases false s = refl
      by_cases true s = absurd (All-contains (λ other. same_id other.id new.id ≡ false → ShareNoMoment new other) (ops_in_slots slots) op (shares_none (ops_in_slots slots) new accepted) (slot_present slots j op e) apart m (moment_of new m s) (moment_of op m t))

  -- the id of a new operation that may be appended is not that of another
  pub id_free : (new : Op) → op_of (ops_in_slots slots) new.id ≡ None → (j : ℕ) (op : Op) → slot_at slots j ≡ Some op → same_id op.id new.id ≡ false
  id_free new none j op e = All-contains (λ op. same_id op.id new.id ≡ false) (ops_in_slots slots) op (none_of (ops_in_slots slots) new.id none) (slot_present slots j op e)

  -- no slot but that of the id has an operation of it
  pub only_there : (id : OpId) (i : ℕ) (op : Op) → place id ≡ Some i → slot_at slots i ≡ Some op → IsOnlyAt slots i id
  only_there id i op p e = one_id (slot_at slots) place holder indexed i op id e (has_own_id id i op p e)

  -- the new operation of an amendment is that of the slot, changed
  new_in_slot : (id : OpId) (change : Change) (i : ℕ) (op : Op) → place id ≡ Some i → slot_at slots i ≡ Some op → new_op (ops_in_slots slots) (Amend id change) ≡ Some (changed op change)
  new_in_slot id change i op p e = ap (option_map (λ op. changed op change)) (found_in_slot id i op p e)

  pub indexed_appended : (op : Op) (i : ℕ) (place' : OpId → Option ℕ) (holder' : Moment → Option OpId) → first_refusal (ops_in_slots slots) (Append op) ≡ None → i ≡ length slots
      → ((id : OpId) → place' id ≡ cond (same_id op.id id) (Some i) (place id))
      → ((m : Moment) → holder' m ≡ cond (is_moment_of op m) (Some op.id) (holder m))
      → IsIndexed (slot_at (slots ++ Some op ∷ [])) place' holder'
  indexed_appended op i place' holder' accepted at_end places holders =
      indexed_after (slot_at slots) place holder indexed (slot_at (slots ++ Some op ∷ [])) place' holder' (length slots) None (Some op)
      (slot_at-past slots) (slot_at-more slots op) (slot_at-others slots op) (λ id. rw (← at_end) (places id)) holders
      (λ j other e apart. other_way other.id op.id (id_free op none j other e))
      (λ j other e apart. moments_free op (moments_accepted (ops_in_slots slots) (Append op) op accepted refl) j other e (id_free op none j other e))
    where
      none : op_of (ops_in_slots slots) op.id ≡ None
      none = not_taken (op_of (ops_in_slots slots) op.id) (moments_refusal (ops_in_slots slots) op) accepted

  pub indexed_amended : (new : Op) (i : ℕ) (op : Op) (holder' : Moment → Option OpId) → moments_refusal (ops_in_slots slots) new ≡ None → op.id ≡ new.id → slot_at slots i ≡ Some op
      → ((m : Moment) → holder' m ≡ cond (is_moment_of new m) (Some new.id) (cond (is_moment_of op m) None (holder m)))
      → IsIndexed (slot_at (set slots i (Some new))) place holder'
  indexed_amended new i op holder' accepted same e holders =
      indexed_after (slot_at slots) place holder indexed (slot_at (set slots i (Some new))) place holder' i (Some op) (Some new)
      e (slot_at-set slots i (Some new) (slot_within slots i op e)) (slot_at-set_others slots i (Some new)) places holders
      (λ j other f apart. other_way other.id new.id (elsewhere_other j other f apart))
      (λ j other f apart. moments_free new accepted j other f (elsewhere_other j other f apart))
    where
      elsewhere_other : (j : ℕ) (other : Op) → slot_at slots j ≡ Some other → j ≢ i → same_id other.id new.id ≡ false
      elsewhere_other = one_id (slot_at slots) place holder indexed i op new.id e ((Decides-same_id_is op.id new.id).1 same)

      by_id : (q : OpId) (t : Bool) → same_id op.id q ≡ t → place q ≡ cond t (Some i) (cond t None (place q))
      by_id q false t = refl
      by_id q true t = ap place (sym ((Decides-same_id_is op.id q).0 t)) ∙ indexed.placed i op e

      places : (q : OpId) → place q ≡ cond (same_id new.id q) (Some i) (cond (same_id op.id q) None (place q))
      places q = subst (λ (id : OpId). place q ≡ cond (same_id id q) (Some i) (cond (same_id op.id q) None (place q))) same (by_id q (same_id op.id q) refl)

  -- to put the operation that an amendment makes into the slot of its id gives the edited operations
  pub standing_left : (id : OpId) (change : Change) (i : ℕ) (op new : Op) → place new.id ≡ Some i → slot_at slots i ≡ Some op → new_op (ops_in_slots slots) (Amend id change) ≡ Some new
      → ops_in_slots (set slots i (Some new)) ≡ edited (ops_in_slots slots) (Amend id change)
  standing_left id change i op new p e left =
      let there : place id ≡ Some i = ap place (left_id (ops_in_slots slots) id change new left) ∙ p in
      let is : changed op change ≡ new = some_is (changed op change) new (sym (new_in_slot id change i op there e) ∙ left) in
      subst (λ (o : Op). ops_in_slots (set slots i (Some o)) ≡ map (amended id change) (ops_in_slots slots)) is
      (standing_changed slots i op id change e (has_own_id id i op there e) (only_there id i op there e))

  pub indexed_without : (id : OpId) (i : ℕ) (op : Op) (place' : OpId → Option ℕ) (holder' : Moment → Option OpId) → place id ≡ Some i → slot_at slots i ≡ Some op
      → ((q : OpId) → place' q ≡ cond (same_id id q) None (place q))
      → ((m : Moment) → holder' m ≡ cond (is_moment_of op m) None (holder m))
      → IsIndexed (slot_at (set slots i None)) place' holder'
  indexed_without id i op place' holder' p e places holders =
      indexed_after (slot_at slots) place holder indexed (slot_at (set slots i None)) place' holder' i (Some op) None
      e (slot_at-set slots i None (slot_within slots i op e)) (slot_at-set_others slots i None)
      (λ q. places q ∙ ap (λ (o : OpId). cond (same_id o q) None (place q)) (sym ((Decides-same_id_is op.id id).0 (has_own_id id i op p e)))) holders
      (λ j other f apart. refl) (λ j other f apart m t. refl)
