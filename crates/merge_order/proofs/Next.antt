-- Which element comes next of whole lists: the heads of the lists decide.
use Rattle.std.proofs.Common.{◌≡◌, ℕ, zero, suc, true, false, List, [], ◌∷◌, map, Option, refl, sym, ap, subst, ◌∙◌}
use Rattle.std.specs.List.{AllByRecursion}
use Rattle.intervals.specs.declared.operation.Moment.{Moment}
use Rattle.merge_order.specs.Order.{BeginsWith, ComesNext, IsNextHead, goes_before, head_of}
use Rattle.merge_order.specs.declared.heads.TraceHead.{TraceHead}
use Rattle.merge_order.specs.declared.heads.TraceHead.TheVariants.{Ended, Waiting}
use Rattle.merge_order.proofs.Before.{not_after, one_way}
use Rattle.merge_order.proofs.NextHead.{HasEnded, one_next_head}

module _ {X : Type 0} (moment : X → Option Moment) where
  -- the head of the list does not go before the element
  abbrev pub IsNotEarlier : X → List X → Type 0
  IsNotEarlier x xs = goes_before (head_of moment xs) (Waiting (moment x)) ≡ false

  abbrev heads_of : List (List X) → List TraceHead
  heads_of lists = map (head_of moment) lists

  head_begins : (xs : List X) (x : X) → BeginsWith xs x → head_of moment xs ≡ Waiting (moment x)
  head_begins [] x begins = absurd begins
  head_begins (y ∷ ys) x begins = ap (λ (z : X). Waiting (moment z)) begins

  later_heads : (x : X) (lists : List (List X)) → AllByRecursion (IsNotEarlier x) lists → AllByRecursion (λ later. goes_before later (Waiting (moment x)) ≡ false) (heads_of lists)
  later_heads x [] all = tt
  later_heads x (xs ∷ lists) all = (all.0, later_heads x lists all.1)

  later_lists : (x : X) (lists : List (List X)) → AllByRecursion (λ later. goes_before later (Waiting (moment x)) ≡ false) (heads_of lists) → AllByRecursion (IsNotEarlier x) lists
  later_lists x [] all = tt
  later_lists x (xs ∷ lists) all = (all.0, later_lists x lists all.1)

  -- what comes next of the lists waits at the head that comes next
  pub head_is_next : (lists : List (List X)) (at : ℕ) (x : X) → ComesNext moment lists at x → IsNextHead (heads_of lists) at (moment x)
  head_is_next [] at x next = next
  head_is_next (xs ∷ lists) zero x next = (head_begins xs x next.0, later_heads x lists next.1)
  head_is_next (xs ∷ lists) (suc at) x next = (next.0, head_is_next lists at x next.1)

  -- what waits at the head that comes next is an element that comes next of the lists
  pub element_is_next : (lists : List (List X)) (at : ℕ) (m : Option Moment) → IsNextHead (heads_of lists) at m → (x : X) × (moment x ≡ m) × ComesNext moment lists at x
  element_is_next [] at m next = absurd next
  element_is_next ([] ∷ lists) zero m next = let ended : Ended ≡ Waiting m = next.0 in absurd (cc)
  element_is_next ((x ∷ xs) ∷ lists) zero m next =
      let same : moment x ≡ m = cc in
      (x, same, (refl, later_lists x lists (subst (λ (n : Option Moment). AllByRecursion (λ later. goes_before later (Waiting n) ≡ false) (heads_of lists)) (sym same) next.1)))
  element_is_next (xs ∷ lists) (suc at) m next =
      let rest = element_is_next lists at m next.1 in
      (rest.0, rest.1, (subst (λ (n : Option Moment). goes_before (Waiting n) (head_of moment xs) ≡ true) (sym rest.1) next.0, rest.2))

  one_element : (lists : List (List X)) (at : ℕ) (x y : X) → ComesNext moment lists at x → ComesNext moment lists at y → x ≡ y
  one_element [] at x y h k = absurd h
  one_element ([] ∷ lists) zero x y h k = absurd h.0
  one_element ((z ∷ zs) ∷ lists) zero x y h k = sym h.0 ∙ k.0
  one_element (xs ∷ lists) (suc at) x y h k = one_element lists at x y h.1 k.1

  -- one element comes next
  pub one_next : (lists : List (List X)) (a b : ℕ) (x y : X) → ComesNext moment lists a x → ComesNext moment lists b y → (a ≡ b) × (x ≡ y)
  one_next lists a b x y h k =
      let number = (one_next_head (heads_of lists) a b (moment x) (moment y) (head_is_next lists a x h) (head_is_next lists b y k)).0 in
      (number, one_element lists b x y (subst (λ (n : ℕ). ComesNext moment lists n x) number h) k)

  -- none does where all lists are empty
  pub none_next : (lists : List (List X)) (at : ℕ) (x : X) → AllByRecursion (λ xs. xs ≡ []) lists → ComesNext moment lists at x → ⊥
  none_next [] at x empty next = next
  none_next ([] ∷ lists) zero x empty next = next.0
  none_next ((y ∷ ys) ∷ lists) zero x empty next = let no = empty.0 in absurd (cc)
  none_next (xs ∷ lists) (suc at) x empty next = none_next lists at x empty.1 next.1

  -- all lists are empty exactly where all heads have ended
  pub empty_lists : (lists : List (List X)) → AllByRecursion HasEnded (heads_of lists) → AllByRecursion (λ xs. xs ≡ []) lists
  empty_lists [] ended = tt
  empty_lists ([] ∷ lists) ended = (refl, empty_lists lists ended.1)
  empty_lists ((x ∷ xs) ∷ lists) ended = let no = ended.0 in absurd (cc)

  pub ended_heads : (lists : List (List X)) → AllByRecursion (λ xs. xs ≡ []) lists → AllByRecursion HasEnded (heads_of lists)
  ended_heads [] empty = tt
  ended_heads (xs ∷ lists) empty = (ap (head_of moment) empty.0, ended_heads lists empty.1)

  -- no head goes before an element where all lists are empty, or where what comes next of them does not
  pub empty_not_earlier : (lists : List (List X)) (x : X) → AllByRecursion (λ xs. xs ≡ []) lists → AllByRecursion (IsNotEarlier x) lists
  empty_not_earlier [] x empty = tt
  empty_not_earlier (xs ∷ lists) x empty = (subst (IsNotEarlier x) (sym empty.0) refl, empty_not_earlier lists x empty.1)

  later_not_earlier : (lists : List (List X)) (x y : X) → AllByRecursion (IsNotEarlier y) lists → goes_before (Waiting (moment y)) (Waiting (moment x)) ≡ false → AllByRecursion (IsNotEarlier x) lists
  later_not_earlier [] x y all not = tt
  later_not_earlier (xs ∷ lists) x y all not = (not_after (head_of moment xs) (Waiting (moment y)) (Waiting (moment x)) all.0 not, later_not_earlier lists x y all.1 not)

  pub next_not_earlier : (lists : List (List X)) (at : ℕ) (x y : X) → ComesNext moment lists at y → goes_before (Waiting (moment y)) (Waiting (moment x)) ≡ false → AllByRecursion (IsNotEarlier x) lists
  next_not_earlier [] at x y next not = absurd next
  next_not_earlier (xs ∷ lists) zero x y next not =
      (subst (λ (head : TraceHead). goes_before head (Waiting (moment x)) ≡ false) (sym (head_begins xs y next.0)) not, later_not_earlier lists x y next.1 not)
  next_not_earlier (xs ∷ lists) (suc at) x y next not =
      (not_after (head_of moment xs) (Waiting (moment y)) (Waiting (moment x)) (one_way (Waiting (moment y)) (head_of moment xs) next.0) not, next_not_earlier lists at x y next.1 not)
