-- Which operations are shown: those that are asked for are, and each operation is shown or counted.
use Rattle.std.proofs.Common.{◌≡◌, ◌∙◌, ℕ, zero, suc, ◌+◌, ◌-◌, Bool, true, false, not, List, [], ◌∷◌, length, map, Some, refl, sym, ap, subst, arith}
use Rattle.std.proofs.lemmas.Bool.{le-leb}
use Rattle.std.proofs.lemmas.List.{length-map}
use Rattle.std.proofs.lemmas.List.Sorted.{Contains-permutation, length_permutation}
use Rattle.std.proofs.lemmas.Option.{same_Some, slice_get-get_or}
use Rattle.std.specs.Prelude.{◌&&◌, ◌||◌, Contains, if◌then◌else◌, nat_le, nat_lt}
use Rattle.std.specs.List.{list_any, slice_get}
use Rattle.std.specs.List.Sorted.{IsNonDecreasingBy}
use Rattle.intervals.specs.declared.operation.Op.{Op}
use Rattle.intervals.specs.declared.operation.Moment.{Moment}
use Rattle.intervals.specs.declared.operation.OpId.{OpId}
use Rattle.timeline.specs.declared.choice.Chosen.{Chosen}
use Rattle.timeline.specs.declared.choice.Extent.{Extent}
use Rattle.timeline.specs.declared.choice.Extent.TheVariants.{All, Around}
use Rattle.timeline.specs.Choice.{IsByBeginning, IsChosen, are_near, is_among, is_far_from, is_folded, is_near, is_shown, picked, places_of}
use Rattle.timeline.proofs.Picking.{beginnings_rise, picked_rises}

-- what the loops choose from the operations in order is the choice
pub chosen_by : (ops : List Op) (ids : List OpId) (extent : Extent) (sorted listed counted : List Op) (centres places : List ℕ) (chosen : Chosen)
    → IsByBeginning ops sorted → listed ≡ sorted → counted ≡ sorted → places ≡ places_of ids 0 listed → centres ≡ places
    → chosen.shown.items ≡ picked (is_shown extent (length counted) centres) 0 counted
    → chosen.hidden.items ≡ map (λ (op : Op). op.begin) (picked (λ place. not (is_shown extent (length counted) centres place)) 0 counted)
    → IsChosen ops ids extent chosen
chosen_by ops ids extent sorted listed counted centres places chosen by_beginning is_listed is_counted are_places are_centres shown hidden =
    let all : centres ≡ places_of ids 0 sorted = are_centres ∙ are_places ∙ ap (places_of ids 0) is_listed in
    record {
      sorted = sorted;
      by_beginning = by_beginning;
      shown = shown ∙ ap (λ (xs : List Op). picked (is_shown extent (length xs) centres) 0 xs) is_counted ∙ ap (λ (cs : List ℕ). picked (is_shown extent (length sorted) cs) 0 sorted) all;
      hidden =
          hidden ∙ ap (λ (xs : List Op). map (λ (op : Op). op.begin) (picked (λ place. not (is_shown extent (length xs) centres place)) 0 xs)) is_counted
          ∙ ap (λ (cs : List ℕ). map (λ (op : Op). op.begin) (picked (λ place. not (is_shown extent (length sorted) cs place)) 0 sorted)) all;
    }

-- each element passes or does not

one_long : {X : Type 0} (passes : ℕ → Bool) (place : ℕ) (x : X) (xs : List X) (test : Bool) → passes place ≡ test
    → length (picked passes (place + 1) xs) + length (picked (λ p. not (passes p)) (place + 1) xs) ≡ length xs
    → length (picked passes place (x ∷ xs)) + length (picked (λ p. not (passes p)) place (x ∷ xs)) ≡ length (x ∷ xs)
one_long passes place x xs true is rest = rw is (omega (arith, rest))
one_long passes place x xs false is rest = rw is (omega (arith, rest))

both_long : {X : Type 0} (passes : ℕ → Bool) (place : ℕ) (xs : List X) → length (picked passes place xs) + length (picked (λ p. not (passes p)) place xs) ≡ length xs
both_long passes place [] = refl
both_long passes place (x ∷ xs) = one_long passes place x xs (passes place) refl (both_long passes (place + 1) xs)

-- the operations that are shown and those that are not are together as many as all
pub shown_and_hidden : (ops : List Op) (ids : List OpId) (extent : Extent) (chosen : Chosen) → IsChosen ops ids extent chosen → length chosen.shown.items + length chosen.hidden.items ≡ length ops
shown_and_hidden ops ids extent chosen is =
    let passes = is_shown extent (length is.sorted) (places_of ids 0 is.sorted) in
    let shown : length chosen.shown.items ≡ length (picked passes 0 is.sorted) = ap length is.shown in
    let hidden : length chosen.hidden.items ≡ length (picked (λ p. not (passes p)) 0 is.sorted) = ap length is.hidden ∙ length-map (picked (λ p. not (passes p)) 0 is.sorted) (λ (op : Op). op.begin) in
    let both = both_long passes 0 is.sorted in
    let many : length is.sorted ≡ length ops = length_permutation ops is.sorted is.by_beginning.each_once in
    omega (arith, shown, hidden, both, many)

-- an element whose place passes is picked

following : {X : Type 0} (test : Bool) (y : X) (xs : List X) (x : X) → Contains xs x → Contains (if test then y ∷ xs else xs) x
following true y xs x (k, within, is) = (suc k, omega (arith, within), is)
following false y xs x has = has

picked_has : {X : Type 0} (passes : ℕ → Bool) (k place at : ℕ) (xs : List X) (x : X) → at ≡ place + k → slice_get xs k ≡ Some x → passes at ≡ true → Contains (picked passes place xs) x
picked_has passes k place at [] x is present passed = absurd (cc)
picked_has passes zero place at (y ∷ xs) x is present passed =
    let here : at ≡ place = omega (arith, is) in
    let test : passes place ≡ true = subst (λ (p : ℕ). passes p ≡ true) here passed in
    rw test (0, omega arith, same_Some y x present)
picked_has passes (suc k) place at (y ∷ xs) x is present passed = following (passes place) y (picked passes (place + 1) xs) x (picked_has passes k (place + 1) at xs x (omega (arith, is)) present passed)

places_have : (ids : List OpId) (k place at : ℕ) (ops : List Op) (op : Op) → at ≡ place + k → slice_get ops k ≡ Some op → is_among ids op.id ≡ true → Contains (places_of ids place ops) at
places_have ids k place at [] op is present asked = absurd (cc)
places_have ids zero place at (o ∷ ops) op is present asked =
    let here : place ≡ at = omega (arith, is) in
    let test : is_among ids o.id ≡ true = subst (λ (z : Op). is_among ids z.id ≡ true) (sym (same_Some o op present)) asked in
    rw test (0, omega arith, here)
places_have ids (suc k) place at (o ∷ ops) op is present asked = following (is_among ids o.id) place (places_of ids (place + 1) ops) at (places_have ids k (place + 1) at ops op (omega (arith, is)) present asked)

-- a centre is near itself, so its place is not folded

or_true : (a b : Bool) → b ≡ true → (a || b) ≡ true
or_true true b is = refl
or_true false b is = is

any_has : (test : ℕ → Bool) (ns : List ℕ) (n : ℕ) → Contains ns n → test n ≡ true → list_any test ns ≡ true
any_has test [] n (k, within, is) passed = absurd (omega (arith, within))
any_has test (m ∷ ns) n (zero, within, is) passed = let here : test m ≡ true = subst (λ (j : ℕ). test j ≡ true) (sym is) passed in rw here refl
any_has test (m ∷ ns) n (suc k, within, is) passed = or_true (test m) (list_any test ns) (any_has test ns n (k, omega (arith, within), is) passed)

near_itself : (around : ℕ) (centres : List ℕ) (place : ℕ) → Contains centres place → is_near around centres place ≡ true
near_itself around centres place has =
    let none : place - place ≡ 0 = omega arith in
    let within : nat_le (place - place) around ≡ true = rw none (le-leb 0 around (omega arith)) in
    any_has (λ centre. are_near around centre place) centres place has (rw within refl)

and_false : (a : Bool) → (a && false) ≡ false
and_false true = refl
and_false false = refl

module _ (many around : ℕ) (centres : List ℕ) where
  far_first : (place : ℕ) → is_near around centres place ≡ true → is_far_from many around centres place ≡ false
  far_first place near = rw near (and_false (nat_lt 2 (many - place)))

  far_second : (place : ℕ) → is_near around centres (place + 1) ≡ true → is_far_from many around centres place ≡ false
  far_second place near = rw (near, and_false (not (is_near around centres place))) (and_false (nat_lt 2 (many - place)))

  far_third : (place : ℕ) → is_near around centres (place + 2) ≡ true → is_far_from many around centres place ≡ false
  far_third place near =
      rw (near, and_false (not (is_near around centres (place + 1))), and_false (not (is_near around centres place))) (and_false (nat_lt 2 (many - place)))

  none_of : (a b c : Bool) → a ≡ false → b ≡ false → c ≡ false → (a || (b || c)) ≡ false
  none_of a b c x y z = rw (x, y, z) refl

  near_is_shown : (place : ℕ) → is_near around centres place ≡ true → is_folded many around centres place ≡ false
  near_is_shown zero near = none_of _ _ _ (far_first 0 near) (far_first 0 near) (far_first 0 near)
  near_is_shown (suc zero) near = none_of _ _ _ (far_second 0 near) (far_second 0 near) (far_first 1 near)
  near_is_shown (suc (suc k)) near =
      let third : suc (suc k) ≡ k + 2 = omega arith in
      let second : suc (suc k) ≡ suc k + 1 = omega arith in
      let from_third : suc (suc k) - 2 ≡ k = omega arith in
      let from_second : suc (suc k) - 1 ≡ suc k = omega arith in
      none_of _ _ _
      (rw from_third (far_third k (subst (λ (n : ℕ). is_near around centres n ≡ true) third near)))
      (rw from_second (far_second (suc k) (subst (λ (n : ℕ). is_near around centres n ≡ true) second near)))
      (far_first (suc (suc k)) near)

shown_near : (extent : Extent) (many : ℕ) (centres : List ℕ) (place : ℕ) → Contains centres place → is_shown extent many centres place ≡ true
shown_near All many centres place has = refl
shown_near (Around around) many centres place has = let folded = near_is_shown many around centres place (near_itself around centres place has) in rw folded refl

-- an operation that is asked for is shown
pub asked_is_shown : (ops : List Op) (ids : List OpId) (extent : Extent) (chosen : Chosen) (op : Op) → IsChosen ops ids extent chosen → Contains ops op → is_among ids op.id ≡ true → Contains chosen.shown.items op
asked_is_shown ops ids extent chosen op is has asked =
    let (k, within, at) = Contains-permutation ops is.sorted op is.by_beginning.each_once has in
    let present : slice_get is.sorted k ≡ Some op = slice_get-get_or is.sorted k op within ∙ ap Some at in
    let centre = places_have ids k 0 k is.sorted op (omega arith) present asked in
    let shown = shown_near extent (length is.sorted) (places_of ids 0 is.sorted) k centre in
    subst (λ (xs : List Op). Contains xs op) (sym is.shown) (picked_has (is_shown extent (length is.sorted) (places_of ids 0 is.sorted)) k 0 k is.sorted op (omega arith) present shown)

-- the operations that are shown are in order, and so are the beginnings of the others
pub shown_rise : (ops : List Op) (ids : List OpId) (extent : Extent) (chosen : Chosen) → IsChosen ops ids extent chosen → IsNonDecreasingBy (λ (op : Op). op.begin.0) chosen.shown.items
shown_rise ops ids extent chosen is =
    subst (IsNonDecreasingBy (λ (op : Op). op.begin.0)) (sym is.shown) (picked_rises (λ (op : Op). op.begin.0) (is_shown extent (length is.sorted) (places_of ids 0 is.sorted)) 0 is.sorted is.by_beginning.in_order)

pub hidden_rise : (ops : List Op) (ids : List OpId) (extent : Extent) (chosen : Chosen) → IsChosen ops ids extent chosen → IsNonDecreasingBy (λ (moment : Moment). moment.0) chosen.hidden.items
hidden_rise ops ids extent chosen is =
    let passes : ℕ → Bool = λ place. not (is_shown extent (length is.sorted) (places_of ids 0 is.sorted) place) in
    subst (IsNonDecreasingBy (λ (moment : Moment). moment.0)) (sym is.hidden) (beginnings_rise (picked passes 0 is.sorted) (picked_rises (λ (op : Op). op.begin.0) passes 0 is.sorted is.by_beginning.in_order))
