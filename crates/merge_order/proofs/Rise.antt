-- Where the moments of each list rise, those of the one order do.
use Rattle.std.proofs.Common.{◌≡◌, ◌≤◌, ℕ, zero, suc, false, List, [], ◌∷◌, map, Option, Some, None, IfSome, subst, arith}
use Rattle.std.specs.List.{AllByRecursion}
use Rattle.std.proofs.lemmas.Bool.{ltb-false}
use Rattle.intervals.specs.declared.operation.Moment.{Moment}
use Rattle.merge_order.specs.Order.{AreInOneOrder, AreNotFalling, ComesNext, MomentsRise, goes_first, head_of, left_after}
use Rattle.merge_order.specs.declared.heads.TraceHead.TheVariants.{Waiting}
use Rattle.merge_order.proofs.Before.{one_way}
use Rattle.merge_order.proofs.Next.{IsNotEarlier}

not_falling : (a b : Option Moment) → goes_first b a ≡ false → IfSome a (λ m. IfSome b (λ n. m.0 ≤ n.0))
not_falling None b not = tt
not_falling (Some a) None not = absurd (cc)
not_falling (Some a) (Some b) not = ltb-false b.0 a.0 not

not_falling_later : (a b c : Option Moment) → goes_first b a ≡ false → IfSome b (λ m. IfSome c (λ n. m.0 ≤ n.0)) → IfSome a (λ m. IfSome c (λ n. m.0 ≤ n.0))
not_falling_later None b c not rise = tt
not_falling_later (Some a) None c not rise = absurd (cc)
not_falling_later (Some a) (Some b) None not rise = tt
not_falling_later (Some a) (Some b) (Some c) not rise = omega (arith, ltb-false b.0 a.0 not, rise)

module _ {X : Type 0} (moment : X → Option Moment) where
  each_later : (x y : X) (ys : List X) → goes_first (moment y) (moment x) ≡ false → AllByRecursion (AreNotFalling moment y) ys → AllByRecursion (AreNotFalling moment x) ys
  each_later x y [] not all = tt
  each_later x y (z ∷ ys) not all = (not_falling_later (moment x) (moment y) (moment z) not all.0, each_later x y ys not all.1)

  -- the list comes after the element, since its head does
  list_after : (x : X) (xs : List X) → IsNotEarlier moment x xs → MomentsRise moment xs → AllByRecursion (AreNotFalling moment x) xs
  list_after x [] not rise = tt
  list_after x (y ∷ ys) not rise = (not_falling (moment x) (moment y) not, each_later x y ys not rise.0)

  lists_after : (x : X) (lists : List (List X)) → AllByRecursion (IsNotEarlier moment x) lists → AllByRecursion (MomentsRise moment) lists → AllByRecursion (AllByRecursion (AreNotFalling moment x)) lists
  lists_after x [] not rise = tt
  lists_after x (xs ∷ lists) not rise = (list_after x xs not.0 rise.0, lists_after x lists not.1 rise.1)

  -- all that is left comes after the next element
  rest_after : (lists : List (List X)) (at : ℕ) (x : X) → ComesNext moment lists at x → AllByRecursion (MomentsRise moment) lists → AllByRecursion (AllByRecursion (AreNotFalling moment x)) (left_after at lists)
  rest_after [] at x next rise = absurd next
  rest_after ([] ∷ lists) zero x next rise = absurd next.0
  rest_after ((y ∷ ys) ∷ lists) zero x next rise = (subst (λ (z : X). AllByRecursion (AreNotFalling moment z) ys) next.0 rise.0.0, lists_after x lists next.1 rise.1)
  rest_after (xs ∷ lists) (suc at) x next rise =
      (list_after x xs (one_way (Waiting (moment x)) (head_of moment xs) next.0) rise.0, rest_after lists at x next.1 rise.1)

  rest_rise : (lists : List (List X)) (at : ℕ) → AllByRecursion (MomentsRise moment) lists → AllByRecursion (MomentsRise moment) (left_after at lists)
  rest_rise [] at rise = tt
  rest_rise ([] ∷ lists) zero rise = rise
  rest_rise ((x ∷ xs) ∷ lists) zero rise = (rise.0.1, rise.1)
  rest_rise (xs ∷ lists) (suc at) rise = (rise.0, rest_rise lists at rise.1)

  -- what is so of all elements of the lists
  module _ (P : X → Type 0) where
    of_next : (lists : List (List X)) (at : ℕ) (x : X) → ComesNext moment lists at x → AllByRecursion (AllByRecursion P) lists → P x
    of_next [] at x next all = absurd next
    of_next ([] ∷ lists) zero x next all = absurd next.0
    of_next ((y ∷ ys) ∷ lists) zero x next all = subst P next.0 all.0.0
    of_next (xs ∷ lists) (suc at) x next all = of_next lists at x next.1 all.1

    of_rest : (lists : List (List X)) (at : ℕ) → AllByRecursion (AllByRecursion P) lists → AllByRecursion (AllByRecursion P) (left_after at lists)
    of_rest [] at all = tt
    of_rest ([] ∷ lists) zero all = all
    of_rest ((x ∷ xs) ∷ lists) zero all = (all.0.1, all.1)
    of_rest (xs ∷ lists) (suc at) all = (all.0, of_rest lists at all.1)

    of_order : (lists : List (List X)) (order : List (ℕ × X)) → AreInOneOrder moment lists order → AllByRecursion (AllByRecursion P) lists → AllByRecursion P (map (λ one. one.1) order)
    of_order lists [] h all = tt
    of_order lists (one ∷ order) h all = (of_next lists one.0 one.1 h.0 all, of_order (left_after one.0 lists) order h.1 (of_rest lists one.0 all))

  pub order_rises : (lists : List (List X)) (order : List (ℕ × X)) → AreInOneOrder moment lists order → AllByRecursion (MomentsRise moment) lists → MomentsRise moment (map (λ one. one.1) order)
  order_rises lists [] h rise = tt
  order_rises lists (one ∷ order) h rise = (
    of_order (AreNotFalling moment one.1) (left_after one.0 lists) order h.1 (rest_after lists one.0 one.1 h.0 rise),
    order_rises (left_after one.0 lists) order h.1 (rest_rise lists one.0 rise),
  )
