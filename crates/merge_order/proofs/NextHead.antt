-- Whose element comes next, by the heads: at most one, and how it is found when one head after the other is looked at.
use Rattle.std.proofs.Common.{◌≡◌, ◌↔◌, ℕ, zero, suc, true, false, List, [], ◌∷◌, ◌++◌, All, length, take, get_or, Option, Some, None, refl, sym, ap, subst, subst₂, ◌∙◌, ◌<◌, ◌+◌, take-suc, length-take-le, arith}
use Rattle.std.specs.List.{AllByRecursion}
use Rattle.std.proofs.lemmas.List.Elements.{All-from_recursion, recursion_from_All}
use Rattle.intervals.specs.declared.operation.Moment.{Moment}
use Rattle.merge_order.specs.Order.{IsNextHead, goes_before}
use Rattle.merge_order.specs.declared.heads.TraceHead.{TraceHead}
use Rattle.merge_order.specs.declared.heads.TraceHead.TheVariants.{Ended, Waiting}
use Rattle.merge_order.proofs.Before.{goes_over, has_ended, not_before_none, one_way}

abbrev GoesBefore : Option Moment → TraceHead → Type 0
GoesBefore moment head = goes_before (Waiting moment) head ≡ true

abbrev IsNotBefore : Option Moment → TraceHead → Type 0
IsNotBefore moment head = goes_before head (Waiting moment) ≡ false

abbrev pub HasEnded : TraceHead → Type 0
HasEnded head = head ≡ Ended

abbrev moment_in : TraceHead → Option Moment
moment_in Ended = None
moment_in (Waiting moment) = moment

-- of heads none of which goes before an element, that which comes next does not either
not_over_next : (heads : List TraceHead) (at : ℕ) (m n : Option Moment) → AllByRecursion (IsNotBefore m) heads → IsNextHead heads at n → GoesBefore n (Waiting m) → ⊥
not_over_next [] at m n all next before = next
not_over_next (head ∷ heads) zero m n all next before =
    let not : goes_before (Waiting n) (Waiting m) ≡ false = subst (IsNotBefore m) next.0 all.0 in absurd (cc)
not_over_next (head ∷ heads) (suc at) m n all next before = not_over_next heads at m n all.1 next.1 before

-- one head comes next
pub one_next_head : (heads : List TraceHead) (a b : ℕ) (m n : Option Moment) → IsNextHead heads a m → IsNextHead heads b n → (a ≡ b) × (m ≡ n)
one_next_head [] a b m n h k = absurd h
one_next_head (head ∷ heads) zero zero m n h k = (refl, ap moment_in (sym h.0 ∙ k.0))
one_next_head (head ∷ heads) zero (suc b) m n h k = absurd (not_over_next heads b m n h.1 k.1 (subst (GoesBefore n) h.0 k.0))
one_next_head (head ∷ heads) (suc a) zero m n h k = absurd (not_over_next heads a n m k.1 h.1 (subst (GoesBefore m) k.0 h.0))
one_next_head (head ∷ heads) (suc a) (suc b) m n h k = let rest = one_next_head heads a b m n h.1 k.1 in (ap suc rest.0, rest.1)

-- none comes next where all have ended
none_next_head : (heads : List TraceHead) (at : ℕ) (m : Option Moment) → AllByRecursion HasEnded heads → IsNextHead heads at m → ⊥
none_next_head [] at m ended next = next
none_next_head (head ∷ heads) zero m ended next = let waits : Ended ≡ Waiting m = sym ended.0 ∙ next.0 in absurd (cc)
none_next_head (head ∷ heads) (suc at) m ended next = none_next_head heads at m ended.1 next.1

each_and_last : (P : TraceHead → Type 0) (heads : List TraceHead) (head : TraceHead) → AllByRecursion P heads → P head → AllByRecursion P (heads ++ head ∷ [])
each_and_last P [] head all last = (last, tt)
each_and_last P (one ∷ heads) head all last = (all.0, each_and_last P heads head all.1 last)

-- one more head, which does not go before the next one
next_head_stays : (heads : List TraceHead) (at : ℕ) (m : Option Moment) (head : TraceHead) → IsNextHead heads at m → IsNotBefore m head → IsNextHead (heads ++ head ∷ []) at m
next_head_stays [] at m head next not = absurd next
next_head_stays (one ∷ heads) zero m head next not = (next.0, each_and_last (IsNotBefore m) heads head next.1 not)
next_head_stays (one ∷ heads) (suc at) m head next not = (next.0, next_head_stays heads at m head next.1 not)

-- one more head, which goes before all others
last_is_next : (heads : List TraceHead) (m : Option Moment) → AllByRecursion (GoesBefore m) heads → IsNextHead (heads ++ Waiting m ∷ []) (length heads) m
last_is_next [] m all = (refl, tt)
last_is_next (head ∷ heads) m all = (all.0, last_is_next heads m all.1)

over_ended : (heads : List TraceHead) (m : Option Moment) → AllByRecursion HasEnded heads → AllByRecursion (GoesBefore m) heads
over_ended [] m ended = tt
over_ended (head ∷ heads) m ended = (subst (GoesBefore m) (sym ended.0) refl, over_ended heads m ended.1)

over_later : (heads : List TraceHead) (m n : Option Moment) → GoesBefore m (Waiting n) → AllByRecursion (IsNotBefore n) heads → AllByRecursion (GoesBefore m) heads
over_later [] m n before all = tt
over_later (head ∷ heads) m n before all = (goes_over (Waiting m) (Waiting n) head before all.0, over_later heads m n before all.1)

-- what goes before the next one goes before all
over_next : (heads : List TraceHead) (at : ℕ) (m n : Option Moment) → GoesBefore m (Waiting n) → IsNextHead heads at n → AllByRecursion (GoesBefore m) heads
over_next [] at m n before next = tt
over_next (head ∷ heads) zero m n before next = (subst (GoesBefore m) (sym next.0) before, over_later heads m n before next.1)
over_next (head ∷ heads) (suc at) m n before next =
    (goes_over (Waiting m) (Waiting n) head before (one_way (Waiting n) head next.0), over_next heads at m n before next.1)

-- the optional number of the head that comes next, with that head: none where all have ended
abbrev pub IsLeast : List TraceHead → Option ℕ → TraceHead → Type 0
IsLeast heads None least = (least ≡ Ended) × AllByRecursion HasEnded heads
IsLeast heads (Some at) least = (moment : Option Moment) × (least ≡ Waiting moment) × IsNextHead heads at moment

-- one more head that does not go before the least one, or does
least_stays : (heads : List TraceHead) (next : Option ℕ) (least head : TraceHead) → IsLeast heads next least → goes_before head least ≡ false → IsLeast (heads ++ head ∷ []) next least
least_stays heads None least head is not =
    (is.0, each_and_last HasEnded heads head is.1 (has_ended head (subst (λ (least : TraceHead). goes_before head least ≡ false) is.0 not)))
least_stays heads (Some at) least head is not =
    (is.0, is.1, next_head_stays heads at is.0 head is.2 (subst (λ (least : TraceHead). goes_before head least ≡ false) is.1 not))

least_is_last : (heads : List TraceHead) (next : Option ℕ) (least head : TraceHead) → IsLeast heads next least → goes_before head least ≡ true → IsLeast (heads ++ head ∷ []) (Some (length heads)) head
least_is_last heads next least Ended is before = absurd (cc)
least_is_last heads None least (Waiting m) is before = (m, refl, last_is_next heads m (over_ended heads m is.1))
least_is_last heads (Some at) least (Waiting m) is before =
    (m, refl, last_is_next heads m (over_next heads at m is.0 (subst (GoesBefore m) is.1 before) is.2))

-- what the least head of all answers
pub answers_next : (heads : List TraceHead) (next : Option ℕ) (least : TraceHead) → IsLeast heads next least → (at : ℕ) → (next ≡ Some at) ↔ ((moment : Option Moment) × IsNextHead heads at moment)
answers_next heads None least is at = (λ e. absurd (cc), λ found. absurd (none_next_head heads at found.0 is.1 found.1))
answers_next heads (Some one) least is at = (next_at, λ found. ap Some (one_next_head heads one at is.0 found.0 is.2 found.1).0)
  where
    next_at : Some one ≡ Some at → (moment : Option Moment) × IsNextHead heads at moment
    next_at same = let number : one ≡ at = cc in (is.0, subst (λ (n : ℕ). IsNextHead heads n is.0) number is.2)

pub answers_none : (heads : List TraceHead) (next : Option ℕ) (least : TraceHead) → IsLeast heads next least → (next ≡ None) ↔ All HasEnded heads
answers_none heads None least is = (λ e. All-from_recursion HasEnded heads is.1, λ ended. refl)
answers_none heads (Some at) least is = (λ e. absurd (cc), λ ended. absurd (none_next_head heads at is.0 (recursion_from_All HasEnded heads ended) is.2))

-- the first heads and one more
one_more : (heads : List TraceHead) (at : ℕ) → at < length heads → take at heads ++ get_or heads at Ended ∷ [] ≡ take (at + 1) heads
one_more heads at within = let same : suc at ≡ at + 1 = omega arith in sym (take-suc heads at Ended within) ∙ ap (λ (n : ℕ). take n heads) same

pub least_stays_at : (heads : List TraceHead) (at : ℕ) (next : Option ℕ) (least : TraceHead) → at < length heads → IsLeast (take at heads) next least → goes_before (get_or heads at Ended) least ≡ false
    → IsLeast (take (at + 1) heads) next least
least_stays_at heads at next least within is not =
    subst (λ (first : List TraceHead). IsLeast first next least) (one_more heads at within) (least_stays (take at heads) next least (get_or heads at Ended) is not)

pub least_is_at : (heads : List TraceHead) (at : ℕ) (next : Option ℕ) (least : TraceHead) → at < length heads → IsLeast (take at heads) next least → goes_before (get_or heads at Ended) least ≡ true
    → IsLeast (take (at + 1) heads) (Some at) (get_or heads at Ended)
least_is_at heads at next least within is before =
    subst₂ (λ (first : List TraceHead) (n : ℕ). IsLeast first (Some n) (get_or heads at Ended)) (one_more heads at within) (length-take-le at heads (omega arith))
    (least_is_last (take at heads) next least (get_or heads at Ended) is before)

-- whatever heads come after, an element without a moment comes next where it does so without them
pub none_waits_for_earlier : (heads later : List TraceHead) (at : ℕ) → IsNextHead heads at None → IsNextHead (heads ++ later) at None
none_waits_for_earlier [] later at next = absurd next
none_waits_for_earlier (head ∷ heads) later zero next = (next.0, each_not_before (heads ++ later))
  where
    each_not_before : (heads : List TraceHead) → AllByRecursion (IsNotBefore None) heads
    each_not_before [] = tt
    each_not_before (head ∷ heads) = (not_before_none head, each_not_before heads)
none_waits_for_earlier (head ∷ heads) later (suc at) next = (next.0, none_waits_for_earlier heads later at next.1)
