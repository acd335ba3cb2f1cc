-- The elements of several traces in one order. Of those at the heads of the traces one that carries no moment comes next,
-- else the one with the least moment; of two alike, that of the earlier trace.
use Rattle.std.specs.Prelude.{◌≡◌, ◌≤◌, ◌==◌, ℕ, zero, suc, Bool, true, false, nat_lt, List, [], ◌∷◌, map, filter, drop, Option, Some, None, IfSome, if◌then◌else◌}
use Rattle.std.specs.List.{AllByRecursion}
use Rattle.intervals.specs.declared.operation.Moment.{Moment}
use Rattle.merge_order.specs.declared.heads.TraceHead.{TraceHead}
use Rattle.merge_order.specs.declared.heads.TraceHead.TheVariants.{Ended, Waiting}

-- whether an element with the first optional moment goes before one with the second: one that carries no moment goes
-- before each that carries one, and a lesser moment before a greater
abbrev pub goes_first : Option Moment → Option Moment → Bool
goes_first None None = false
goes_first None (Some b) = true
goes_first (Some a) None = false
goes_first (Some a) (Some b) = nat_lt a.0 b.0

-- whether what waits at the first head goes before what waits at the second; where a trace has ended, whatever waits goes
-- before that
abbrev pub goes_before : TraceHead → TraceHead → Bool
goes_before Ended b = false
goes_before (Waiting a) Ended = true
goes_before (Waiting a) (Waiting b) = goes_first a b

-- an element with this optional moment waits at the head of this number, and comes next: it goes before what waits at
-- each earlier head, and what waits at a later head does not go before it
abbrev pub IsNextHead : List TraceHead → ℕ → Option Moment → Type 0
IsNextHead [] at moment = ⊥
IsNextHead (head ∷ heads) zero moment = (head ≡ Waiting moment) × AllByRecursion (λ later. goes_before later (Waiting moment) ≡ false) heads
IsNextHead (head ∷ heads) (suc at) moment = (goes_before (Waiting moment) head ≡ true) × IsNextHead heads at moment

-- the list begins with the element
abbrev pub BeginsWith : {X : Type 0} → List X → X → Type 0
BeginsWith [] x = ⊥
BeginsWith (y ∷ ys) x = y ≡ x

-- what is left of the lists once the first element of the list of this number is taken
abbrev pub left_after : {X : Type 0} → ℕ → List (List X) → List (List X)
left_after at [] = []
left_after zero (xs ∷ lists) = drop 1 xs ∷ lists
left_after (suc at) (xs ∷ lists) = xs ∷ left_after at lists

-- of elements, each with the number of its list, those of the list of this number, in their order
abbrev pub elements_from : {X : Type 0} → ℕ → List (ℕ × X) → List X
elements_from at order = map (λ one. one.1) (filter (λ one. one.0 == at) order)

module _ {X : Type 0} (moment : X → Option Moment) where
  -- the head of a trace of which these elements are left
  abbrev pub head_of : List X → TraceHead
  head_of [] = Ended
  head_of (x ∷ xs) = Waiting (moment x)

  -- the element is the first of the list of this number, and comes next of all: it goes before the first of each earlier
  -- list, and the first of a later list does not go before it
  abbrev pub ComesNext : List (List X) → ℕ → X → Type 0
  ComesNext [] at x = ⊥
  ComesNext (xs ∷ lists) zero x = BeginsWith xs x × AllByRecursion (λ later. goes_before (head_of later) (Waiting (moment x)) ≡ false) lists
  ComesNext (xs ∷ lists) (suc at) x = (goes_before (Waiting (moment x)) (head_of xs) ≡ true) × ComesNext lists at x

  -- all elements of the lists in one order, each with the number of its list: each comes next of those that are left
  abbrev pub AreInOneOrder : List (List X) → List (ℕ × X) → Type 0
  AreInOneOrder lists [] = AllByRecursion (λ xs. xs ≡ []) lists
  AreInOneOrder lists (one ∷ order) = ComesNext lists one.0 one.1 × AreInOneOrder (left_after one.0 lists) order

  -- the elements of a first list and those of later lists, which are in one order, in one order
  abbrev pub merged_with : List X → List (ℕ × X) → List (ℕ × X)
  merged_with [] later = map (λ one. (suc one.0, one.1)) later
  merged_with (x ∷ xs) [] = (0, x) ∷ merged_with xs []
  merged_with (x ∷ xs) (one ∷ later) = if goes_first (moment one.1) (moment x) then (suc one.0, one.1) ∷ merged_with (x ∷ xs) later else (0, x) ∷ merged_with xs (one ∷ later)

  -- all elements of the lists in one order, as it is computed: list by list, from the last one on
  abbrev pub in_one_order : List (List X) → List (ℕ × X)
  in_one_order [] = []
  in_one_order (xs ∷ lists) = merged_with xs (in_one_order lists)

  -- the moment of the second element is not before that of the first, where both carry one
  abbrev pub AreNotFalling : X → X → Type 0
  AreNotFalling x y = IfSome (moment x) (λ m. IfSome (moment y) (λ n. m.0 ≤ n.0))

  -- the moments of the elements do not fall from any one to a later one
  abbrev pub MomentsRise : List X → Type 0
  MomentsRise [] = Unit {0}
  MomentsRise (x ∷ xs) = AllByRecursion (AreNotFalling x) xs × MomentsRise xs
