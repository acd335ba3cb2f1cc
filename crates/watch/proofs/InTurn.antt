-- Of one trace what is held back waits in turn, and none of it is due.
use Rattle.std.proofs.Common.{◌≡◌, ◌⊎◌, inl, inr, ℕ, zero, suc, ◌+◌, ◌≤◌, Bool, true, false, ◌&&◌, ◌||◌, nat_le, slice_index_or, List, [], ◌∷◌, ◌++◌, length, All, refl, sym, ap, subst, ◌∙◌, arith, append_assoc, append-nil}
use Rattle.std.proofs.lemmas.Bool.Decides.{nat_tests}
use Rattle.std.proofs.lemmas.List.Elements.{All-cons, All-head, All-nil, All-tail, All-weaker}
use Rattle.logs.specs.declared.notice.Notice.{Notice}
use Rattle.records.specs.Run.{at_most_u64}
use Rattle.watch.specs.declared.settling.Advance.{Advance}
use Rattle.watch.specs.declared.settling.Advance.TheVariants.{Over, Took}
use Rattle.watch.specs.declared.settling.Held.{Held}
use Rattle.watch.specs.declared.settling.FeederProgress.{FeederProgress}
use Rattle.watch.specs.Due.{AreDueFirst, AreHeldFrom, WaitInTurn, WaitLonger, advanced_at, has_come, has_due, is_due, is_of_another, least_of, most_of, until_of}

longer_without : (least : ℕ) (front back : List Held) (one : Held) → WaitLonger least (front ++ one ∷ back) → WaitLonger least (front ++ back)
longer_without least [] back one is = is.1
longer_without least (first ∷ front) back one is = (is.0, longer_without least front back one is.1)

in_turn_without : (most : ℕ) (front back : List Held) (one : Held) → WaitInTurn most (front ++ one ∷ back) → WaitInTurn most (front ++ back)
in_turn_without most [] back one is = is.3
in_turn_without most (first ∷ front) back one is = (is.0, is.1, longer_without (least_of first) front back one is.2, in_turn_without most front back one is.3)

in_turn_after : (most : ℕ) (front back : List Held) → WaitInTurn most (front ++ back) → WaitInTurn most back
in_turn_after most [] back is = is
in_turn_after most (first ∷ front) back is = in_turn_after most front back is.3

in_turn_longer : (most more : ℕ) (held : List Held) → most ≤ more → WaitInTurn most held → WaitInTurn more held
in_turn_longer most more [] le is = tt
in_turn_longer most more (one ∷ held) le is = (is.0, omega (arith, is.1, le), is.2, in_turn_longer most more held le is.3)

longer_on : (least : ℕ) (held : List Held) (one : Held) → WaitLonger least held → (one.placed.feeder ≡ 0 → least ≤ least_of one) → WaitLonger least (held ++ one ∷ [])
longer_on least [] one is longer = (longer, tt)
longer_on least (first ∷ held) one is longer = (is.0, longer_on least held one is.1 longer)

-- it waits for one feeder alone, and if it is of that feeder, as long as it may
abbrev WaitsLongest : ℕ → Held → Type 0
WaitsLongest most one = (length one.until.items ≡ 1) × (least_of one ≤ most) × (one.placed.feeder ≡ 0 → least_of one ≡ most)

in_turn_on : (most : ℕ) (held : List Held) (one : Held) → WaitInTurn most held → WaitsLongest most one → WaitInTurn most (held ++ one ∷ [])
in_turn_on most [] one is waits = (waits.0, waits.1, tt, tt)
in_turn_on most (first ∷ held) one is waits =
    (is.0, is.1, longer_on (least_of first) held one is.2 (λ own. omega (arith, is.1, waits.2 own)), in_turn_on most held one is.3 waits)

in_turn_all : (most : ℕ) (held new : List Held) → WaitInTurn most held → All (WaitsLongest most) new → WaitInTurn most (held ++ new)
in_turn_all most held [] is waits = subst (WaitInTurn most) (sym (append-nil held)) is
in_turn_all most held (one ∷ new) is waits =
    subst (WaitInTurn most) (append_assoc held (one ∷ []) new)
    (in_turn_all most (held ++ one ∷ []) new (in_turn_on most held one is (All-head (WaitsLongest most) one new waits)) (All-tail (WaitsLongest most) one new waits))

waits_by : (settle feeder : ℕ) (one : FeederProgress) (until : List ℕ) → until ≡ until_of (one ∷ []) settle feeder
    → (length until ≡ 1) × (slice_index_or until 0 0 ≤ most_of settle one) × (feeder ≡ 0 → slice_index_or until 0 0 ≡ most_of settle one)
waits_by settle zero one until is = rw is (refl, omega arith, λ own. refl)
waits_by settle (suc feeder) one until is = rw is (refl, omega arith, λ own. absurd (omega (arith, own)))

-- what is held back after a notice is in turn where that before it was
pub held_in_turn : (settle : ℕ) (progress : List FeederProgress) (one : FeederProgress) (notice : Notice) (before now : List Held) → progress ≡ one ∷ [] → WaitInTurn (most_of settle one) before
    → AreHeldFrom progress settle notice before now → WaitInTurn (most_of settle one) now
held_in_turn settle progress one notice before now alone turn is =
    subst (WaitInTurn (most_of settle one)) (sym is.parts) (in_turn_all (most_of settle one) is.left is.new left_turn new_waits)
  where
    left_turn : WaitInTurn (most_of settle one) is.left
    left_turn = by_order is.in_order
      where
        by_order : (is.left ≡ before) ⊎ ((front : List Held) × (back : List Held) × (held : Held) × (before ≡ front ++ held ∷ back) × (is.left ≡ front ++ back)) → WaitInTurn (most_of settle one) is.left
        by_order (inl same) = subst (WaitInTurn (most_of settle one)) (sym same) turn
        by_order (inr (front, back, held, was, left)) =
            subst (WaitInTurn (most_of settle one)) (sym left) (in_turn_without (most_of settle one) front back held (subst (WaitInTurn (most_of settle one)) was turn))

    new_waits : All (WaitsLongest (most_of settle one)) is.new
    new_waits = All-weaker (λ held. (is_of_another notice held ≡ false) × (held.until.items ≡ until_of progress settle held.placed.feeder)) (WaitsLongest (most_of settle one))
        (λ held waits. waits_by settle held.placed.feeder one held.until.items (waits.1 ∙ ap (λ (list : List FeederProgress). until_of list settle held.placed.feeder) alone)) is.new is.waits

pub due_in_turn : (most : ℕ) (progress : List FeederProgress) (before now : List Held) → AreDueFirst progress before now → WaitInTurn most before → WaitInTurn most now
due_in_turn most progress before now is turn = in_turn_after most is.0 now (subst (WaitInTurn most) is.1 turn)

abbrev taken_first : List FeederProgress → ℕ
taken_first [] = 0
taken_first (one ∷ progress) = one.taken

pub length_advanced : (progress : List FeederProgress) (feeder : ℕ) (by : Advance) → length (advanced_at progress feeder by) ≡ length progress
length_advanced [] feeder by = refl
length_advanced (one ∷ progress) zero by = refl
length_advanced (one ∷ progress) (suc feeder) by = ap suc (length_advanced progress feeder by)

-- where one feeder is there after one went on, it was there alone before
pub one_before : (settle : ℕ) (progress : List FeederProgress) (feeder : ℕ) (by : Advance) (after : FeederProgress) → advanced_at progress feeder by ≡ after ∷ []
    → (one : FeederProgress) × (progress ≡ one ∷ []) × (most_of settle one ≤ most_of settle after)
one_before settle [] feeder by after is = absurd (let none = ap (length {A = FeederProgress}) is in omega (arith, none))
one_before settle (one ∷ []) zero Took after is = let same : at_most_u64 (one.taken + 1) ≡ after.taken = ap taken_first is in (one, refl, omega (arith, same))
one_before settle (one ∷ []) zero Over after is = let same : one.taken ≡ after.taken = ap taken_first is in (one, refl, omega (arith, same))
one_before settle (one ∷ []) (suc feeder) by after is = let same : one.taken ≡ after.taken = ap taken_first is in (one, refl, omega (arith, same))
one_before settle (one ∷ other ∷ progress) zero by after is = absurd (let many = ap (length {A = FeederProgress}) is in omega (arith, many))
one_before settle (one ∷ other ∷ progress) (suc feeder) by after is = absurd (let many = ap (length {A = FeederProgress}) is in omega (arith, many, length_advanced (other ∷ progress) feeder by))

pub advanced_in_turn : (settle : ℕ) (progress : List FeederProgress) (feeder : ℕ) (by : Advance) (held : List Held)
    → ((one : FeederProgress) → progress ≡ one ∷ [] → WaitInTurn (most_of settle one) held)
    → (after : FeederProgress) → advanced_at progress feeder by ≡ after ∷ [] → WaitInTurn (most_of settle after) held
advanced_in_turn settle progress feeder by held turn after is =
    let found = one_before settle progress feeder by after is in
    in_turn_longer (most_of settle found.0) (most_of settle after) held found.2 (turn found.0 found.1)

-- ---- none is due

and_true : (b : Bool) → (b && true) ≡ b
and_true true = refl
and_true false = refl

due_of : (one : FeederProgress) (until : List ℕ) → length until ≡ 1 → is_due until (one ∷ []) ≡ has_come one (slice_index_or until 0 0)
due_of one [] long = absurd (omega (arith, long))
due_of one (least ∷ []) long = and_true (has_come one least)
due_of one (least ∷ other ∷ until) long = absurd (omega (arith, long))

later_not : (over : Bool) (taken least more : ℕ) → least ≤ more → (over || nat_le least taken) ≡ false → (over || nat_le more taken) ≡ false
later_not true taken least more le not = not
later_not false taken least more le not = grind (arith, nat_tests)

none_of : (most least : ℕ) (one : FeederProgress) (held : List Held) → has_come one least ≡ false → WaitLonger least held → WaitInTurn most held
    → All (λ held. held.placed.feeder ≡ 0 → is_due held.until.items (one ∷ []) ≡ false) held
none_of most least one [] not longer turn = All-nil _
none_of most least one (held ∷ later) not longer turn =
    All-cons (λ held. held.placed.feeder ≡ 0 → is_due held.until.items (one ∷ []) ≡ false) held later
    (λ own. due_of one held.until.items turn.0 ∙ later_not one.over one.taken least (least_of held) (longer.0 own) not)
    (none_of most least one later not longer.1 turn.3)

none_held : (most : ℕ) (one : FeederProgress) (held : List Held) → WaitInTurn most held → has_due held (one ∷ []) ≡ false
    → All (λ held. held.placed.feeder ≡ 0 → is_due held.until.items (one ∷ []) ≡ false) held
none_held most one [] turn not = All-nil _
none_held most one (first ∷ later) turn not =
    All-cons (λ held. held.placed.feeder ≡ 0 → is_due held.until.items (one ∷ []) ≡ false) first later (λ own. not)
    (none_of most (least_of first) one later (sym (due_of one first.until.items turn.0) ∙ not) turn.2 turn.3)

pub none_due : (settle : ℕ) (progress : List FeederProgress) (one : FeederProgress) (held : List Held) → progress ≡ one ∷ [] → WaitInTurn (most_of settle one) held → has_due held progress ≡ false
    → All (λ held. held.placed.feeder ≡ 0 → is_due held.until.items progress ≡ false) held
none_due settle progress one held alone turn not =
    subst (λ (list : List FeederProgress). All (λ held. held.placed.feeder ≡ 0 → is_due held.until.items list ≡ false) held) (sym alone)
    (none_held (most_of settle one) one held turn (subst (λ (list : List FeederProgress). has_due held list ≡ false) alone not))
