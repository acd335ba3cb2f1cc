-- How far feeders come, and what is held back until then.
use Rattle.std.proofs.Common.{◌≡◌, ◌≢◌, ◌⊎◌, inl, inr, ℕ, zero, suc, ◌+◌, ◌<◌, ◌≤◌, Bool, true, false, not, cond, List, [], ◌∷◌, ◌++◌, length, map, refl, sym, ap, subst, ◌∙◌, arith}
use Rattle.std.specs.Prelude.{All, Contains, filter, nat_eq, slice_index_or, slice_set}
use Rattle.std.specs.List.{remove}
use Rattle.std.proofs.lemmas.Bool.Decides.{nat_tests}
use Rattle.std.proofs.lemmas.List.{append-nil, append_assoc}
use Rattle.std.proofs.lemmas.List.Elements.{All-append, All-contains_itself, All-cons, All-nil, Contains-append_cases, Contains-append_left, Contains-append_right, filter-append}
use Rattle.logs.specs.declared.notice.Notice.{Notice}
use Rattle.logs.specs.declared.notice.Notice.TheVariants.{Refused, Broke, Ended}
use Rattle.logs.specs.declared.log.LeftOut.{LeftOut}
use Rattle.logs.specs.declared.log.Broken.{Broken}
use Rattle.watch.specs.declared.settling.Advance.{Advance}
use Rattle.watch.specs.declared.settling.Advance.TheVariants.{Took}
use Rattle.watch.specs.declared.settling.Held.{Held}
use Rattle.watch.specs.declared.settling.FeederProgress.{FeederProgress}
use Rattle.watch.specs.declared.settling.PlacedChange.{PlacedChange}
use Rattle.records.specs.Run.{at_most_u64}
use Rattle.watch.specs.Due.{AreDueFirst, AreHeldFrom, advanced, advanced_at, has_due, held_notice, is_due, is_of_another, notice_of, until_of}
use Rattle.watch.specs.Settling.{says_fails}
use Rattle.watch.proofs.Members.{there}

pub set_advanced : (progress : List FeederProgress) (at : ℕ) (by : Advance) (d one : FeederProgress) → at < length progress → one ≡ advanced (slice_index_or progress at d) by → slice_set progress at one ≡ advanced_at progress at by
set_advanced [] at by d one within is = absurd (omega arith)
set_advanced (first ∷ progress) zero by d one within is = ap (λ (p : FeederProgress). p ∷ progress) is
set_advanced (first ∷ progress) (suc at) by d one within is = ap (λ (l : List FeederProgress). first ∷ l) (set_advanced progress at by d one (omega arith) is)

-- where there is no feeder of this number all stays as it is
pub none_advanced : (progress : List FeederProgress) (at : ℕ) (by : Advance) → length progress ≤ at → progress ≡ advanced_at progress at by
none_advanced [] at by past = refl
none_advanced (first ∷ progress) zero by past = absurd (omega arith)
none_advanced (first ∷ progress) (suc at) by past = ap (λ (l : List FeederProgress). first ∷ l) (none_advanced progress at by (omega arith))

one_more : (taken settle : ℕ) → at_most_u64 (at_most_u64 (taken + settle) + 1) ≡ at_most_u64 (at_most_u64 (taken + 1) + settle)
one_more taken settle = omega arith

pub set_until : (progress : List FeederProgress) (settle at d own : ℕ) → at < length progress → own ≡ at_most_u64 (slice_index_or (map (λ (one : FeederProgress). at_most_u64 (one.taken + settle)) progress) at d + 1)
    → slice_set (map (λ (one : FeederProgress). at_most_u64 (one.taken + settle)) progress) at own ≡ until_of progress settle at
set_until [] settle at d own within is = absurd (omega arith)
set_until (first ∷ progress) settle zero d own within is = ap (λ (n : ℕ). n ∷ map (λ (one : FeederProgress). at_most_u64 (one.taken + settle)) progress) (is ∙ one_more first.taken settle)
set_until (first ∷ progress) settle (suc at) d own within is = ap (λ (l : List ℕ). at_most_u64 (first.taken + settle) ∷ l) (set_until progress settle at d own (omega arith) is)

pub none_until : (progress : List FeederProgress) (settle at : ℕ) → length progress ≤ at → map (λ (one : FeederProgress). at_most_u64 (one.taken + settle)) progress ≡ until_of progress settle at
none_until progress settle at past = ap (map (λ (one : FeederProgress). at_most_u64 (one.taken + settle))) (none_advanced progress at Took past)

taken_out_of : (test : Held → Bool) (front back : List Held) (one : Held) → test one ≡ false → filter test (front ++ one ∷ back) ≡ filter test (front ++ back)
taken_out_of test front back one not =
    filter-append test front (one ∷ back) ∙ ap (λ (c : Bool). filter test front ++ cond c (one ∷ filter test back) (filter test back)) not ∙ sym (filter-append test front back)

still : (front back : List Held) (one held : Held) → Contains (front ++ back) held → Contains (front ++ one ∷ back) held
still front back one held h = by_cases (Contains-append_cases front back held h)
  where
    by_cases : Contains front held ⊎ Contains back held → Contains (front ++ one ∷ back) held
    by_cases (inl f) = Contains-append_left front (one ∷ back) held f
    by_cases (inr b) = Contains-append_right front (one ∷ back) held (there one back held b)

same_number : (n : ℕ) → nat_eq n n ≡ true
same_number n = grind (arith, nat_tests)

not_another : (placed : PlacedChange) (one : Held) → one.placed.change.register ≡ placed.change.register → is_of_another (notice_of placed) one ≡ false
not_another placed one same = let e : nat_eq one.placed.change.register.0 placed.change.register.0 ≡ true = rw same (same_number placed.change.register.0) in ap not e

-- what is left of what was held back when a notice came: all that is of another register, and nothing new
abbrev AreLeft : Notice → List Held → List Held → Type 0
AreLeft notice before left = All (Contains before) left × (filter (is_of_another notice) before ≡ filter (is_of_another notice) left)
    × ((left ≡ before) ⊎ ((front : List Held) × (back : List Held) × (one : Held) × (before ≡ front ++ one ∷ back) × (left ≡ front ++ back)))

-- where one of this register is taken out
pub left_without : (placed : PlacedChange) (before now front back : List Held) (one : Held) → before ≡ front ++ one ∷ back → now ≡ front ++ back
    → one.placed.change.register ≡ placed.change.register → AreLeft (notice_of placed) before now
left_without placed before now front back one before_is now_is same = rw (before_is, now_is) (
  λ k d within. still front back one (slice_index_or (front ++ back) k d) (All-contains_itself (front ++ back) k d within),
  taken_out_of (is_of_another (notice_of placed)) front back one (not_another placed one same),
  inr (front, back, one, refl, refl),
)

pub left_all : (notice : Notice) (before now : List Held) → now ≡ before → AreLeft notice before now
left_all notice before now same = rw same (All-contains_itself before, refl, inl refl)

-- nothing more is held back, where the notice is no failure or none is to be held back
pub none_new : (progress : List FeederProgress) (settle : ℕ) (notice : Notice) (before now : List Held) → AreLeft notice before now → (settle ≢ 0 → says_fails notice ≡ true → ⊥) → AreHeldFrom progress settle notice before now
none_new progress settle notice before now left none = record {
  left = now;
  new = [];
  parts = sym (append-nil now);
  all_left = left.0;
  others_left = left.1;
  in_order = left.2;
  waits = All-nil _;
  failure = λ some fails. absurd (none some fails);
}

-- one more of this register is held back
pub one_new : (progress : List FeederProgress) (settle : ℕ) (placed : PlacedChange) (before left now : List Held) (one : Held) → AreLeft (notice_of placed) before left → now ≡ left ++ one ∷ []
    → held_notice one ≡ notice_of placed → one.until.items ≡ until_of progress settle one.placed.feeder → AreHeldFrom progress settle (notice_of placed) before now
one_new progress settle placed before left now one is now_is notice until = record {
  left = left;
  new = one ∷ [];
  parts = now_is;
  all_left = is.0;
  others_left = is.1;
  in_order = is.2;
  waits = All-cons (λ held. (is_of_another (notice_of placed) held ≡ false) × (held.until.items ≡ until_of progress settle held.placed.feeder)) one []
      (subst (λ (n : Notice). is_of_another n one ≡ false) notice (ap not (same_number one.placed.change.register.0)), until) (All-nil _);
  failure = λ some fails. ap (λ (n : Notice). n ∷ []) notice;
}

pub holds_and_fails : (holds : Bool) → holds ≡ true → not holds ≡ true → ⊥
holds_and_fails true holding failing = absurd cc
holds_and_fails false holding failing = absurd cc

-- a refusal, a break and an end are no failure
pub no_failure : (notice : Notice)
    → ((feeder : ℕ) × (place : ℕ) × (line : ℕ) × (left_out : LeftOut) × (notice ≡ Refused feeder place line left_out)) ⊎ (((feeder : ℕ) × (broken : Broken) × (line : ℕ) × (notice ≡ Broke feeder broken line)) ⊎ ((feeder : ℕ) × (elements : ℕ) × (notice ≡ Ended feeder elements)))
    → says_fails notice ≡ true → ⊥
no_failure notice (inl is) fails = let no : says_fails (Refused is.0 is.1 is.2 is.3) ≡ true = subst (λ (n : Notice). says_fails n ≡ true) is.4 fails in absurd cc
no_failure notice (inr (inl is)) fails = let no : says_fails (Broke is.0 is.1 is.2) ≡ true = subst (λ (n : Notice). says_fails n ≡ true) is.3 fails in absurd cc
no_failure notice (inr (inr is)) fails = let no : says_fails (Ended is.0 is.1) ≡ true = subst (λ (n : Notice). says_fails n ≡ true) is.2 fails in absurd cc

-- what was held back first was due
module _ (progress : List FeederProgress) where
  pub due_none : (before now : List Held) → now ≡ before → AreDueFirst progress before now
  due_none before now same = ([], sym same, All-nil _)

  pub due_more : (before mid now : List Held) → AreDueFirst progress before mid → AreDueFirst progress mid now → AreDueFirst progress before now
  due_more before mid now a b = (
    a.0 ++ b.0,
    a.1 ∙ ap (λ (l : List Held). a.0 ++ l) b.1 ∙ sym (append_assoc a.0 b.0 now),
    All-append (λ held. is_due held.until.items progress ≡ true) a.0 b.0 a.2 b.2,
  )

  pub due_one : (before now : List Held) → has_due before progress ≡ true → (now ≡ before) ⊎ ((one : Held) × (before ≡ one ∷ now)) → AreDueFirst progress before now
  due_one before now due (inl same) = due_none before now same
  due_one before now due (inr (one, is)) = (one ∷ [], is, All-cons (λ held. is_due held.until.items progress ≡ true) one [] (subst (λ (l : List Held). has_due l progress ≡ true) is due) (All-nil _))

pub first_removed : (held left : List Held) → 0 < length held → left ≡ remove held 0 → (left ≡ held) ⊎ ((one : Held) × (held ≡ one ∷ left))
first_removed [] left some is = absurd (omega arith)
first_removed (one ∷ held) left some is = inr (one, ap (λ (l : List Held). one ∷ l) (sym is))

-- what is held back by what a teller is seen as
pub held_by : (progress own : List FeederProgress) (settle : ℕ) (notice : Notice) (before held now : List Held) → own ≡ progress → held ≡ before → AreHeldFrom own settle notice held now
    → AreHeldFrom progress settle notice before now
held_by progress own settle notice before held now p h is = rw (sym p, sym h) is

pub due_by : (progress own : List FeederProgress) (before now : List Held) → own ≡ progress → AreDueFirst own before now → AreDueFirst progress before now
due_by progress own before now p is = rw (sym p) is
