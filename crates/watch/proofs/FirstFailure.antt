-- Where a register that failed never holds again, its first change to `fails` is its last.
use Rattle.std.proofs.Common.{◌≡◌, ◌==◌, ℕ, Bool, true, false, ◌||◌, List, [], ◌∷◌, ◌++◌, Option, refl, sym, ap, subst, ◌∙◌, append-nil, append_assoc, arith}
use Rattle.std.specs.Prelude.{◌↔◌, IsSomeAnd, if◌then◌else◌}
use Rattle.std.specs.List.{list_any}
use Rattle.std.proofs.lemmas.Bool.Decides.{nat_tests}
use Rattle.std.proofs.lemmas.List.Elements.{filter-append}
use Rattle.std.proofs.lemmas.List.Folds.{list_any-append}
use Rattle.intervals.specs.Terms.{ClaimModel}
use Rattle.intervals.specs.Kind.{Holds}
use Rattle.shards.specs.declared.entry.VerdictChange.{VerdictChange}
use Rattle.shards.specs.declared.entry.Entry.{Entry}
use Rattle.shards.specs.Plan.{Plan}
use Rattle.shards.specs.Journal.{HoldsAfter, left_by}
use Rattle.shards.specs.VerdictChange.{AreVerdictChanges, IsAsBefore, IsVerdictChangeBy, as_before, no_entries, one_changed}
use Rattle.watch.specs.Settling.{LessPairs, nothing, kept, healed, change_fails, changes_on}
use Rattle.watch.specs.Final.{FailsLast}

-- a register of the plan that holds after a front of the journal held after each front of that
abbrev pub NeverHealsIn : Plan → ℕ → List Entry → Type 0
NeverHealsIn plan register journal = (front mid rest : List Entry) → journal ≡ (front ++ mid) ++ rest → HoldsAfter plan register (front ++ mid) → HoldsAfter plan register front

module _ {A : Type 0} (fails : A → Bool) where
  fails_last : (xs : List A) (x : A) → list_any fails xs ≡ false → FailsLast fails (xs ++ x ∷ [])
  fails_last [] x none = ((λ _. refl), tt)
  fails_last (y ∷ xs) x none = by_test (fails y) refl none (λ others. fails_last xs x others)
    where
      by_test : (b : Bool) → fails y ≡ b → (b || list_any fails xs) ≡ false → (list_any fails xs ≡ false → FailsLast fails (xs ++ x ∷ [])) → FailsLast fails (y ∷ (xs ++ x ∷ []))
      by_test true is none last = absurd (cc)
      by_test false is none last = ((λ t. absurd (cc)), last none)

  nil_front : (xs ys : List A) → xs ++ ys ≡ [] → xs ≡ []
  nil_front [] ys is = refl
  nil_front (x ∷ xs) ys is = absurd (cc)

  pub fails_last_front : (xs ys : List A) → FailsLast fails (xs ++ ys) → FailsLast fails xs
  fails_last_front [] ys last = tt
  fails_last_front (x ∷ xs) ys last = ((λ t. nil_front xs ys (last.0 t)), fails_last_front xs ys last.1)

  less_of_none : (left : List A) → LessPairs fails [] left → left ≡ []
  less_of_none _ nothing = refl

  -- no pair of a failure and what heals it can be left out
  pub fails_last_less : (all left : List A) → LessPairs fails all left → FailsLast fails all → FailsLast fails left
  fails_last_less _ _ nothing last = tt
  fails_last_less _ _ (kept {all} {left} one less) last =
      ((λ t. less_of_none left (subst (λ (rest : List A). LessPairs fails rest left) (last.0 t) less)), fails_last_less all left less last.1)
  fails_last_less _ _ (healed failing holding f h less) last = absurd (let none = last.0 f in cc)

module _ (plan : Plan) (register : ℕ) where
  never_heals_front : (journal : List Entry) (entry : Entry) → NeverHealsIn plan register (journal ++ entry ∷ []) → NeverHealsIn plan register journal
  never_heals_front journal entry never = λ front mid rest is holds.
      never front mid (rest ++ entry ∷ []) (ap (λ (l : List Entry). l ++ entry ∷ []) is ∙ append_assoc (front ++ mid) rest (entry ∷ [])) holds

  held_before_last : (journal : List Entry) (entry : Entry) → NeverHealsIn plan register (journal ++ entry ∷ []) → HoldsAfter plan register (journal ++ entry ∷ []) → HoldsAfter plan register journal
  held_before_last journal entry never holds = never journal (entry ∷ []) [] (sym (append-nil (journal ++ entry ∷ []))) holds

  -- of the changes so far none stands after one that fails, and where one fails the register fails now
  abbrev Final : List Entry → List VerdictChange → Type 0
  Final journal on = FailsLast change_fails on × (list_any change_fails on ≡ true → ¬ HoldsAfter plan register journal)

  still : (journal : List Entry) (entry : Entry) (on : List VerdictChange) → NeverHealsIn plan register (journal ++ entry ∷ []) → Final journal on → Final (journal ++ entry ∷ []) on
  still journal entry on never final = (final.0, λ any holds. final.1 any (held_before_last journal entry never holds))

  -- where a change fails, the register does not hold after its entry
  fails_after : (journal : List Entry) (entry : Entry) (change : VerdictChange) → IsVerdictChangeBy plan journal entry change → entry.register.0 ≡ register → change_fails change ≡ true → ¬ HoldsAfter plan register (journal ++ entry ∷ [])
  fails_after journal entry change by own fails holds =
      let there : HoldsAfter plan entry.register.0 (journal ++ entry ∷ []) = subst (λ (n : ℕ). HoldsAfter plan n (journal ++ entry ∷ [])) (sym own) holds in
      let holds_here : Holds (left_by (journal ++ entry ∷ []) entry.register.0 by.claim) =
      subst (λ (c : Option ClaimModel). IsSomeAnd c (λ claim. Holds (left_by (journal ++ entry ∷ []) entry.register.0 claim))) by.known there in
      let says : change.holds ≡ true = by.verdict.1 holds_here in
      absurd (cc)

  none_failed : (journal : List Entry) (entry : Entry) (change : VerdictChange) (on : List VerdictChange) → IsVerdictChangeBy plan journal entry change → entry.register.0 ≡ register → NeverHealsIn plan register (journal ++ entry ∷ [])
      → Final journal on → (any : Bool) → list_any change_fails on ≡ any → any ≡ false
  none_failed journal entry change on by own never final false is = refl
  none_failed journal entry change on by own never final true is =
      let fails : ¬ HoldsAfter plan register journal = final.1 is in
      let same : IsAsBefore plan journal entry = subst (λ (n : ℕ). HoldsAfter plan n journal ↔ HoldsAfter plan n (journal ++ entry ∷ [])) (sym own)
      ((λ holds. absurd (fails holds)), (λ holds. absurd (fails (held_before_last journal entry never holds)))) in
      absurd (by.differs same)

  changed_once : (journal : List Entry) (entry : Entry) (change : VerdictChange) (on : List VerdictChange) → IsVerdictChangeBy plan journal entry change → entry.register.0 ≡ register → NeverHealsIn plan register (journal ++ entry ∷ [])
      → Final journal on → Final (journal ++ entry ∷ []) (on ++ change ∷ [])
  changed_once journal entry change on by own never final =
      let none : list_any change_fails on ≡ false = none_failed journal entry change on by own never final (list_any change_fails on) refl in (
        fails_last change_fails on change none,
        λ any. fails_after journal entry change by own (by_last (change_fails change) refl (sym (list_any-append change_fails on (change ∷ []) ∙ ap (λ (b : Bool). b || list_any change_fails (change ∷ [])) none) ∙ any)),
      )
    where
      by_last : (b : Bool) → change_fails change ≡ b → (b || false) ≡ true → b ≡ true
      by_last true is t = refl
      by_last false is t = t

  on_last : (changes : List VerdictChange) (change : VerdictChange) (b : Bool) → (change.register.0 == register) ≡ b → changes_on register (changes ++ change ∷ []) ≡ changes_on register changes ++ (if b then change ∷ [] else [])
  on_last changes change b is = filter-append (λ (c : VerdictChange). c.register.0 == register) changes (change ∷ []) ∙ ap (λ (t : Bool). changes_on register changes ++ (if t then change ∷ [] else [])) is

  final_by : (journal : List Entry) (entry : Entry) (change : VerdictChange) (changes : List VerdictChange) → IsVerdictChangeBy plan journal entry change → NeverHealsIn plan register (journal ++ entry ∷ [])
      → Final journal (changes_on register changes) → (b : Bool) → (change.register.0 == register) ≡ b → Final (journal ++ entry ∷ []) (changes_on register (changes ++ change ∷ []))
  final_by journal entry change changes by never final true is =
      let own : change.register.0 ≡ register = grind (arith, nat_tests) in
      subst (Final (journal ++ entry ∷ [])) (sym (on_last changes change true is))
      (changed_once journal entry change (changes_on register changes) by (ap (λ r. r.0) (sym by.register) ∙ own) never final)
  final_by journal entry change changes by never final false is =
      subst (Final (journal ++ entry ∷ [])) (sym (on_last changes change false is ∙ append-nil (changes_on register changes))) (still journal entry (changes_on register changes) never final)

  pub changes_final : (journal : List Entry) (changes : List VerdictChange) → AreVerdictChanges plan journal changes → NeverHealsIn plan register journal → Final journal (changes_on register changes)
  changes_final _ _ no_entries never = (tt, λ any. absurd (cc))
  changes_final _ _ (as_before journal changes entry are same) never =
      still journal entry (changes_on register changes) never (changes_final journal changes are (never_heals_front journal entry never))
  changes_final _ _ (one_changed journal changes entry change are by) never =
      final_by journal entry change changes by never (changes_final journal changes are (never_heals_front journal entry never)) (change.register.0 == register) refl
