-- What is settled of what is told, as more is told.
use Rattle.std.proofs.Common.{◌≡◌, ◌≢◌, inl, inr, ℕ, zero, suc, Bool, true, false, not, cond, List, [], ◌∷◌, ◌++◌, refl, sym, ap, subst, ◌∙◌, ◌<◌, arith}
use Rattle.std.specs.Prelude.{filter, length, nat_eq, slice_index_or, take, drop}
use Rattle.std.specs.List.{remove}
use Rattle.std.proofs.Math.Seq.{split_at}
use Rattle.intervals.specs.declared.operation.RegId.{RegId}
use Rattle.std.proofs.lemmas.List.{append-nil, append_assoc, map-append}
use Rattle.std.proofs.lemmas.Bool.Decides.{nat_tests}
use Rattle.std.proofs.lemmas.List.Elements.{filter-append}
use Rattle.logs.specs.declared.notice.Notice.{Notice}
use Rattle.watch.specs.declared.settling.Held.{Held}
use Rattle.watch.specs.declared.settling.PlacedChange.{PlacedChange}
use Rattle.watch.specs.Settling.{IsHeldBack, IsSettledUpTo, LessPairs, nothing, kept, healed, is_change_of, is_no_change, notices_of, says_fails}
use Rattle.watch.specs.Teller.{IsPassedOn, ArePassedOn, IsWrittenOrHeld}
use Rattle.watch.specs.Due.{held_notice, held_notices, notice_of}

less_same : {A : Type 0} (fails : A → Bool) (all : List A) → LessPairs fails all all
less_same fails [] = nothing
less_same fails (one ∷ all) = kept one (less_same fails all)

less_more : {A : Type 0} (fails : A → Bool) {all left : List A} (more : List A) → LessPairs fails all left → LessPairs fails (all ++ more) (left ++ more)
less_more fails more nothing = less_same fails more
less_more fails more (kept one less) = kept one (less_more fails more less)
less_more fails more (healed failing holding fail hold less) = healed failing holding fail hold (less_more fails more less)

less_pair : {A : Type 0} (fails : A → Bool) {all left : List A} (a b : A) → fails a ≡ true → fails b ≡ false → LessPairs fails all left → LessPairs fails (all ++ a ∷ b ∷ []) left
less_pair fails a b fail hold nothing = healed a b fail hold nothing
less_pair fails a b fail hold (kept one less) = kept one (less_pair fails a b fail hold less)
less_pair fails a b fail hold (healed failing holding f h less) = healed failing holding f h (less_pair fails a b fail hold less)

settled_by : (told held new written passed left : List Notice) → (is : IsSettledUpTo told held written) → IsPassedOn held new passed left → IsSettledUpTo (told ++ new) left (written ++ passed)
settled_by told held new written passed left is (back, inl same) = record {
  settled = is.settled ++ passed;
  parts = ap (λ (l : List Notice). l ++ new) is.parts ∙ append_assoc is.settled held new ∙ ap (λ (l : List Notice). is.settled ++ l) same ∙ sym (append_assoc is.settled passed left);
  less = less_more says_fails passed is.less;
  held_back = back;
}
settled_by told held new written passed left is (back, inr heals) =
    let pair = heals.failing ∷ heals.holding ∷ [] in
    let both : held ++ new ≡ pair = rw (heals.held_is, heals.new_is) refl in record {
      settled = is.settled ++ pair;
      parts = ap (λ (l : List Notice). l ++ new) is.parts ∙ append_assoc is.settled held new ∙ ap (λ (l : List Notice). is.settled ++ l) both
          ∙ sym (ap (λ (l : List Notice). (is.settled ++ pair) ++ l) heals.none_left ∙ append-nil (is.settled ++ pair));
      less = subst (λ (l : List Notice). LessPairs says_fails (is.settled ++ pair) l) (sym (ap (λ (l : List Notice). written ++ l) heals.none_written ∙ append-nil written))
          (less_pair says_fails heals.failing heals.holding heals.fails heals.holds is.less);
      held_back = back;
    }

pub written_or_held_on : (settle : ℕ) (told held written new passed left : List Notice) → IsWrittenOrHeld settle told held written → ArePassedOn settle held new passed left
    → IsWrittenOrHeld settle (told ++ new) left (written ++ passed)
written_or_held_on settle told held written new passed left is moves = record {
  at_once = λ none. let before = is.at_once none in let after = moves.at_once none before.1 in
      (ap (λ (l : List Notice). l ++ new) before.0 ∙ ap (λ (l : List Notice). written ++ l) after.0, after.1);
  others = filter-append is_no_change told new ∙ (ap (λ (l : List Notice). l ++ filter is_no_change new) is.others ∙ ap (λ (l : List Notice). filter is_no_change written ++ l) moves.others)
      ∙ sym (filter-append is_no_change written passed);
  by_register = λ register.
      rw (filter-append (is_change_of register) told new, filter-append (is_change_of register) written passed)
      (settled_by (notices_of register told) (notices_of register held) (notices_of register new) (notices_of register written) (notices_of register passed) (notices_of register left)
      (is.by_register register) (moves.by_register register (is.by_register register).held_back));
}

only_one : (front back : List Notice) (one : Notice) → IsHeldBack (front ++ one ∷ back) → (front ≡ []) × (back ≡ []) × (says_fails one ≡ true)
only_one [] [] one fails = (refl, refl, fails)
only_one [] (other ∷ back) one fails = absurd fails
only_one (other ∷ []) back one fails = absurd fails
only_one (other ∷ another ∷ front) back one fails = absurd fails

not_empty : (front back : List Notice) (one : Notice) → front ++ one ∷ back ≢ []
not_empty [] back one is = absurd (cc)
not_empty (other ∷ front) back one is = absurd (cc)

healed_of : (old notice : Notice) (front back : List Notice) (b : Bool) → says_fails notice ≡ false → IsHeldBack (front ++ cond b (old ∷ back) back)
    → IsPassedOn (front ++ cond b (old ∷ back) back) (cond b (notice ∷ []) []) [] (front ++ back)
healed_of old notice front back true holds held =
    let one = only_one front back old held in
    rw (one.0, one.1) (tt, inr (record { failing = old; holding = notice; held_is = refl; new_is = refl; fails = one.2; holds = holds; none_written = refl; none_left = refl }))
healed_of old notice front back false holds held = (held, inl (append-nil (front ++ back)))

swapped_of : (old notice : Notice) (front back : List Notice) (b : Bool) → says_fails notice ≡ true → IsHeldBack (front ++ cond b (old ∷ back) back)
    → IsPassedOn (front ++ cond b (old ∷ back) back) (cond b (notice ∷ []) []) (cond b (old ∷ []) []) ((front ++ back) ++ cond b (notice ∷ []) [])
swapped_of old notice front back true fails held =
    let one = only_one front back old held in
    rw (one.0, one.1) (fails, inl refl)
swapped_of old notice front back false fails held = (rw (append-nil (front ++ back)) held, inl refl)

of_parts : (register : ℕ) (front back : List Notice) (one : Notice) (b : Bool) → is_change_of register one ≡ b
    → notices_of register (front ++ one ∷ back) ≡ notices_of register front ++ cond b (one ∷ notices_of register back) (notices_of register back)
of_parts register front back one b is = filter-append (is_change_of register) front (one ∷ back) ∙ ap (λ (c : Bool). notices_of register front ++ cond c (one ∷ notices_of register back) (notices_of register back)) is

-- a change of a register of which a failure is held back heals it
pub passes_healed : (settle : ℕ) (held left front back : List Notice) (old : Held) (placed : PlacedChange) → held ≡ front ++ held_notice old ∷ back → left ≡ front ++ back
    → old.placed.change.register ≡ placed.change.register → placed.change.holds ≡ true → ArePassedOn settle held (notice_of placed ∷ []) [] left
passes_healed settle held left front back old placed held_is left_is same holds =
    let notice = notice_of placed in record {
      at_once = λ zero empty. absurd (not_empty front back (held_notice old) (sym held_is ∙ empty));
      others = refl;
      by_register = λ register.
          let b = is_change_of register notice in
          let alike : is_change_of register (held_notice old) ≡ b = rw same refl in
          let parts : notices_of register held ≡ notices_of register front ++ cond b (held_notice old ∷ notices_of register back) (notices_of register back) = ap (notices_of register) held_is ∙ of_parts register front back (held_notice old) b alike in
          let rest : notices_of register left ≡ notices_of register front ++ notices_of register back = ap (notices_of register) left_is ∙ filter-append (is_change_of register) front back in
          λ is. rw (parts, rest) (healed_of (held_notice old) notice (notices_of register front) (notices_of register back) b (ap not holds) (subst IsHeldBack parts is));
    }

-- a failure of a register of which another one is held back is held back in its place
pub passes_swapped : (settle : ℕ) (held left front back : List Notice) (old : Held) (placed : PlacedChange) → held ≡ front ++ held_notice old ∷ back → left ≡ (front ++ back) ++ notice_of placed ∷ []
    → old.placed.change.register ≡ placed.change.register → placed.change.holds ≡ false → ArePassedOn settle held (notice_of placed ∷ []) (held_notice old ∷ []) left
passes_swapped settle held left front back old placed held_is left_is same fails =
    let notice = notice_of placed in record {
      at_once = λ zero empty. absurd (not_empty front back (held_notice old) (sym held_is ∙ empty));
      others = refl;
      by_register = λ register.
          let b = is_change_of register notice in
          let alike : is_change_of register (held_notice old) ≡ b = rw same refl in
          let parts : notices_of register held ≡ notices_of register front ++ cond b (held_notice old ∷ notices_of register back) (notices_of register back) = ap (notices_of register) held_is ∙ of_parts register front back (held_notice old) b alike in
          let rest : notices_of register left ≡ (notices_of register front ++ notices_of register back) ++ notices_of register (notice ∷ []) =
          ap (notices_of register) left_is ∙ filter-append (is_change_of register) (front ++ back) (notice ∷ []) ∙ ap (λ (l : List Notice). l ++ notices_of register (notice ∷ [])) (filter-append (is_change_of register) front back) in
          let one : notices_of register (held_notice old ∷ []) ≡ cond b (held_notice old ∷ []) [] = ap (λ (c : Bool). cond c (held_notice old ∷ []) []) alike in
          λ is. rw (parts, rest, one) (swapped_of (held_notice old) notice (notices_of register front) (notices_of register back) b (ap not fails) (subst IsHeldBack parts is));
    }

both_empty : (front back : List Notice) → front ++ back ≡ [] → ([] ≡ front) × (back ≡ [])
both_empty [] back is = (refl, is)
both_empty (one ∷ front) back is = absurd (cc)

held_after : (front back : List Notice) → IsHeldBack (front ++ back) → IsHeldBack back
held_after [] back held = held
held_after (one ∷ []) [] held = tt
held_after (one ∷ []) (other ∷ back) held = absurd held
held_after (one ∷ other ∷ front) back held = absurd held

all_changes : (held : List Held) → [] ≡ filter is_no_change (held_notices held)
all_changes [] = refl
all_changes (one ∷ held) = all_changes held

-- what was held back first is written
pub passes_due : (settle : ℕ) (held first left : List Held) → held ≡ first ++ left → ArePassedOn settle (held_notices held) [] (held_notices first) (held_notices left)
passes_due settle held first left held_is =
    let parts : held_notices held ≡ held_notices first ++ held_notices left = ap held_notices held_is ∙ map-append held_notice first left in record {
      at_once = λ zero empty. both_empty (held_notices first) (held_notices left) (sym parts ∙ empty);
      others = all_changes first;
      by_register = λ register back.
          let of : notices_of register (held_notices held) ≡ notices_of register (held_notices first) ++ notices_of register (held_notices left) =
          ap (notices_of register) parts ∙ filter-append (is_change_of register) (held_notices first) (held_notices left) in
          (held_after (notices_of register (held_notices first)) (notices_of register (held_notices left)) (subst IsHeldBack of back), inl (append-nil (notices_of register (held_notices held)) ∙ of));
    }

-- what is held back, with one of it taken out
pub taken_at : (items : List Held) (at : ℕ) (one : Held) → at < length items → one ≡ slice_index_or items at one → (front back : List Held) × (items ≡ front ++ one ∷ back) × (remove items at ≡ front ++ back)
taken_at items at one within is =
    (take at items, drop (suc at) items, split_at items at one within ∙ ap (λ (x : Held). take at items ++ x ∷ drop (suc at) items) (sym is), refl)

pub same_at : (items : List Held) (at : ℕ) (a b : Held) → at < length items → slice_index_or items at a ≡ slice_index_or items at b
same_at [] at a b within = absurd (omega arith)
same_at (one ∷ items) zero a b within = refl
same_at (one ∷ items) (suc at) a b within = same_at items at a b (omega arith)

pub same_register : (a b : RegId) → nat_eq a.0 b.0 ≡ true → a ≡ b
same_register a b is = let e : a.0 ≡ b.0 = grind (arith, nat_tests) in of_number a b e
  where
    of_number : (a b : RegId) → a.0 ≡ b.0 → a ≡ b
    of_number a b e = ap numbered e
      where
        numbered : ℕ → RegId
        numbered n = record { 0 = n }
