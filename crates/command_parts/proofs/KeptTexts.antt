-- The texts that are kept of traces.
use Rattle.std.proofs.Common.{◌≡◌, ◌⊎◌, inl, inr, ℕ, zero, suc, ◌+◌, ◌<◌, arith, List, [], ◌∷◌, ◌++◌, length, refl, sym, ap, subst, ◌∙◌, Option, Some, None, length-append}
use Rattle.std.specs.List.{slice_get}
use Rattle.std.proofs.lemmas.Option.{slice_get_within}
use Rattle.logs.specs.declared.log.Log.{Log}
use Rattle.places.specs.declared.copying.Kept.{Kept}
use Rattle.places.specs.Copied.{AreCopiesOf}
use Rattle.places.proofs.Copied.{pushed}
use Rattle.command_parts.specs.Kept.{AreTracesKept, IsTextOf}

-- the texts are those of the copies, by number
pub record AreTextsOf (logs : List Log) (kept : List Kept) (texts : List (List ℕ)) : Type 0 where
  pub many : length texts ≡ length kept
  pub each : (trace : ℕ) (one : Kept) (log : Log) (text : List ℕ) → slice_get kept trace ≡ Some one → slice_get logs trace ≡ Some log → slice_get texts trace ≡ Some text → IsTextOf log one text

-- one more text
pub one_more : (logs : List Log) (kept : List Kept) (texts : List (List ℕ)) (one : Kept) (text : List ℕ) → AreTextsOf logs kept texts → ((log : Log) → slice_get logs (length texts) ≡ Some log → IsTextOf log one text)
    → AreTextsOf logs (kept ++ one ∷ []) (texts ++ text ∷ [])
one_more logs kept texts one text are is = record {
  many = length-append texts (text ∷ []) ∙ ap (λ (n : ℕ). n + 1) are.many ∙ sym (length-append kept (one ∷ []));
  each = λ trace other log it here of there. by trace other log it of (pushed kept one trace other here) (pushed texts text trace it there);
}
  where
    past : {X : Type 0} (xs : List X) (x : X) → slice_get xs (length xs) ≡ Some x → ⊥
    past [] x e = let none : None ≡ Some x = e in absurd cc
    past (y ∷ xs) x e = past xs x e

    by : (trace : ℕ) (other : Kept) (log : Log) (it : List ℕ) → slice_get logs trace ≡ Some log → (slice_get kept trace ≡ Some other) ⊎ ((trace ≡ length kept) × (other ≡ one)) → (slice_get texts trace ≡ Some it) ⊎ ((trace ≡ length texts) × (it ≡ text)) → IsTextOf log other it
    by trace other log it of (inl here) (inl there) = are.each trace other log it here of there
    by trace other log it of (inl here) (inr there) = absurd (past kept other (subst (λ (n : ℕ). slice_get kept n ≡ Some other) (there.0 ∙ are.many) here))
    by trace other log it of (inr here) (inl there) = absurd (past texts it (subst (λ (n : ℕ). slice_get texts n ≡ Some it) (here.0 ∙ sym are.many) there))
    by trace other log it of (inr here) (inr there) =
        subst (λ (x : Kept). IsTextOf log x it) (sym here.1) (subst (λ (t : List ℕ). IsTextOf log one t) (sym there.1) (is log (subst (λ (n : ℕ). slice_get logs n ≡ Some log) there.0 of)))

-- the texts of all copies are kept
pub are_kept : (lefts : List (Option (List ℕ))) (logs : List Log) (kept : List Kept) (texts : List (List ℕ)) → AreTextsOf logs kept texts → length lefts ≡ length kept → AreCopiesOf lefts kept → AreTracesKept lefts logs texts
are_kept lefts logs kept texts are many copies = record {
  many = are.many ∙ sym many;
  each = λ trace left log text of here there. let one = has_one kept trace (subst (λ (n : ℕ). trace < n) are.many (slice_get_within texts trace text there)) in are.each trace one.0 log text one.1 here there left (copies trace one.0 one.1 left of);
}
  where
    has_one : (kept : List Kept) (n : ℕ) → n < length kept → (one : Kept) × (slice_get kept n ≡ Some one)
    has_one [] n less = absurd (omega arith)
    has_one (one ∷ kept) zero less = (one, refl)
    has_one (one ∷ kept) (suc n) less = has_one kept n (omega (arith, less))
