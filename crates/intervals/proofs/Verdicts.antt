-- No read is wrong exactly when the operations are as the kind of the register promises.
use Rattle.std.proofs.Common.{◌≡◌, ◌↔◌, ◌⊎◌, inl, inr, Option, Bool, true, false, not, ◌&&◌, List, None, Decides, refl, sym, ◌∙◌}
use Rattle.std.specs.Prelude.{All, IsTrue, slice_index_or}
use Rattle.std.proofs.lemmas.Bool.{cases_Bool}
use Rattle.std.proofs.lemmas.Bool.Decides.{Decides-and, Decides-not, not_from_Decides}
use Rattle.intervals.specs.declared.operation.Op.{Op}
use Rattle.intervals.specs.Terms.{ClaimModel}
use Rattle.intervals.specs.declared.claim.Kind.TheVariants.{Safe, Regular}
use Rattle.intervals.specs.Operation.{is_judged_read, IsJudgedRead, judged}
use Rattle.intervals.specs.Kind.{IsSafe, IsRegular, IsSafeRead, IsRegularRead}
use Rattle.intervals.specs.Judging.{is_safe_read, is_regular_read, is_wrong_read, end_number, first_wrong}
use Rattle.intervals.proofs.Agreement.{Decides-IsTrue, Decides-is_safe_read, Decides-is_regular_read}
use Rattle.intervals.proofs.JudgedAlone.{first_wrong-judged}
use Rattle.intervals.proofs.LeastOf.{least_from-None, least_from-none}

-- wrong reads, where a test of each read decides a fact of it
module _ (right : Op → Bool) (Right : Op → Type 0) (decides : (r : Op) → Decides (right r) (Right r)) where
  pub Decides-wrong : (r : Op) → Decides (is_judged_read r && not (right r)) (IsJudgedRead r × ¬ Right r)
  Decides-wrong r = Decides-and (is_judged_read r) (not (right r)) (Decides-IsTrue (is_judged_read r)) (Decides-not (right r) (decides r))

  right_by_cases : (r : Op) → ¬ IsTrue (is_judged_read r && not (right r)) → IsJudgedRead r → (right r ≡ true) ⊎ (right r ≡ false) → Right r
  right_by_cases r h j (inl t) = (decides r).0 t
  right_by_cases r h j (inr f) = absurd (h ((Decides-wrong r).1 (j, not_from_Decides (right r) (decides r) f)))

  pub none_wrong : (ops : List Op) → All (λ r. ¬ IsTrue (is_judged_read r && not (right r))) ops → All (λ r. IsJudgedRead r → Right r) ops
  none_wrong ops h k d lt j = right_by_cases _ (h k d lt) j (cases_Bool _)

  pub all_right : (ops : List Op) → All (λ r. IsJudgedRead r → Right r) ops → All (λ r. ¬ IsTrue (is_judged_read r && not (right r))) ops
  all_right ops h k d lt w = let p = (Decides-wrong _).0 w in p.1 (h k d lt p.0)

wrong_by_kind : (claim : ClaimModel) (ops : List Op) → claim.kind ≡ Safe → (r : Op) → is_wrong_read claim ops r ≡ (is_judged_read r && not (is_safe_read claim ops r))
wrong_by_kind claim ops e r = rw e refl

wrong_by_regular : (claim : ClaimModel) (ops : List Op) → claim.kind ≡ Regular → (r : Op) → is_wrong_read claim ops r ≡ (is_judged_read r && not (is_regular_read claim ops r))
wrong_by_regular claim ops e r = rw e refl

-- of two tests that agree, no operation passes the one if none passes the other
none_passes : (p q : Op → Bool) (ops : List Op) → ((r : Op) → p r ≡ q r) → All (λ r. ¬ IsTrue (p r)) ops → All (λ r. ¬ IsTrue (q r)) ops
none_passes p q ops same h k d lt t = h k d lt (same (slice_index_or ops k d) ∙ t)

pub first_wrong-safe : (claim : ClaimModel) (ops : List Op) → claim.kind ≡ Safe → (first_wrong claim ops ≡ None) ↔ IsSafe claim ops
first_wrong-safe claim ops e = (
  (λ none. none_wrong (is_safe_read claim ops) (IsSafeRead claim ops) (Decides-is_safe_read claim ops) ops
      (none_passes (is_wrong_read claim ops) _ ops (wrong_by_kind claim ops e) (least_from-None end_number (is_wrong_read claim ops) None ops none).1)),
  (λ safe. least_from-none end_number (is_wrong_read claim ops) None ops
      (none_passes _ (is_wrong_read claim ops) ops (λ r. sym (wrong_by_kind claim ops e r))
      (all_right (is_safe_read claim ops) (IsSafeRead claim ops) (Decides-is_safe_read claim ops) ops safe))),
)

pub first_wrong-regular : (claim : ClaimModel) (ops : List Op) → claim.kind ≡ Regular → (first_wrong claim ops ≡ None) ↔ IsRegular claim ops
first_wrong-regular claim ops e = (
  (λ none. none_wrong (is_regular_read claim ops) (IsRegularRead claim ops) (Decides-is_regular_read claim ops) ops
      (none_passes (is_wrong_read claim ops) _ ops (wrong_by_regular claim ops e) (least_from-None end_number (is_wrong_read claim ops) None ops none).1)),
  (λ regular. least_from-none end_number (is_wrong_read claim ops) None ops
      (none_passes _ (is_wrong_read claim ops) ops (λ r. sym (wrong_by_regular claim ops e r))
      (all_right (is_regular_read claim ops) (IsRegularRead claim ops) (Decides-is_regular_read claim ops) ops regular))),
)

pub Decides-wrong_safe : (claim : ClaimModel) (ops : List Op) (r : Op) → claim.kind ≡ Safe → IsTrue (is_wrong_read claim ops r) ↔ (IsJudgedRead r × ¬ IsSafeRead claim ops r)
Decides-wrong_safe claim ops r e = rw (wrong_by_kind claim ops e r) (Decides-wrong (is_safe_read claim ops) (IsSafeRead claim ops) (Decides-is_safe_read claim ops) r)

pub Decides-wrong_regular : (claim : ClaimModel) (ops : List Op) (r : Op) → claim.kind ≡ Regular → IsTrue (is_wrong_read claim ops r) ↔ (IsJudgedRead r × ¬ IsRegularRead claim ops r)
Decides-wrong_regular claim ops r e = rw (wrong_by_regular claim ops e r) (Decides-wrong (is_regular_read claim ops) (IsRegularRead claim ops) (Decides-is_regular_read claim ops) r)

-- where two searches find the same, both find nothing in the same cases
same_none : (P Q : Type 0) (a b : Option Op) → a ≡ b → (a ≡ None) ↔ P → (b ≡ None) ↔ Q → P ↔ Q
same_none P Q a b e p q = (λ x. q.0 (sym e ∙ p.1 x), λ y. p.0 (e ∙ q.1 y))

pub IsSafe-judged : (claim : ClaimModel) (ops : List Op) → IsSafe claim (judged ops) ↔ IsSafe claim ops
IsSafe-judged claim ops =
    let safe : ClaimModel = record claim { kind = Safe } in
    same_none (IsSafe claim (judged ops)) (IsSafe claim ops) _ _ (first_wrong-judged safe ops) (first_wrong-safe safe (judged ops) refl) (first_wrong-safe safe ops refl)

pub IsRegular-judged : (claim : ClaimModel) (ops : List Op) → IsRegular claim (judged ops) ↔ IsRegular claim ops
IsRegular-judged claim ops =
    let regular : ClaimModel = record claim { kind = Regular } in
    same_none (IsRegular claim (judged ops)) (IsRegular claim ops) _ _ (first_wrong-judged regular ops) (first_wrong-regular regular (judged ops) refl) (first_wrong-regular regular ops refl)
