-- The findings of one more trace.
use Rattle.std.proofs.Common.{◌≡◌, ℕ, zero, suc, ◌+◌, ◌<◌, ◌≤◌, List, [], ◌∷◌, ◌++◌, drop, get_or, length, map, sym, ap, subst, ◌∙◌, arith}
use Rattle.std.specs.List.{AllZip}
use Rattle.std.proofs.lemmas.List.{append_assoc, append-nil, drop_more, drop_all}
use Rattle.logs.specs.declared.log.Log.{Log}
use Rattle.lint.specs.declared.finding.TraceFindings.{TraceFindings}
use Rattle.lint.specs.Found.{AreFoundIn, IsFoundIn}

-- two lists of which each element goes with the other's, at a place
pub zip_at : {A B C : Type 0} (R : B → C → Type 0) (f : A → B) (xs : List A) (ys : List C) (i : ℕ) (d : A) (e : C) → AllZip R (map f xs) ys → i < length xs → R (f (get_or xs i d)) (get_or ys i e)
zip_at R f [] ys i d e all below = absurd (omega arith)
zip_at R f (x ∷ xs) [] i d e all below = absurd all
zip_at R f (x ∷ xs) (y ∷ ys) zero d e all below = all.0
zip_at R f (x ∷ xs) (y ∷ ys) (suc i) d e all below = zip_at R f xs ys i d e all.1 (omega arith)

-- what is found so far, and what will be found in the rest, is found in all
pub record GoesOn {A : Type 0} (f : A → List ℕ) (texts : List A) (logs : List Log) (number : ℕ) (found : List TraceFindings) : Type 0 where
  pub goes : (more : List TraceFindings) → AreFoundIn (map f (drop number texts)) (drop number logs) more → AreFoundIn (map f texts) logs (found ++ more)

pub begun : {A : Type 0} (f : A → List ℕ) (texts : List A) (logs : List Log) (found : List TraceFindings) → found ≡ [] → GoesOn f texts logs 0 found
begun f texts logs found none = record { goes = λ more are. subst (λ (before : List TraceFindings). AreFoundIn (map f texts) logs (before ++ more)) (sym none) are }

pub goes_on : {A : Type 0} (f : A → List ℕ) (texts : List A) (logs : List Log) (number : ℕ) (d : A) (log : Log) (found : List TraceFindings) (one : TraceFindings) → number < length texts → number < length logs
    → log ≡ get_or logs number log → IsFoundIn (f (get_or texts number d)) log one → GoesOn f texts logs number found → GoesOn f texts logs (number + 1) (found ++ one ∷ [])
goes_on {A} f texts logs number d log found one in_texts in_logs log_is is so_far = record {
  goes = λ more are.
      let text = get_or texts number d in
      let rest = drop (number + 1) texts in
      let rest_logs = drop (number + 1) logs in
      let head : drop number texts ≡ text ∷ rest = drop_more texts number d in_texts in
      let head_log : drop number logs ≡ log ∷ rest_logs = drop_more logs number log in_logs ∙ ap (λ (x : Log). x ∷ rest_logs) (sym log_is) in
      let both : AreFoundIn (map f (text ∷ rest)) (log ∷ rest_logs) (one ∷ more) = (is, are) in
      let at_logs : AreFoundIn (map f (text ∷ rest)) (drop number logs) (one ∷ more) = subst (λ (ls : List Log). AreFoundIn (map f (text ∷ rest)) ls (one ∷ more)) (sym head_log) both in
      let at_texts : AreFoundIn (map f (drop number texts)) (drop number logs) (one ∷ more) = subst (λ (ts : List A). AreFoundIn (map f ts) (drop number logs) (one ∷ more)) (sym head) at_logs in
      subst (AreFoundIn (map f texts) logs) (sym (append_assoc found (one ∷ []) more)) (so_far.goes (one ∷ more) at_texts);
}

pub went : {A : Type 0} (f : A → List ℕ) (texts : List A) (logs : List Log) (number : ℕ) (found : List TraceFindings) → length texts ≤ number → length logs ≤ number → GoesOn f texts logs number found → AreFoundIn (map f texts) logs found
went {A} f texts logs number found all all_logs so_far =
    let none : AreFoundIn (map f (drop number texts)) (drop number logs) [] =
    subst (λ (ts : List A). AreFoundIn (map f ts) (drop number logs) []) (sym (drop_all number texts all))
    (subst (λ (ls : List Log). AreFoundIn (map f []) ls []) (sym (drop_all number logs all_logs)) tt) in
    subst (AreFoundIn (map f texts) logs) (append-nil found) (so_far.goes [] none)
