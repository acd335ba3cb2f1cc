-- Moments are in a strict order, and the test for equal moments decides whether they are equal.
use Rattle.std.proofs.Common.{◌≡◌, ℕ, ◌<◌, ◌⊎◌, inl, inr, Decides, ap, arith}
use Rattle.std.specs.Prelude.{IsTrue}
use Rattle.std.proofs.lemmas.Bool.{ltb-true, lt-ltb, cases_order}
use Rattle.std.proofs.lemmas.Bool.Decides.{Decides-eqb}
use Rattle.intervals.specs.declared.operation.Moment.{Moment}
use Rattle.intervals.specs.Moments.{same_moment}
use Rattle.summary_tree.specs.Order.{IsStrictOrder, IsExact}
use Rattle.zone_tree.specs.StretchOrder.{moment_before}

same_by_number : (m n : Moment) → m.0 ≡ n.0 → m ≡ n
same_by_number m n e = ap {B = Moment} (λ (k : ℕ). record { 0 = k }) e

cases_at : (m n : Moment) → (m.0 ≡ n.0) ⊎ ((m.0 < n.0) ⊎ (n.0 < m.0)) → IsTrue (moment_before m n) ⊎ ((m ≡ n) ⊎ IsTrue (moment_before n m))
cases_at m n (inl e) = inr (inl (same_by_number m n e))
cases_at m n (inr (inl p)) = inl (lt-ltb m.0 n.0 p)
cases_at m n (inr (inr p)) = inr (inr (lt-ltb n.0 m.0 p))

pub moment_order : IsStrictOrder moment_before
moment_order = record {
  irreflexive = λ a h. (let less : a.0 < a.0 = ltb-true a.0 a.0 h in omega arith);
  transitive = λ a b c p q. (
      let first : a.0 < b.0 = ltb-true a.0 b.0 p in
      let second : b.0 < c.0 = ltb-true b.0 c.0 q in
      lt-ltb a.0 c.0 (omega arith));
  total = λ a b. cases_at a b (cases_order a.0 b.0);
}

pub Decides-same_moment : (a b : Moment) → Decides (same_moment a b) (a ≡ b)
Decides-same_moment a b = (λ e. same_by_number a b ((Decides-eqb a.0 b.0).0 e), λ e. (Decides-eqb a.0 b.0).1 (ap (λ (m : Moment). m.0) e))

pub moment_exact : IsExact same_moment
moment_exact = record { one = λ a b. (Decides-same_moment a b).0; here = λ a b. (Decides-same_moment a b).1 }
