-- Edges are in one strict order.
use Rattle.std.proofs.Common.{◌≡◌, ◌⊎◌, inl, inr, false, Decides, refl, sym, ap, subst}
use Rattle.std.specs.Prelude.{IsTrue}
use Rattle.std.proofs.lemmas.Bool.{false_from_ne_true}
use Rattle.intervals.specs.declared.operation.Moment.{Moment}
use Rattle.zone_tree.specs.declared.edge.Edge.{Edge}
use Rattle.zone_tree.specs.declared.edge.Edge.TheVariants.{Before, At, Never}
use Rattle.summary_tree.specs.Order.{IsStrictOrder, IsExact}
use Rattle.zone_tree.specs.declared.zone.Zone.{Zone}
use Rattle.zone_tree.specs.Edge.{edge_before, ComesBefore, same_edge}
use Rattle.zone_tree.specs.StretchOrder.{moment_before}
use Rattle.zone_tree.proofs.MomentOrder.{Decides-same_moment, moment_order}

pub before_irreflexive : (a : Edge) → ¬ ComesBefore a a
before_irreflexive Before h = absurd (cc)
before_irreflexive (At m) h = moment_order.irreflexive m h
before_irreflexive Never h = absurd (cc)

pub before_transitive : (a b c : Edge) → ComesBefore a b → ComesBefore b c → ComesBefore a c
before_transitive Before Before c p q = q
before_transitive Before (At n) Before p q = q
before_transitive Before (At n) (At o) p q = refl
before_transitive Before (At n) Never p q = refl
before_transitive Before Never c p q = absurd (cc)
before_transitive (At m) Before c p q = absurd (cc)
before_transitive (At m) (At n) Before p q = q
before_transitive (At m) (At n) (At o) p q = moment_order.transitive m n o p q
before_transitive (At m) (At n) Never p q = refl
before_transitive (At m) Never c p q = absurd (cc)
before_transitive Never b c p q = absurd (cc)

before_cases_at : (m n : Moment) → IsTrue (moment_before m n) ⊎ ((m ≡ n) ⊎ IsTrue (moment_before n m)) → ComesBefore (At m) (At n) ⊎ ((At m ≡ At n) ⊎ ComesBefore (At n) (At m))
before_cases_at m n (inl p) = inl p
before_cases_at m n (inr (inl e)) = inr (inl (ap At e))
before_cases_at m n (inr (inr p)) = inr (inr p)

pub before_cases : (a b : Edge) → ComesBefore a b ⊎ ((a ≡ b) ⊎ ComesBefore b a)
before_cases Before Before = inr (inl refl)
before_cases Before (At n) = inl refl
before_cases Before Never = inl refl
before_cases (At m) Before = inr (inr refl)
before_cases (At m) (At n) = before_cases_at m n (moment_order.total m n)
before_cases (At m) Never = inl refl
before_cases Never Before = inr (inr refl)
before_cases Never (At n) = inr (inr refl)
before_cases Never Never = inr (inl refl)

pub not_both_ways : (a b : Edge) → ComesBefore a b → ¬ ComesBefore b a
not_both_ways a b p q = before_irreflexive a (before_transitive a b a p q)

not_after_by : (a b c : Edge) → ComesBefore a b → ¬ ComesBefore c b → ComesBefore b c ⊎ ((b ≡ c) ⊎ ComesBefore c b) → ComesBefore a c
not_after_by a b c p n (inl q) = before_transitive a b c p q
not_after_by a b c p n (inr (inl e)) = subst (λ (x : Edge). ComesBefore a x) e p
not_after_by a b c p n (inr (inr q)) = absurd (n q)

-- an edge that comes before another comes before every edge that is not before that other
pub before_not_after : (a b c : Edge) → ComesBefore a b → ¬ ComesBefore c b → ComesBefore a c
before_not_after a b c p n = not_after_by a b c p n (before_cases b c)

not_before_by : (a b c : Edge) → ¬ ComesBefore b a → ComesBefore b c → ComesBefore a b ⊎ ((a ≡ b) ⊎ ComesBefore b a) → ComesBefore a c
not_before_by a b c n q (inl p) = before_transitive a b c p q
not_before_by a b c n q (inr (inl e)) = subst (λ (x : Edge). ComesBefore x c) (sym e) q
not_before_by a b c n q (inr (inr p)) = absurd (n p)

pub not_after_before : (a b c : Edge) → ¬ ComesBefore b a → ComesBefore b c → ComesBefore a c
not_after_before a b c n q = not_before_by a b c n q (before_cases a b)

pub before-false : (a b : Edge) → ¬ ComesBefore a b → edge_before a b ≡ false
before-false a b n = false_from_ne_true (edge_before a b) n

pub Decides-same_edge : (a b : Edge) → Decides (same_edge a b) (a ≡ b)
Decides-same_edge Before Before = (λ _. refl, λ _. refl)
Decides-same_edge Before (At n) = (λ e. absurd (cc), λ e. absurd (cc))
Decides-same_edge Before Never = (λ e. absurd (cc), λ e. absurd (cc))
Decides-same_edge (At m) Before = (λ e. absurd (cc), λ e. absurd (cc))
Decides-same_edge (At m) (At n) = (λ e. ap At ((Decides-same_moment m n).0 e), λ e. (Decides-same_moment m n).1 (cc))
Decides-same_edge (At m) Never = (λ e. absurd (cc), λ e. absurd (cc))
Decides-same_edge Never Before = (λ e. absurd (cc), λ e. absurd (cc))
Decides-same_edge Never (At n) = (λ e. absurd (cc), λ e. absurd (cc))
Decides-same_edge Never Never = (λ _. refl, λ _. refl)

-- zones by their left edges are in this order
abbrev pub left_of : Zone → Edge
left_of z = z.left

pub edge_order : IsStrictOrder edge_before
edge_order = record { irreflexive = before_irreflexive; transitive = before_transitive; total = before_cases }

pub edge_exact : IsExact same_edge
edge_exact = record { one = λ a b. (Decides-same_edge a b).0; here = λ a b. (Decides-same_edge a b).1 }
