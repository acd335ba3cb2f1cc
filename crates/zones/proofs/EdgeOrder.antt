-- The earlier and the later of two edges.
use Rattle.std.proofs.Common.{◌≡◌, ◌⊎◌, inl, inr, refl}
use Rattle.std.proofs.lemmas.Bool.{both_ways, cond_both}
use Rattle.zone_tree.specs.declared.edge.Edge.{Edge}
use Rattle.zone_tree.specs.declared.edge.Edge.TheVariants.{Before, At, Never}
use Rattle.zone_tree.specs.Edge.{ComesBefore, earlier_edge, edge_before, later_edge}
pub use Rattle.zone_tree.proofs.EdgeOrder.{before_irreflexive, before_transitive, before_cases, not_both_ways, before_not_after, not_after_before}

-- the first edge does not come after the second
abbrev pub AtMost : Edge → Edge → Type 0
AtMost a b = ¬ ComesBefore b a

pub at_most_itself : (a : Edge) → AtMost a a
at_most_itself a = before_irreflexive a

pub at_most_transitive : (a b c : Edge) → AtMost a b → AtMost b c → AtMost a c
at_most_transitive a b c p q r = q (before_not_after c a b r p)

both_at_most : (a b : Edge) → AtMost a b → AtMost b a → ComesBefore a b ⊎ ((a ≡ b) ⊎ ComesBefore b a) → a ≡ b
both_at_most a b p q (inl r) = absurd (q r)
both_at_most a b p q (inr (inl e)) = e
both_at_most a b p q (inr (inr r)) = absurd (p r)

pub at_most_both : (a b : Edge) → AtMost a b → AtMost b a → a ≡ b
at_most_both a b p q = both_at_most a b p q (before_cases a b)

pub before_all : (a : Edge) → AtMost Before a
before_all Before h = absurd (cc)
before_all (At n) h = absurd (cc)
before_all Never h = absurd (cc)

pub earlier-left : (a b : Edge) → AtMost (earlier_edge a b) a
earlier-left a b = cond_both (edge_before b a) b a (λ (e : Edge). AtMost e a) (λ p. not_both_ways b a p) (λ f. before_irreflexive a)

pub earlier-right : (a b : Edge) → AtMost (earlier_edge a b) b
earlier-right a b = cond_both (edge_before b a) b a (λ (e : Edge). AtMost e b) (λ p. before_irreflexive b) (λ f. both_ways (edge_before b a) f)

pub earlier-cases : (a b : Edge) → (a ≡ earlier_edge a b) ⊎ (b ≡ earlier_edge a b)
earlier-cases a b = cond_both (edge_before b a) b a (λ (e : Edge). (a ≡ e) ⊎ (b ≡ e)) (λ p. inr refl) (λ f. inl refl)

pub later-left : (a b : Edge) → AtMost a (later_edge a b)
later-left a b = cond_both (edge_before a b) b a (λ (e : Edge). AtMost a e) (λ p. not_both_ways a b p) (λ f. before_irreflexive a)

pub later-right : (a b : Edge) → AtMost b (later_edge a b)
later-right a b = cond_both (edge_before a b) b a (λ (e : Edge). AtMost b e) (λ p. before_irreflexive b) (λ f. both_ways (edge_before a b) f)

pub later-cases : (a b : Edge) → (a ≡ later_edge a b) ⊎ (b ≡ later_edge a b)
later-cases a b = cond_both (edge_before a b) b a (λ (e : Edge). (a ≡ e) ⊎ (b ≡ e)) (λ p. inr refl) (λ f. inl refl)
