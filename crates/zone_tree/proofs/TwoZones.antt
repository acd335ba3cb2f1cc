-- When two zones conflict.
use Rattle.std.proofs.Common.{◌≡◌, ◌↔◌, ◌⊎◌, inl, inr, Bool, true, false, ap}
use Rattle.std.specs.Prelude.{if◌then◌else◌}
use Rattle.std.proofs.lemmas.Bool.{cases_Bool, false_from_ne_true, both_ways}
use Rattle.zone_tree.specs.declared.edge.Edge.{Edge}
use Rattle.zone_tree.specs.declared.zone.Zone.{Zone}
use Rattle.zone_tree.specs.Edge.{ComesBefore}
use Rattle.zone_tree.specs.Zone.{IsForward, least_end, greatest_begin, HasOrderedEdges, Conflicts, ZonesOverlap, LiesInside}
use Rattle.zone_tree.proofs.EdgeOrder.{before_transitive, not_both_ways, before_not_after, not_after_before}

least_end-forward : (z : Zone) → IsForward z → least_end z ≡ z.left
least_end-forward z e = ap (λ (b : Bool). if b then z.left else z.right) e

greatest_begin-forward : (z : Zone) → IsForward z → greatest_begin z ≡ z.right
greatest_begin-forward z e = ap (λ (b : Bool). if b then z.right else z.left) e

backward : (z : Zone) → ¬ IsForward z → z.forward ≡ false
backward z n = false_from_ne_true z.forward n

least_end-backward : (z : Zone) → ¬ IsForward z → least_end z ≡ z.right
least_end-backward z n = ap (λ (b : Bool). if b then z.left else z.right) (backward z n)

greatest_begin-backward : (z : Zone) → ¬ IsForward z → greatest_begin z ≡ z.left
greatest_begin-backward z n = ap (λ (b : Bool). if b then z.right else z.left) (backward z n)

-- two zones conflict by their four edges, as these are given
conflict_at : (a b : Zone) (m M n N : Edge) → least_end a ≡ m → greatest_begin a ≡ M → least_end b ≡ n → greatest_begin b ≡ N → Conflicts a b ↔ (ComesBefore m N × ComesBefore n M)
conflict_at a b m M n N e f g h = (
  (λ c. (rw (e, h) at c.0, rw (g, f) at c.1)),
  (λ c. (rw (e, h) c.0, rw (g, f) c.1)),
)

pub forward_zones : (a b : Zone) → IsForward a → IsForward b → Conflicts a b ↔ ZonesOverlap a b
forward_zones a b f g =
    conflict_at a b a.left a.right b.left b.right (least_end-forward a f) (greatest_begin-forward a f) (least_end-forward b g) (greatest_begin-forward b g)

pub backward_inside : (a b : Zone) → IsForward a → ¬ IsForward b → Conflicts a b ↔ LiesInside b a
backward_inside a b f g =
    conflict_at a b a.left a.right b.right b.left (least_end-forward a f) (greatest_begin-forward a f) (least_end-backward b g) (greatest_begin-backward b g)

pub backward_apart : (a b : Zone) → HasOrderedEdges a → HasOrderedEdges b → ¬ IsForward a → ¬ IsForward b → ¬ Conflicts a b
backward_apart a b s t f g c =
    let both = (conflict_at a b a.right a.left b.right b.left (least_end-backward a f) (greatest_begin-backward a f) (least_end-backward b g) (greatest_begin-backward b g)).0 c in
    t.1 g (before_transitive b.right a.left b.left both.1 (not_after_before a.left a.right b.left (s.1 f) both.0))

pub conflict_symmetric : (a b : Zone) → Conflicts a b → Conflicts b a
conflict_symmetric a b c = (c.1, c.0)

-- of two zones by left edge that conflict, the earlier one is forward
earlier_is_forward_by : (a b : Zone) → HasOrderedEdges a → HasOrderedEdges b → ComesBefore a.left b.left → Conflicts a b → (a.forward ≡ true) ⊎ (a.forward ≡ false) → (b.forward ≡ true) ⊎ (b.forward ≡ false) → IsForward a
earlier_is_forward_by a b s t l c (inl f) g = f
earlier_is_forward_by a b s t l c (inr f) (inl g) =
    let inside = (backward_inside b a g (both_ways a.forward f)).0 (conflict_symmetric a b c) in
    absurd (not_both_ways a.left b.left l inside.0)
earlier_is_forward_by a b s t l c (inr f) (inr g) = absurd (backward_apart a b s t (both_ways a.forward f) (both_ways b.forward g) c)

pub earlier_is_forward : (a b : Zone) → HasOrderedEdges a → HasOrderedEdges b → ComesBefore a.left b.left → Conflicts a b → IsForward a
earlier_is_forward a b s t l c = earlier_is_forward_by a b s t l c (cases_Bool a.forward) (cases_Bool b.forward)

-- where a zone conflicts with a forward one, it does with each forward one before it that ends no earlier
conflict_farther_by : (a f z : Zone) → HasOrderedEdges z → IsForward a → IsForward f → ComesBefore f.left z.left → ¬ ComesBefore f.right a.right → Conflicts a z → (z.forward ≡ true) ⊎ (z.forward ≡ false) → Conflicts f z
conflict_farther_by a f z t fa ff l far c (inl g) =
    let over = (forward_zones a z fa g).0 c in
    (forward_zones f z ff g).1 (before_transitive f.left z.left z.right l (t.0 g), before_not_after z.left a.right f.right over.1 far)
conflict_farther_by a f z t fa ff l far c (inr g) =
    let inside = (backward_inside a z fa (both_ways z.forward g)).0 c in
    (backward_inside f z ff (both_ways z.forward g)).1 (l, before_not_after z.right a.right f.right inside.1 far)

pub conflict_farther : (a f z : Zone) → HasOrderedEdges z → IsForward a → IsForward f → ComesBefore f.left z.left → ¬ ComesBefore f.right a.right → Conflicts a z → Conflicts f z
conflict_farther a f z t fa ff l far c = conflict_farther_by a f z t fa ff l far c (cases_Bool z.forward)

-- of two forward zones in order that do not conflict the later one ends later
pub clear_ends_before : (a b : Zone) → HasOrderedEdges a → HasOrderedEdges b → IsForward a → IsForward b → ComesBefore a.left b.left → ¬ Conflicts a b → ComesBefore a.right b.right
clear_ends_before a b s t fa fb l n =
    not_after_before a.right b.left b.right
    (λ h. n ((forward_zones a b fa fb).1 (before_transitive a.left b.left b.right l (t.0 fb), h)))
    (t.0 fb)

ordered_by : (z : Zone) → (z.forward ≡ true) ⊎ (z.forward ≡ false) → HasOrderedEdges z ↔ (IsForward z ↔ ComesBefore (least_end z) (greatest_begin z))
ordered_by z (inl f) =
    rw (least_end-forward z f, greatest_begin-forward z f) (
      (λ h. (λ _. h.0 f, λ _. f)),
      (λ h. (h.0, λ n. absurd (n f))),
    )
ordered_by z (inr f) =
    let n = both_ways z.forward f in
    rw (least_end-backward z n, greatest_begin-backward z n) (
      (λ h. (λ g. absurd (n g), λ p. absurd (h.1 n p))),
      (λ h. (λ g. absurd (n g), λ _ p. n (h.1 p))),
    )

pub ordered_where : (z : Zone) → HasOrderedEdges z ↔ (IsForward z ↔ ComesBefore (least_end z) (greatest_begin z))
ordered_where z = ordered_by z (cases_Bool z.forward)
