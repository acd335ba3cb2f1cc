-- Zones can be sorted by their left edges in one way.
use Rattle.std.proofs.Common.{◌≡◌, ◌↔◌, ◌⊎◌, inl, inr, ℕ, zero, suc, ◌<◌, List, [], ◌∷◌, length, get_or, refl, sym, ap, subst, ◌∙◌, arith}
use Rattle.std.specs.Prelude.{Contains}
use Rattle.std.proofs.lemmas.List.Elements.{All-contains}
use Rattle.zone_tree.specs.declared.zone.Zone.{Zone}
use Rattle.zone_tree.specs.Edge.{ComesBefore}
use Rattle.zone_tree.specs.Order.{IsByLeft}
use Rattle.zone_tree.proofs.EdgeOrder.{before_irreflexive, not_both_ways}
use Rattle.summary_tree.proofs.Pairs.{pairs_head, pairs_tail}

abbrev Left : Zone → Zone → Type 0
Left a b = ComesBefore a.left b.left

first : (x : Zone) (xs : List Zone) → Contains (x ∷ xs) x
first x xs = (0, omega arith, refl)

later : (x : Zone) (xs : List Zone) (z : Zone) → Contains xs z → Contains (x ∷ xs) z
later x xs z h = (suc h.0, omega (arith, h.1), h.2)

at_place : (x : Zone) (xs : List Zone) (z : Zone) (k : ℕ) → k < length (x ∷ xs) → get_or (x ∷ xs) k z ≡ z → (x ≡ z) ⊎ Contains xs z
at_place x xs z zero lt e = inl e
at_place x xs z (suc k) lt e = inr (k, omega arith, e)

cases : (x : Zone) (xs : List Zone) (z : Zone) → Contains (x ∷ xs) z → (x ≡ z) ⊎ Contains xs z
cases x xs z h = at_place x xs z h.0 h.1 h.2

-- the first zone begins before each later one
first_begins : (x : Zone) (xs : List Zone) (z : Zone) → IsByLeft (x ∷ xs) → Contains xs z → ComesBefore x.left z.left
first_begins x xs z by h = All-contains (Left x) xs z (pairs_head Left x xs by) h

same_first_by : (x : Zone) (xs : List Zone) (y : Zone) (ys : List Zone) → IsByLeft (x ∷ xs) → IsByLeft (y ∷ ys) → (y ≡ x) ⊎ Contains ys x → (x ≡ y) ⊎ Contains xs y → x ≡ y
same_first_by x xs y ys by up (inl e) h = sym e
same_first_by x xs y ys by up (inr g) (inl e) = e
same_first_by x xs y ys by up (inr g) (inr h) = absurd (not_both_ways x.left y.left (first_begins x xs y by h) (first_begins y ys x up g))

in_rest_by : (x : Zone) (xs ys : List Zone) (z : Zone) → IsByLeft (x ∷ xs) → Contains xs z → (x ≡ z) ⊎ Contains ys z → Contains ys z
in_rest_by x xs ys z by h (inl e) = absurd (before_irreflexive z.left (subst (λ (y : Zone). ComesBefore y.left z.left) e (first_begins x xs z by h)))
in_rest_by x xs ys z by h (inr g) = g

-- lists of the same zones with one first zone have the same other zones
in_rest : (x : Zone) (xs ys : List Zone) (z : Zone) → IsByLeft (x ∷ xs) → (Contains (x ∷ xs) z → Contains (x ∷ ys) z) → Contains xs z → Contains ys z
in_rest x xs ys z by f h = in_rest_by x xs ys z by h (cases x ys z (f (later x xs z h)))

pub one_order : (xs ys : List Zone) → IsByLeft xs → IsByLeft ys → ((z : Zone) → Contains xs z ↔ Contains ys z) → xs ≡ ys
one_order [] [] by up same = refl
one_order [] (y ∷ ys) by up same = absurd (let h = (same y).1 (first y ys) in omega (arith, h.1))
one_order (x ∷ xs) [] by up same = absurd (let h = (same x).0 (first x xs) in omega (arith, h.1))
one_order (x ∷ xs) (y ∷ ys) by up same =
    let e : x ≡ y = same_first_by x xs y ys by up (cases y ys x ((same x).0 (first x xs))) (cases x xs y ((same y).1 (first y ys))) in
    let again : (z : Zone) → Contains (x ∷ xs) z ↔ Contains (x ∷ ys) z = subst (λ (w : Zone). (z : Zone) → Contains (x ∷ xs) z ↔ Contains (w ∷ ys) z) (sym e) same in
    let up_again : IsByLeft (x ∷ ys) = subst (λ (w : Zone). IsByLeft (w ∷ ys)) (sym e) up in
    ap (λ zs. x ∷ zs) (one_order xs ys (pairs_tail Left x xs by) (pairs_tail Left y ys up)
    (λ z. (in_rest x xs ys z by (again z).0, in_rest x ys xs z up_again (again z).1)))
    ∙ ap (λ (w : Zone). w ∷ ys) e
