-- A list in order has one first conflict.
use Rattle.std.proofs.Common.{◌≡◌, ◌⊎◌, inl, inr, ℕ, ◌<◌, List, ◌∷◌, ◌++◌, length, get_or, refl, sym, ap, subst, ◌∙◌, arith}
use Rattle.std.proofs.lemmas.Bool.{cases_order}
use Rattle.std.proofs.lemmas.List.{length-append, get_or_append_left, get_or_at, get_or_default}
use Rattle.zone_tree.specs.declared.zone.Zone.{Zone}
use Rattle.zone_tree.specs.Edge.{ComesBefore}
use Rattle.zone_tree.specs.Zone.{IsForward, HasOrderedEdges, Conflicts}
use Rattle.zone_tree.specs.Conflict.{IsFirstConflict}
use Rattle.zone_tree.specs.Order.{StandInOrder}
use Rattle.zone_tree.proofs.TwoZones.{clear_ends_before}

-- a first conflict by the places of its two zones
record FirstAt (zones : List Zone) (n k : ℕ) (a b : Zone) : Type 0 where
  earlier : k < n
  within : n < length zones
  first : (d : Zone) → get_or zones k d ≡ a
  second : (d : Zone) → get_or zones n d ≡ b
  clear : (i j : ℕ) (d : Zone) → i < j → j < n → IsForward (get_or zones i d) → ¬ Conflicts (get_or zones i d) (get_or zones j d)
  farthest : (i : ℕ) (d : Zone) → i < n → IsForward (get_or zones i d) → ¬ ComesBefore a.right (get_or zones i d).right
  forward : IsForward a
  conflict : Conflicts a b

-- an element of a prefix is that of the whole list
in_front : (zones front : List Zone) (y : Zone) (back : List Zone) (i : ℕ) (d : Zone) → zones ≡ front ++ y ∷ back → i < length front → get_or front i d ≡ get_or zones i d
in_front zones front y back i d e lt = sym (ap (λ zs. get_or zs i d) e ∙ get_or_append_left front (y ∷ back) d i lt)

first_by_places : (zones : List Zone) (a b : Zone) (is : IsFirstConflict zones a b) → FirstAt zones (length is.earlier) is.farthest.present.0 a b
first_by_places zones a b is =
    let present = is.farthest.present in
    let same = λ (i : ℕ) (d : Zone) (lt : i < length is.earlier). in_front zones is.earlier b is.later i d is.parts lt in
    record {
      earlier = present.1;
      within = omega (arith, ap length is.parts, length-append is.earlier (b ∷ is.later));
      first = λ d. sym (same present.0 d present.1) ∙ get_or_default is.earlier present.0 d a present.1 ∙ present.2;
      second = λ d. ap (λ zs. get_or zs (length is.earlier) d) is.parts ∙ get_or_at is.earlier b is.later d (length is.earlier) refl;
      clear = λ i j d lt below f c.
          let e = sym (same i d (omega arith)) in
          is.clear i j d lt below (subst IsForward e f) (subst (λ (z : Zone). Conflicts z (get_or is.earlier j d)) e (subst (Conflicts (get_or zones i d)) (sym (same j d below)) c));
      farthest = λ i d below f p.
          let e = sym (same i d below) in
          is.farthest.farthest i d below (subst IsForward e f) (subst (λ (z : Zone). ComesBefore a.right z.right) e p);
      forward = is.farthest.forward;
      conflict = is.conflict;
    }

-- the second zone of one first conflict cannot be earlier than that of another
not_earlier : (zones : List Zone) (n k m l : ℕ) (a b c d : Zone) → FirstAt zones n k a b → FirstAt zones m l c d → ¬ n < m
not_earlier zones n k m l a b c d f g lt =
    g.clear k n a f.earlier lt (subst IsForward (sym (f.first a)) f.forward)
    (subst (λ (z : Zone). Conflicts z (get_or zones n a)) (sym (f.first a)) (subst (Conflicts a) (sym (f.second a)) f.conflict))

-- of two forward zones that do not conflict the later one ends later, so the earlier is not the farthest
not_left : (zones : List Zone) (n k l : ℕ) (a b c d : Zone) → StandInOrder zones → FirstAt zones n k a b → FirstAt zones n l c d → ¬ k < l
not_left zones n k l a b c d order f g lt =
    let at_k = f.first a in
    let at_l = g.first a in
    let before : ComesBefore a.left c.left =
    subst (λ (z : Zone). ComesBefore z.left c.left) at_k
    (subst (λ (z : Zone). ComesBefore (get_or zones k a).left z.left) at_l (order.by_left k l a lt (omega (arith, g.earlier, g.within)))) in
    let clear = λ (con : Conflicts a c).
    f.clear k l a lt g.earlier (subst IsForward (sym at_k) f.forward)
    (subst (λ (z : Zone). Conflicts z (get_or zones l a)) (sym at_k) (subst (Conflicts a) (sym at_l) con)) in
    let ends : ComesBefore a.right c.right =
    clear_ends_before a c
    (subst HasOrderedEdges at_k (order.edges k a (omega (arith, f.earlier, f.within))))
    (subst HasOrderedEdges at_l (order.edges l a (omega (arith, g.earlier, g.within))))
    f.forward g.forward before clear in
    f.farthest l a g.earlier (subst IsForward (sym at_l) g.forward) (subst (λ (z : Zone). ComesBefore a.right z.right) (sym at_l) ends)

same_first : (zones : List Zone) (n k l : ℕ) (a b c d : Zone) → StandInOrder zones → FirstAt zones n k a b → FirstAt zones n l c d → (k ≡ l) ⊎ ((k < l) ⊎ (l < k)) → a ≡ c
same_first zones n k l a b c d order f g (inl e) = sym (f.first a) ∙ ap (λ i. get_or zones i a) e ∙ g.first a
same_first zones n k l a b c d order f g (inr (inl lt)) = absurd (not_left zones n k l a b c d order f g lt)
same_first zones n k l a b c d order f g (inr (inr lt)) = absurd (not_left zones n l k c d a b order g f lt)

same_at : (zones : List Zone) (n k m l : ℕ) (a b c d : Zone) → StandInOrder zones → FirstAt zones n k a b → FirstAt zones m l c d → n ≡ m → (a ≡ c) × (b ≡ d)
same_at zones n k m l a b c d order f g e =
    let h = subst (λ i. FirstAt zones i l c d) (sym e) g in
    (same_first zones n k l a b c d order f h (cases_order k l), sym (f.second a) ∙ h.second a)

same_by : (zones : List Zone) (n k m l : ℕ) (a b c d : Zone) → StandInOrder zones → FirstAt zones n k a b → FirstAt zones m l c d → (n ≡ m) ⊎ ((n < m) ⊎ (m < n)) → (a ≡ c) × (b ≡ d)
same_by zones n k m l a b c d order f g (inl e) = same_at zones n k m l a b c d order f g e
same_by zones n k m l a b c d order f g (inr (inl lt)) = absurd (not_earlier zones n k m l a b c d f g lt)
same_by zones n k m l a b c d order f g (inr (inr lt)) = absurd (not_earlier zones m l n k c d a b g f lt)

pub one_first : (zones : List Zone) (a b c d : Zone) → StandInOrder zones → IsFirstConflict zones a b → IsFirstConflict zones c d → (a ≡ c) × (b ≡ d)
one_first zones a b c d order first second =
    same_by zones (length first.earlier) first.farthest.present.0 (length second.earlier) second.farthest.present.0 a b c d order
    (first_by_places zones a b first) (first_by_places zones c d second) (cases_order (length first.earlier) (length second.earlier))
