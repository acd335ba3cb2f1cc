-- A tree that has the zones of a register has each once.
use Rattle.std.proofs.Common.{◌≡◌, ◌≢◌, ◌⊎◌, inl, inr, Bool, true, false, not, List, [], ◌∷◌, Option, Some, None, refl, sym, ap, ◌∙◌, subst, cond}
use Rattle.std.specs.Prelude.{All, Contains, IsPermutation, IsSome, map}
use Rattle.std.specs.List.{AllPairs}
use Rattle.std.proofs.lemmas.Bool.{both_ways, not-true, not_from_false, false_from_ne_true}
use Rattle.std.proofs.lemmas.List.Elements.{All-contains}
use Rattle.std.proofs.lemmas.List.Kept.{AllPairs-cons}
use Rattle.std.proofs.lemmas.List.Sorted.{IsPermutation-refl, IsPermutation-sym, IsPermutation-cons, IsPermutation-trans}
use Rattle.intervals.specs.declared.operation.Value.{Value}
use Rattle.intervals.specs.declared.operation.Op.{Op}
use Rattle.intervals.specs.Standing.{HasDistinctMoments, HasNoValueTwice}
use Rattle.intervals.specs.Kind.{HasNoWrite}
use Rattle.intervals.specs.Operation.{IsWrite, is_write, value_of, writes}
use Rattle.zone_tree.specs.declared.edge.Edge.{Edge}
use Rattle.zone_tree.specs.declared.edge.Edge.TheVariants.{Before, At, Never}
use Rattle.zone_tree.specs.declared.zone.Zone.{Zone}
use Rattle.zone_tree.specs.Edge.{ComesBefore, same_edge}
use Rattle.zone_tree.specs.Order.{IsByLeft, StandInOrder, without_zone_at, zone_at}
use Rattle.zone_tree.proofs.EdgeOrder.{Decides-same_edge, edge_exact, left_of}
use Rattle.zone_tree.proofs.Places.{members_without, order_left}
use Rattle.zones.specs.AtFirst.{unused_value}
use Rattle.zones.specs.Cluster.{zone_of, written_zone, values_from, zones_from, zones_of}
use Rattle.zones.specs.Members.{HasWrite}
use Rattle.zones.specs.Zoned.{AreZoned}
use Rattle.zones.proofs.Members.{all_from, here, there, in_none, contains_cases, kept, kept_present, mapped, pairs_head, pairs_tail}
use Rattle.zones.proofs.Edited.{from_map}
use Rattle.zones.proofs.Excluded.{zones_apart}
use Rattle.zones.proofs.Cluster.{EdgeIn, left, left_in, left_initial}
use Rattle.zones.proofs.Fresh.{fresh_is_new, fresh_not_written}
use Rattle.zones.proofs.PerValue.{found_standing}
use Rattle.zones.proofs.Written.{write_member, written_zone_is}

abbrev Apart : Zone → Zone → Type 0
Apart a b = a.left ≢ b.left

-- a list in order has each zone of another list once, where both have the same zones and no two have one left edge
found_at : (zones : List Zone) (left : Edge) (z : Zone) → zone_at left zones ≡ Some z → Contains zones z × (z.left ≡ left)
found_at [] left z e = absurd (cc)
found_at (a ∷ zones) left z e = by_cases (same_edge a.left left) refl e (found_at zones left z)
  where
    by_cases : (t : Bool) → same_edge a.left left ≡ t → cond t (Some a) (zone_at left zones) ≡ Some z → (zone_at left zones ≡ Some z → Contains zones z × (z.left ≡ left)) → Contains (a ∷ zones) z × (z.left ≡ left)
    by_cases true t e later = let same : a ≡ z = cc in (subst (Contains (a ∷ zones)) same (here a zones), ap (λ (x : Zone). x.left) (sym same) ∙ (Decides-same_edge a.left left).0 t)
    by_cases false t e later = let (h, f) = later e in (there a zones z h, f)

each_once : (zones tree : List Zone) → AllPairs Apart zones → StandInOrder tree → ((z : Zone) → Contains zones z → Contains tree z) → ((z : Zone) → Contains tree z → Contains zones z) → IsPermutation zones tree
each_once [] [] apart order each only = IsPermutation-refl []
each_once [] (z ∷ tree) apart order each only = absurd (in_none z (only z (here z tree)))
each_once (a ∷ zones) tree apart order each only =
    by_found (zone_at a.left tree) refl (found_standing left_of same_edge edge_exact tree a a.left (each a (here a zones)) refl) (each_once zones (without_zone_at a.left tree) (pairs_tail Apart a zones apart) (order_left a.left tree order))
  where
    others : (z : Zone) → Contains zones z → a.left ≢ z.left
    others z h = All-contains (Apart a) zones z (pairs_head Apart a zones apart) h

    still : (z : Zone) → Contains zones z → Contains (without_zone_at a.left tree) z
    still z h =
        kept (λ x. not (same_edge x.left a.left)) tree z (each z (there a zones z h))
        (not_from_false (same_edge z.left a.left) (false_from_ne_true (same_edge z.left a.left) (λ t. others z h (sym ((Decides-same_edge z.left a.left).0 t)))))

    by_cases : (z : Zone) → not (same_edge z.left a.left) ≡ true → (a ≡ z) ⊎ Contains zones z → Contains zones z
    by_cases z t (inl e) = absurd (both_ways (same_edge z.left a.left) (not-true (same_edge z.left a.left) t) ((Decides-same_edge z.left a.left).1 (ap (λ (x : Zone). x.left) (sym e))))
    by_cases z t (inr h) = h

    stood : (z : Zone) → Contains (without_zone_at a.left tree) z → Contains zones z
    stood z h = let (k, t) = kept_present (λ x. not (same_edge x.left a.left)) tree z h in by_cases z t (contains_cases a zones z (only z k))

    is_first : (z : Zone) → z.left ≡ a.left → (a ≡ z) ⊎ Contains zones z → z ≡ a
    is_first z e (inl f) = sym f
    is_first z e (inr h) = absurd (others z h (sym e))

    by_found : (found : Option Zone) → zone_at a.left tree ≡ found → IsSome found
        → (((z : Zone) → Contains zones z → Contains (without_zone_at a.left tree) z) → ((z : Zone) → Contains (without_zone_at a.left tree) z → Contains zones z) → IsPermutation zones (without_zone_at a.left tree))
        → IsPermutation (a ∷ zones) tree
    by_found None e some later = absurd (cc)
    by_found (Some z) e some later =
        let (h, f) = found_at tree a.left z e in
        let same : z ≡ a = is_first z f (contains_cases a zones z (only z h)) in
        IsPermutation-trans (a ∷ zones) (a ∷ without_zone_at a.left tree) tree
        (IsPermutation-cons a zones (without_zone_at a.left tree) (later still stood))
        (IsPermutation-sym tree (a ∷ without_zone_at a.left tree) (members_without a.left tree a order (e ∙ ap Some same)))

-- two functions that agree on a list map it to one list
same_image : {X Y : Type 0} (f g : X → Y) (xs : List X) → ((x : X) → Contains xs x → f x ≡ g x) → map f xs ≡ map g xs
same_image f g [] same = refl
same_image f g (x ∷ xs) same = let rest = same_image f g xs (λ y h. same y (there x xs y h)) in let first = same x (here x xs) in λ i. first i ∷ rest i

-- a value that a write carries has a write
pub has_write : (ops : List Op) (v : Value) → Contains (values_from None ops) v → HasWrite ops v
has_write ops v h =
    let (w, k, e) = from_map (λ w. value_of w.act) (writes ops) v h in
    let (present, write) = kept_present is_write ops w k in (w, record { present = present; write = write; same = e })

pub carried : (ops : List Op) (v : Value) → HasWrite ops v → Contains (values_from None ops) v
carried ops v (w, is) =
    subst (Contains (values_from None ops)) is.same (mapped (λ w. value_of w.act) (writes ops) w (kept is_write ops w is.present is.write))

-- where no write has the initial value its zone comes before those of the writes
pub zones_following : (initial : Value) (ops : List Op) → HasNoWrite ops initial → zones_of initial ops ≡ zone_of initial ops initial ∷ zones_from None ops
zones_following initial ops none =
    ap (λ (zones : List Zone). zone_of initial ops initial ∷ zones)
    (same_image (zone_of initial ops) (written_zone ops) (values_from None ops) (λ v h.
    let (w, is) = has_write ops v h in
    written_zone_is initial ops v (λ e. All-contains (λ w. IsWrite w → value_of w.act ≢ initial) ops w none is.present is.write (is.same ∙ e))))

written_apart : (ops : List Op) → HasDistinctMoments ops → HasNoValueTwice ops → AllPairs Apart (zones_from None ops)
written_apart ops moments apart =
    let i = unused_value ops in
    pairs_tail Apart (zone_of i ops i) (zones_from None ops)
    (subst (AllPairs Apart) (zones_following i ops (fresh_not_written ops)) (zones_apart i ops moments (record { apart = apart; new = fresh_not_written ops })))

pub zones_each_once : (ops : List Op) (tree : List Zone) → HasDistinctMoments ops → HasNoValueTwice ops → StandInOrder tree → AreZoned ops tree → IsPermutation (zones_from None ops) tree
zones_each_once ops tree moments apart order zoned =
    each_once (zones_from None ops) tree (written_apart ops moments apart) order
    (λ z h. let (v, k, e) = from_map (written_zone ops) (values_from None ops) z h in subst (Contains tree) e (zoned.each v (has_write ops v k)))
    (λ z h. let (k, e) = zoned.only z h in subst (Contains (zones_from None ops)) (sym e) (mapped (written_zone ops) (values_from None ops) z.value (carried ops z.value k)))

-- the zone of a value that has a write begins after the initial write
pub begins_later : (ops : List Op) (v : Value) → HasWrite ops v → ComesBefore Before (written_zone ops v).left
begins_later ops v (w, is) =
    let i = unused_value ops in
    let n : v ≢ i = λ e. fresh_is_new ops w is.present (is.same ∙ e) in
    subst (λ (z : Zone). ComesBefore Before z.left) (written_zone_is i ops v n)
    (by_edge i n (left i ops v) (left_in i ops v w (write_member i ops v w is)))
  where
    by_edge : (i : Value) → v ≢ i → (e : Edge) → EdgeIn i ops v e → ComesBefore Before e
    by_edge i n Before is = absurd (n is)
    by_edge i n (At m) is = refl
    by_edge i n Never is = absurd is

-- the initial zone before those of a tree gives each zone of the register once
pub after_once : (initial : Value) (ops : List Op) (tree : List Zone) → HasNoWrite ops initial → IsPermutation (zones_from None ops) tree → IsPermutation (zones_of initial ops) (zone_of initial ops initial ∷ tree)
after_once initial ops tree none once =
    subst (λ (zones : List Zone). IsPermutation zones (zone_of initial ops initial ∷ tree)) (sym (zones_following initial ops none))
    (IsPermutation-cons (zone_of initial ops initial) (zones_from None ops) tree once)

pub present_before : (initial : Value) (ops : List Op) (tree : List Zone) → AreZoned ops tree → All (λ z. ComesBefore (zone_of initial ops initial).left z.left) tree
present_before initial ops tree zoned = all_from (λ z. ComesBefore (zone_of initial ops initial).left z.left) tree (λ z h.
    let (has, e) = zoned.only z h in
    subst (λ (a : Edge). ComesBefore a z.left) (sym (left_initial initial ops)) (subst (λ (x : Zone). ComesBefore Before x.left) (sym e) (begins_later ops z.value has)))

pub by_left_after : (initial : Value) (ops : List Op) (tree : List Zone) → AreZoned ops tree → IsByLeft tree → IsByLeft (zone_of initial ops initial ∷ tree)
by_left_after initial ops tree zoned by_left = AllPairs-cons (λ a b. ComesBefore a.left b.left) (zone_of initial ops initial) tree (present_before initial ops tree zoned) by_left
