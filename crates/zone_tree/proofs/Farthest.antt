-- The forward zone of greatest right edge decides whether a later zone conflicts with a forward one before it.
use Rattle.std.proofs.Common.{◌≡◌, ◌↔◌, ◌⊎◌, inl, inr, Bool, true, false, List, [], ◌∷◌, ◌++◌, Option, Some, None, sym, ap, subst, arith}
use Rattle.std.specs.Prelude.{All, Contains, IsSomeAnd, ◌&&◌, if◌then◌else◌, slice_index_or}
use Rattle.std.proofs.lemmas.Bool.{cases_Bool, and_parts, and_from, both_ways}
use Rattle.std.proofs.lemmas.List.Elements.{All-head, All-push, All-weaker, All-contains, Contains-push, Contains-append_left}
use Rattle.std.proofs.lemmas.List.Quantifiers.{all_pairs_push}
use Rattle.zone_tree.specs.declared.edge.Edge.{Edge}
use Rattle.zone_tree.specs.declared.zone.Zone.{Zone}
use Rattle.zone_tree.specs.Edge.{ComesBefore, edge_before}
use Rattle.zone_tree.specs.Zone.{IsForward, HasOrderedEdges, Conflicts}
use Rattle.zone_tree.specs.Conflict.{IsClean, KeepsClearOfForward, IsFarthestForward, IsFirstConflict}
use Rattle.zone_tree.specs.Order.{IsByLeft, StandInOrder}
use Rattle.zone_tree.proofs.EdgeOrder.{before_irreflexive, before_transitive}
use Rattle.summary_tree.proofs.Pairs.{pairs_front, pairs_across, All-front, All-back}
use Rattle.zone_tree.proofs.TwoZones.{earlier_is_forward, conflict_farther}

-- the zone is forward, and none was found yet or one of a lesser right edge
abbrev pub is_farther : Option Zone → Zone → Bool
is_farther None zone = zone.forward
is_farther (Some found) zone = zone.forward && edge_before found.right zone.right

-- the farthest forward zone after one more zone
abbrev pub farther_of : Option Zone → Zone → Option Zone
farther_of found zone = if is_farther found zone then Some zone else found

-- what is found is the farthest forward zone of the list, or nothing where none is forward
abbrev pub IsFarthest : Option Zone → List Zone → Type 0
IsFarthest None zones = All (λ z. ¬ IsForward z) zones
IsFarthest (Some found) zones = IsFarthestForward zones found

-- the zone conflicts with what is found
abbrev pub Meets : Option Zone → Zone → Type 0
Meets found zone = IsSomeAnd found (λ earlier. Conflicts earlier zone)

abbrev Ends : Edge → Zone → Type 0
Ends right other = IsForward other → ¬ ComesBefore right other.right

taken : (found : Option Zone) (z : Zone) → is_farther found z ≡ true → farther_of found z ≡ Some z
taken found z e = ap (λ (b : Bool). if b then Some z else found) e

kept : (found : Option Zone) (z : Zone) → is_farther found z ≡ false → farther_of found z ≡ found
kept found z e = ap (λ (b : Bool). if b then Some z else found) e

is_now : (found : Option Zone) (z : Zone) (zones : List Zone) (now : Option Zone) → farther_of found z ≡ now → IsFarthest now zones → IsFarthest (farther_of found z) zones
is_now found z zones now e h = subst (λ (o : Option Zone). IsFarthest o zones) (sym e) h

push_first : (zones : List Zone) (z : Zone) → All (λ z. ¬ IsForward z) zones → (z.forward ≡ true) ⊎ (z.forward ≡ false) → IsFarthest (farther_of None z) (zones ++ z ∷ [])
push_first zones z none (inl e) = is_now None z (zones ++ z ∷ []) (Some z) (taken None z e) (record {
  present = Contains-push zones z;
  forward = e;
  farthest = All-push (Ends z.right) zones z (All-weaker (λ o. ¬ IsForward o) (Ends z.right) (λ o n f. absurd (n f)) zones none) (λ _. before_irreflexive z.right);
})
push_first zones z none (inr e) = is_now None z (zones ++ z ∷ []) None (kept None z e) (All-push (λ z. ¬ IsForward z) zones z none (both_ways z.forward e))

not_farther : (found z : Zone) → is_farther (Some found) z ≡ false → Ends found.right z
not_farther found z e f p = both_ways _ e (and_from z.forward (edge_before found.right z.right) f p)

push_next : (zones : List Zone) (found z : Zone) → IsFarthestForward zones found → (is_farther (Some found) z ≡ true) ⊎ (is_farther (Some found) z ≡ false) → IsFarthest (farther_of (Some found) z) (zones ++ z ∷ [])
push_next zones found z is (inl e) =
    let parts = and_parts z.forward (edge_before found.right z.right) e in
    is_now (Some found) z (zones ++ z ∷ []) (Some z) (taken (Some found) z e) (record {
      present = Contains-push zones z;
      forward = parts.0;
      farthest =
          All-push (Ends z.right) zones z
          (All-weaker (Ends found.right) (Ends z.right) (λ o n f p. n f (before_transitive found.right z.right o.right parts.1 p)) zones is.farthest)
          (λ _. before_irreflexive z.right);
    })
push_next zones found z is (inr e) = is_now (Some found) z (zones ++ z ∷ []) (Some found) (kept (Some found) z e) (record {
  present = Contains-append_left zones (z ∷ []) found is.present;
  forward = is.forward;
  farthest = All-push (Ends found.right) zones z is.farthest (not_farther found z e);
})

pub farthest_push : (found : Option Zone) (zones : List Zone) (z : Zone) → IsFarthest found zones → IsFarthest (farther_of found z) (zones ++ z ∷ [])
farthest_push None zones z h = push_first zones z h (cases_Bool z.forward)
farthest_push (Some found) zones z h = push_next zones found z h (cases_Bool (is_farther (Some found) z))

abbrev Left : Zone → Zone → Type 0
Left a b = ComesBefore a.left b.left

-- each zone of the list begins before the one after them
before_last : (zones : List Zone) (z a : Zone) → IsByLeft (zones ++ z ∷ []) → Contains zones a → ComesBefore a.left z.left
before_last zones z a by h =
    All-head (Left a) z [] (All-contains (λ x. All (Left x) (z ∷ [])) zones a (pairs_across Left zones (z ∷ []) by) h)

last_edges : (zones : List Zone) (z : Zone) → All HasOrderedEdges (zones ++ z ∷ []) → HasOrderedEdges z
last_edges zones z h = All-head HasOrderedEdges z [] (All-back HasOrderedEdges zones (z ∷ []) h)

apart_from_each : (found : Option Zone) (zones : List Zone) (z : Zone) → StandInOrder (zones ++ z ∷ []) → IsFarthest found zones → ¬ Meets found z → All (λ a. IsForward a → ¬ Conflicts a z) zones
apart_from_each None zones z order none n = All-weaker (λ o. ¬ IsForward o) (λ a. IsForward a → ¬ Conflicts a z) (λ a no f. absurd (no f)) zones none
apart_from_each (Some found) zones z order is n =
    All-weaker (Ends found.right) (λ a. IsForward a → ¬ Conflicts a z)
    (λ a ends f c. n (conflict_farther a found z (last_edges zones z order.edges) f is.forward (before_last zones z found order.by_left is.present) (ends f) c))
    zones is.farthest

abbrev Clear : Zone → Zone → Type 0
Clear earlier later = IsForward earlier → ¬ Conflicts earlier later

pub clear_push : (found : Option Zone) (zones : List Zone) (z : Zone) → StandInOrder (zones ++ z ∷ []) → IsFarthest found zones → ¬ Meets found z → KeepsClearOfForward zones → KeepsClearOfForward (zones ++ z ∷ [])
clear_push found zones z order is n clear = all_pairs_push Clear zones z clear (apart_from_each found zones z order is n)

-- in a list in order no two zones conflict exactly where none conflicts with an earlier forward one
pub clean_where_clear : (zones : List Zone) → StandInOrder zones → IsClean zones ↔ KeepsClearOfForward zones
clean_where_clear zones order = (
  (λ clean i j d lt within f. clean i j d lt within),
  (λ clear i j d lt within c. clear i j d lt within
      (earlier_is_forward (slice_index_or zones i d) (slice_index_or zones j d) (order.edges i d (omega arith)) (order.edges j d within) (order.by_left i j d lt within) c) c),
)

pub order_front : (xs ys : List Zone) → StandInOrder (xs ++ ys) → StandInOrder xs
order_front xs ys order = record { by_left = pairs_front Left xs ys order.by_left; edges = All-front HasOrderedEdges xs ys order.edges }

-- a first conflict is a conflict
pub first_is_conflict : (zones : List Zone) (a b : Zone) → IsFirstConflict zones a b → ¬ IsClean zones
first_is_conflict zones a b first clean =
    let across = pairs_across (λ x y. ¬ Conflicts x y) first.earlier (b ∷ first.later) (subst IsClean first.parts clean) in
    All-head (λ y. ¬ Conflicts a y) b first.later (All-contains (λ x. All (λ y. ¬ Conflicts x y) (b ∷ first.later)) first.earlier a across first.farthest.present) first.conflict
