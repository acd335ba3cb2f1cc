-- The zones after an edge, one after another.
use Rattle.std.proofs.Common.{◌≡◌, ◌∙◌, ◌⊎◌, inl, inr, Bool, true, false, cond, List, [], ◌∷◌, Option, Some, None, refl, sym, ap, subst}
use Rattle.std.specs.Prelude.{All}
use Rattle.std.specs.List.{find}
use Rattle.std.proofs.lemmas.Bool.{cases_Bool}
use Rattle.std.proofs.lemmas.List.Elements.{All-head, All-tail, All-weaker}
use Rattle.std.proofs.lemmas.Option.{same_Some}
use Rattle.zone_tree.specs.declared.edge.Edge.{Edge}
use Rattle.zone_tree.specs.declared.zone.Zone.{Zone}
use Rattle.zone_tree.specs.Edge.{edge_before, ComesBefore}
use Rattle.zone_tree.specs.Order.{IsByLeft, StandInOrder}
use Rattle.zone_tree.specs.Look.{is_following, zones_after}
use Rattle.zone_tree.proofs.EdgeOrder.{before_irreflexive, before_transitive, before-false}
use Rattle.summary_tree.proofs.Pairs.{pairs_head, pairs_tail}
use Rattle.summary_tree.proofs.Lists.{filter_all, filter_none, none_found}

abbrev Left : Zone → Zone → Type 0
Left a b = ComesBefore a.left b.left

pub all_following : (zones : List Zone) → zones_after None zones ≡ zones
all_following [] = refl
all_following (z ∷ zones) = ap (λ zs. z ∷ zs) (all_following zones)

pub no_item : (after : Option Edge) (zones : List Zone) → find (is_following after) zones ≡ None → zones_after after zones ≡ []
no_item after zones e = filter_none (is_following after) zones (none_found (is_following after) zones e)

-- of zones by left edge the ones after the first one's edge are all others
first_leaves : (z : Zone) (zones : List Zone) → IsByLeft (z ∷ zones) → zones_after (Some z.left) (z ∷ zones) ≡ zones
first_leaves z zones by =
    ap (λ (b : Bool). cond b (z ∷ zones_after (Some z.left) zones) (zones_after (Some z.left) zones)) (before-false z.left z.left (before_irreflexive z.left))
    ∙ filter_all (λ x. edge_before z.left x.left) zones (pairs_head Left z zones by)

all_stay : (after : Option Edge) (z : Zone) (zones : List Zone) → IsByLeft (z ∷ zones) → is_following after z ≡ true → zones_after after zones ≡ zones
all_stay None z zones by h = all_following zones
all_stay (Some edge) z zones by h =
    filter_all (is_following (Some edge)) zones
    (All-weaker (Left z) (λ x. ComesBefore edge x.left) (λ x g. before_transitive edge z.left x.left h g) zones (pairs_head Left z zones by))

-- a zone that is found after the first one is later than it
found_by : (p : Zone → Bool) (w v : Zone) (zones : List Zone) (z : Zone) → ComesBefore w.left v.left → (find p zones ≡ Some z → ComesBefore w.left z.left) → find p (v ∷ zones) ≡ Some z → (p v ≡ true) ⊎ (p v ≡ false) → ComesBefore w.left z.left
found_by p w v zones z h later e (inl f) =
    subst (λ (x : Zone). ComesBefore w.left x.left) (same_Some v z (sym (ap (λ (b : Bool). cond b (Some v) (find p zones)) f) ∙ e)) h
found_by p w v zones z h later e (inr f) = later (sym (ap (λ (b : Bool). cond b (Some v) (find p zones)) f) ∙ e)

found_later : (p : Zone → Bool) (w : Zone) (zones : List Zone) (z : Zone) → All (Left w) zones → find p zones ≡ Some z → ComesBefore w.left z.left
found_later p w [] z all e = absurd (cc)
found_later p w (v ∷ zones) z all e =
    found_by p w v zones z (All-head (Left w) v zones all) (found_later p w zones z (All-tail (Left w) v zones all)) e (cases_Bool (p v))

-- the zone that is found is later than one that does not come after the edge
next_by : (after : Option Edge) (w : Zone) (zones : List Zone) (z : Zone) → IsByLeft (w ∷ zones) → (IsByLeft zones → find (is_following after) zones ≡ Some z → zones_after after zones ≡ z ∷ zones_after (Some z.left) zones) → find (is_following after) (w ∷ zones) ≡ Some z → (is_following after w ≡ true) ⊎ (is_following after w ≡ false) → zones_after after (w ∷ zones) ≡ z ∷ zones_after (Some z.left) (w ∷ zones)
next_by after w zones z by later found (inl h) =
    let same : w ≡ z = same_Some w z (sym (ap (λ (b : Bool). cond b (Some w) (find (is_following after) zones)) h) ∙ found) in
    ap (λ (b : Bool). cond b (w ∷ zones_after after zones) (zones_after after zones)) h
    ∙ ap (λ zs. w ∷ zs) (all_stay after w zones by h ∙ sym (first_leaves w zones by))
    ∙ ap (λ (x : Zone). x ∷ zones_after (Some x.left) (w ∷ zones)) same
next_by after w zones z by later found (inr h) =
    let rest = later (pairs_tail Left w zones by) (sym (ap (λ (b : Bool). cond b (Some w) (find (is_following after) zones)) h) ∙ found) in
    let not_w = before-false z.left w.left (λ g. before_irreflexive w.left (before_transitive w.left z.left w.left (found_later (is_following after) w zones z (pairs_head Left w zones by) (sym (ap (λ (b : Bool). cond b (Some w) (find (is_following after) zones)) h) ∙ found)) g)) in
    ap (λ (b : Bool). cond b (w ∷ zones_after after zones) (zones_after after zones)) h
    ∙ rest
    ∙ ap (λ zs. z ∷ zs) (sym (ap (λ (b : Bool). cond b (w ∷ zones_after (Some z.left) zones) (zones_after (Some z.left) zones)) not_w))

pub next_item_by : (after : Option Edge) (zones : List Zone) (z : Zone) → IsByLeft zones → find (is_following after) zones ≡ Some z → zones_after after zones ≡ z ∷ zones_after (Some z.left) zones
next_item_by after [] z by e = absurd (cc)
next_item_by after (w ∷ zones) z by e =
    next_by after w zones z by (λ later f. next_item_by after zones z later f) e (cases_Bool (is_following after w))

pub next_item : (after : Option Edge) (zones : List Zone) (z : Zone) → StandInOrder zones → find (is_following after) zones ≡ Some z → zones_after after zones ≡ z ∷ zones_after (Some z.left) zones
next_item after zones z order e = next_item_by after zones z order.by_left e
