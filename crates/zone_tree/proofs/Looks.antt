-- What a look at the sides of a node finds.
use Rattle.std.proofs.Common.{◌≡◌, ◌∙◌, ◌⊎◌, inl, inr, Bool, true, false, not, cond, List, [], ◌∷◌, ◌++◌, Option, Some, None, refl, sym, ap}
use Rattle.std.specs.Prelude.{All, ◌||◌, ◌&&◌, if◌then◌else◌}
use Rattle.std.specs.List.{find}
use Rattle.std.specs.Option.{option_or}
use Rattle.std.proofs.lemmas.Bool.{cases_Bool, both_ways}
use Rattle.std.proofs.lemmas.List.Elements.{All-nil, All-cons, All-head, All-tail, All-weaker}
use Rattle.std.proofs.lemmas.List.Folds.{find-append}
use Rattle.zone_tree.specs.declared.edge.Edge.{Edge}
use Rattle.zone_tree.specs.declared.edge.Edge.TheVariants.{Before, At, Never}
use Rattle.zone_tree.specs.declared.zone.Zone.{Zone}
use Rattle.zone_tree.specs.declared.summary.ZoneSummary.{ZoneSummary}
use Rattle.zone_tree.specs.Edge.{edge_before, ComesBefore}
use Rattle.zone_tree.specs.Zone.{HasOrderedEdges}
use Rattle.zone_tree.specs.Order.{IsByLeft, StandInOrder}
use Rattle.zone_tree.specs.Summary.{one_zone, join_zones, summary_of_zones}
use Rattle.zone_tree.specs.Look.{is_following, begins_before, last_that, has_forward}
use Rattle.zone_tree.proofs.EdgeOrder.{before_transitive, before-false}
use Rattle.zone_tree.proofs.Finds.{find_in_right}
use Rattle.summary_tree.proofs.Lists.{find_none}
use Rattle.zone_tree.proofs.Sides.{earlier_edges, later_edges}
use Rattle.zone_tree.proofs.Summaries.{or_clear, one_forward, earliest_before}

-- the first zone after an edge
pub first_here : (after : Option Edge) (xs : List Zone) (z : Zone) (ys : List Zone) → is_following after z ≡ true → find (is_following after) (xs ++ z ∷ ys) ≡ option_or (find (is_following after) xs) (Some z)
first_here after xs z ys h =
    find-append (is_following after) xs (z ∷ ys) ∙ ap (λ (b : Bool). option_or (find (is_following after) xs) (cond b (Some z) (find (is_following after) ys))) h

earlier_not_after : (after : Option Edge) (xs : List Zone) (z : Zone) (ys : List Zone) → IsByLeft (xs ++ z ∷ ys) → is_following after z ≡ false → All (λ x. is_following after x ≡ false) xs
earlier_not_after None xs z ys by h = absurd (cc)
earlier_not_after (Some edge) xs z ys by h =
    All-weaker (λ x. ComesBefore x.left z.left) (λ x. edge_before edge x.left ≡ false)
    (λ x g. before-false edge x.left (λ f. both_ways (edge_before edge z.left) h (before_transitive edge x.left z.left f g)))
    xs (earlier_edges xs z ys by)

pub first_right : (after : Option Edge) (xs : List Zone) (z : Zone) (ys : List Zone) → StandInOrder (xs ++ z ∷ ys) → is_following after z ≡ false → find (is_following after) (xs ++ z ∷ ys) ≡ find (is_following after) ys
first_right after xs z ys order h =
    find_in_right (is_following after) xs z ys (find_none (is_following after) xs (earlier_not_after after xs z ys order.by_left h)) h

-- where no zone is forward
first_of_join : (z : Zone) (zones : List Zone) → has_forward (summary_of_zones (z ∷ zones)) ≡ has_forward (one_zone z) || has_forward (summary_of_zones zones)
unfolding summary_of_zones join_zones
first_of_join z zones = earliest_before Never (one_zone z).first_forward (summary_of_zones zones).first_forward

before_never : (a b : Edge) → ComesBefore a b → ComesBefore a Never
before_never Before b h = refl
before_never (At m) b h = refl
before_never Never b h = absurd (cc)

not_forward_by : (z : Zone) → HasOrderedEdges z → has_forward (one_zone z) ≡ false → (z.forward ≡ true) ⊎ (z.forward ≡ false) → z.forward ≡ false
not_forward_by z edges none (inl f) =
    absurd (both_ways (edge_before z.left Never) (sym (ap (λ (s : ZoneSummary). edge_before s.first_forward Never) (one_forward z f)) ∙ none) (before_never z.left z.right (edges.0 f)))
not_forward_by z edges none (inr b) = b

no_forward_all : (zones : List Zone) → All HasOrderedEdges zones → has_forward (summary_of_zones zones) ≡ false → All (λ z. z.forward ≡ false) zones
no_forward_all [] edges none = All-nil (λ z. z.forward ≡ false)
no_forward_all (z ∷ zones) edges none =
    let parts = (or_clear (has_forward (one_zone z)) (has_forward (summary_of_zones zones))).0 (sym (first_of_join z zones) ∙ none) in
    All-cons (λ z. z.forward ≡ false) z zones
    (not_forward_by z (All-head HasOrderedEdges z zones edges) parts.0 (cases_Bool z.forward))
    (no_forward_all zones (All-tail HasOrderedEdges z zones edges) parts.1)

-- the last zone that passes
pub last_empty : (p : Zone → Bool) → last_that p [] ≡ None
unfolding last_that
last_empty p = refl

option_or_assoc : {X : Type 0} (a b c : Option X) → option_or (option_or a b) c ≡ option_or a (option_or b c)
option_or_assoc None b c = refl
option_or_assoc (Some a) b c = refl

none_option_or : {X : Type 0} (o : Option X) → o ≡ option_or o None
none_option_or None = refl
none_option_or (Some x) = refl

abbrev if_passes : (Zone → Bool) → Zone → Option Zone
if_passes p z = if p z then Some z else None

last_append : (p : Zone → Bool) (xs ys : List Zone) → last_that p (xs ++ ys) ≡ option_or (last_that p ys) (last_that p xs)
unfolding last_that
last_append p [] ys = none_option_or (last_that p ys)
last_append p (x ∷ xs) ys =
    ap (λ o. option_or o (if_passes p x)) (last_append p xs ys) ∙ option_or_assoc (last_that p ys) (last_that p xs) (if_passes p x)

last_around : (p : Zone → Bool) (xs : List Zone) (z : Zone) (ys : List Zone) → last_that p (xs ++ z ∷ ys) ≡ option_or (last_that p ys) (option_or (if_passes p z) (last_that p xs))
unfolding last_that
last_around p xs z ys = last_append p xs (z ∷ ys) ∙ option_or_assoc (last_that p ys) (if_passes p z) (last_that p xs)

pub last_in_right : (p : Zone → Bool) (xs : List Zone) (z : Zone) (ys : List Zone) (w : Zone) → last_that p ys ≡ Some w → last_that p (xs ++ z ∷ ys) ≡ Some w
last_in_right p xs z ys w e = last_around p xs z ys ∙ ap (λ o. option_or o (option_or (if_passes p z) (last_that p xs))) e

pub last_here : (p : Zone → Bool) (xs : List Zone) (z : Zone) (ys : List Zone) → last_that p ys ≡ None → p z ≡ true → last_that p (xs ++ z ∷ ys) ≡ Some z
last_here p xs z ys e h =
    last_around p xs z ys
    ∙ ap (λ o. option_or o (option_or (if_passes p z) (last_that p xs))) e
    ∙ ap (λ (b : Bool). option_or (if b then Some z else None) (last_that p xs)) h

pub last_in_left : (p : Zone → Bool) (xs : List Zone) (z : Zone) (ys : List Zone) → last_that p ys ≡ None → p z ≡ false → last_that p (xs ++ z ∷ ys) ≡ last_that p xs
last_in_left p xs z ys e h =
    last_around p xs z ys
    ∙ ap (λ o. option_or o (option_or (if_passes p z) (last_that p xs))) e
    ∙ ap (λ (b : Bool). option_or (if b then Some z else None) (last_that p xs)) h

last_none : (p : Zone → Bool) (zones : List Zone) → All (λ z. p z ≡ false) zones → last_that p zones ≡ None
unfolding last_that
last_none p [] h = refl
last_none p (z ∷ zones) h =
    ap (λ o. option_or o (if_passes p z)) (last_none p zones (All-tail (λ z. p z ≡ false) z zones h))
    ∙ ap (λ (b : Bool). if b then Some z else None) (All-head (λ z. p z ≡ false) z zones h)

pub none_begins : (edge : Edge) (zones : List Zone) → StandInOrder zones → has_forward (summary_of_zones zones) ≡ false → last_that (begins_before edge) zones ≡ None
none_begins edge zones order none =
    last_none (begins_before edge) zones
    (All-weaker (λ z. z.forward ≡ false) (λ z. begins_before edge z ≡ false) (λ z b. ap (λ f. f && edge_before z.left edge) b) zones (no_forward_all zones order.edges none))

and_false : (b : Bool) → b && false ≡ false
and_false true = refl
and_false false = refl

late_by : (edge : Edge) (z : Zone) → edge_before z.left edge ≡ false → begins_before edge z ≡ false
late_by edge z h = ap (λ b. z.forward && b) h ∙ and_false z.forward

-- from a zone on that does not begin before the edge no zone does
pub none_late : (edge : Edge) (xs : List Zone) (z : Zone) (ys : List Zone) → IsByLeft (xs ++ z ∷ ys) → ¬ ComesBefore z.left edge → All (λ y. begins_before edge y ≡ false) (z ∷ ys)
none_late edge xs z ys by n =
    All-cons (λ y. begins_before edge y ≡ false) z ys (late_by edge z (before-false z.left edge n))
    (All-weaker (λ y. ComesBefore z.left y.left) (λ y. begins_before edge y ≡ false)
    (λ y g. late_by edge y (before-false y.left edge (λ h. n (before_transitive z.left y.left edge g h)))) ys (later_edges xs z ys by))

pub last_front : (p : Zone → Bool) (xs ys : List Zone) → All (λ y. p y ≡ false) ys → last_that p (xs ++ ys) ≡ last_that p xs
last_front p xs ys none = last_append p xs ys ∙ ap (λ o. option_or o (last_that p xs)) (last_none p ys none)

pub last_left : (edge : Edge) (xs : List Zone) (z : Zone) (ys : List Zone) → StandInOrder (xs ++ z ∷ ys) → ¬ ComesBefore z.left edge → last_that (begins_before edge) (xs ++ z ∷ ys) ≡ last_that (begins_before edge) xs
last_left edge xs z ys order n = last_front (begins_before edge) xs (z ∷ ys) (none_late edge xs z ys order.by_left n)
