-- Summaries of lists are joined as the lists are.
use Rattle.std.proofs.Common.{◌≡◌, ◌∙◌, ◌↔◌, ◌⊎◌, inl, inr, Bool, true, false, List, [], ◌∷◌, ◌++◌, refl, sym, ap}
use Rattle.std.specs.Prelude.{◌||◌, if◌then◌else◌}
use Rattle.std.proofs.lemmas.Bool.{cases_Bool, both_ways}
use Rattle.zone_tree.specs.declared.edge.Edge.{Edge}
use Rattle.zone_tree.specs.declared.edge.Edge.TheVariants.{Before, At, Never}
use Rattle.zone_tree.specs.declared.zone.Zone.{Zone}
use Rattle.zone_tree.specs.declared.summary.ZoneSummary.{ZoneSummary}
use Rattle.zone_tree.specs.Edge.{ComesBefore, earlier_edge, edge_before, later_edge}
use Rattle.zone_tree.specs.Summary.{meets, no_zones, one_zone, join_zones, summary_of_zones}
use Rattle.zone_tree.proofs.EdgeOrder.{before_irreflexive, before_transitive, before_cases, before_not_after, not_after_before, before-false}

-- either of two bits
or_true : (b : Bool) → b || true ≡ true
or_true true = refl
or_true false = refl

pub or_false : (b : Bool) → b || false ≡ b
or_false true = refl
or_false false = refl

or_swapped : (a b : Bool) → a || b ≡ b || a
or_swapped true b = sym (or_true b)
or_swapped false b = sym (or_false b)

or_assoc : (a b c : Bool) → (a || b) || c ≡ a || (b || c)
or_assoc true b c = refl
or_assoc false b c = refl

or_crossed : (a b c d : Bool) → (a || b) || (c || d) ≡ (a || c) || (b || d)
or_crossed true b c d = refl
or_crossed false true c d = sym (or_true c)
or_crossed false false c d = refl

-- either bit is clear where both are
pub or_clear : (a b : Bool) → (a || b ≡ false) ↔ ((a ≡ false) × (b ≡ false))
or_clear true b = ((λ e. absurd (cc)), (λ c. c.0))
or_clear false b = ((λ e. (refl, e)), (λ c. c.1))

-- no edge comes before `Before`, and `Never` before none
pub not_before_all : (a : Edge) → edge_before a Before ≡ false
not_before_all Before = refl
not_before_all (At m) = refl
not_before_all Never = refl

-- which edges come before the later of two, and which come after the earlier of two
latest_by : (e a b : Edge) → (edge_before a b ≡ true) ⊎ (edge_before a b ≡ false) → (edge_before e a ≡ true) ⊎ (edge_before e a ≡ false) → edge_before e (later_edge a b) ≡ edge_before e a || edge_before e b
latest_by e a b (inl h) (inl f) =
    ap (λ (c : Bool). edge_before e (if c then b else a)) h
    ∙ before_transitive e a b f h
    ∙ sym (ap (λ c. c || edge_before e b) f)
latest_by e a b (inl h) (inr f) = ap (λ (c : Bool). edge_before e (if c then b else a)) h ∙ sym (ap (λ c. c || edge_before e b) f)
latest_by e a b (inr h) (inl f) = ap (λ (c : Bool). edge_before e (if c then b else a)) h ∙ f ∙ sym (ap (λ c. c || edge_before e b) f)
latest_by e a b (inr h) (inr f) =
    ap (λ (c : Bool). edge_before e (if c then b else a)) h
    ∙ f
    ∙ sym (ap (λ c. c || edge_before e b) f ∙ before-false e b (λ g. both_ways (edge_before e a) f (before_not_after e b a g (both_ways (edge_before a b) h))))

pub before_latest : (e a b : Edge) → edge_before e (later_edge a b) ≡ edge_before e a || edge_before e b
before_latest e a b = latest_by e a b (cases_Bool (edge_before a b)) (cases_Bool (edge_before e a))

earliest_by : (e a b : Edge) → (edge_before b a ≡ true) ⊎ (edge_before b a ≡ false) → (edge_before a e ≡ true) ⊎ (edge_before a e ≡ false) → edge_before (earlier_edge a b) e ≡ edge_before a e || edge_before b e
earliest_by e a b (inl h) (inl f) =
    ap (λ (c : Bool). edge_before (if c then b else a) e) h
    ∙ before_transitive b a e h f
    ∙ sym (ap (λ c. c || edge_before b e) f)
earliest_by e a b (inl h) (inr f) = ap (λ (c : Bool). edge_before (if c then b else a) e) h ∙ sym (ap (λ c. c || edge_before b e) f)
earliest_by e a b (inr h) (inl f) = ap (λ (c : Bool). edge_before (if c then b else a) e) h ∙ f ∙ sym (ap (λ c. c || edge_before b e) f)
earliest_by e a b (inr h) (inr f) =
    ap (λ (c : Bool). edge_before (if c then b else a) e) h
    ∙ f
    ∙ sym (ap (λ c. c || edge_before b e) f ∙ before-false b e (λ g. both_ways (edge_before a e) f (not_after_before a b e (both_ways (edge_before b a) h) g)))

pub earliest_before : (e a b : Edge) → edge_before (earlier_edge a b) e ≡ edge_before a e || edge_before b e
earliest_before e a b = earliest_by e a b (cases_Bool (edge_before b a)) (cases_Bool (edge_before a e))

-- edges are one that have the same edges before them, or the same edges after them
one_before_by : (a b : Edge) → ((e : Edge) → edge_before e a ≡ edge_before e b) → ComesBefore a b ⊎ ((a ≡ b) ⊎ ComesBefore b a) → a ≡ b
one_before_by a b same (inl h) = absurd (before_irreflexive a (same a ∙ h))
one_before_by a b same (inr (inl h)) = h
one_before_by a b same (inr (inr h)) = absurd (before_irreflexive b (sym (same b) ∙ h))

one_before : (a b : Edge) → ((e : Edge) → edge_before e a ≡ edge_before e b) → a ≡ b
one_before a b same = one_before_by a b same (before_cases a b)

one_after_by : (a b : Edge) → ((e : Edge) → edge_before a e ≡ edge_before b e) → ComesBefore a b ⊎ ((a ≡ b) ⊎ ComesBefore b a) → a ≡ b
one_after_by a b same (inl h) = absurd (before_irreflexive b (sym (same b) ∙ h))
one_after_by a b same (inr (inl h)) = h
one_after_by a b same (inr (inr h)) = absurd (before_irreflexive a (same a ∙ h))

one_following : (a b : Edge) → ((e : Edge) → edge_before a e ≡ edge_before b e) → a ≡ b
one_following a b same = one_after_by a b same (before_cases a b)

latest_assoc : (a b c : Edge) → later_edge (later_edge a b) c ≡ later_edge a (later_edge b c)
latest_assoc a b c = one_before (later_edge (later_edge a b) c) (later_edge a (later_edge b c)) (λ e.
    before_latest e (later_edge a b) c
    ∙ ap (λ x. x || edge_before e c) (before_latest e a b)
    ∙ or_assoc (edge_before e a) (edge_before e b) (edge_before e c)
    ∙ sym (before_latest e a (later_edge b c) ∙ ap (λ x. edge_before e a || x) (before_latest e b c)))

earliest_assoc : (a b c : Edge) → earlier_edge (earlier_edge a b) c ≡ earlier_edge a (earlier_edge b c)
earliest_assoc a b c = one_following (earlier_edge (earlier_edge a b) c) (earlier_edge a (earlier_edge b c)) (λ e.
    earliest_before e (earlier_edge a b) c
    ∙ ap (λ x. x || edge_before c e) (earliest_before e a b)
    ∙ or_assoc (edge_before a e) (edge_before b e) (edge_before c e)
    ∙ sym (earliest_before e a (earlier_edge b c) ∙ ap (λ x. edge_before a e || x) (earliest_before e b c)))

-- the summary of a forward zone and of a backward one
abbrev pub of_forward : Zone → ZoneSummary
of_forward z = record { last_forward = z.right; first_forward = z.left; first_backward = Never; conflict = false }

abbrev pub of_backward : Zone → ZoneSummary
of_backward z = record { last_forward = Before; first_forward = Never; first_backward = z.right; conflict = false }

pub one_forward : (z : Zone) → z.forward ≡ true → one_zone z ≡ of_forward z
unfolding one_zone
one_forward z f = ap (λ (b : Bool). if b then of_forward z else of_backward z) f

pub one_backward : (z : Zone) → z.forward ≡ false → one_zone z ≡ of_backward z
unfolding one_zone
one_backward z f = ap (λ (b : Bool). if b then of_forward z else of_backward z) f

-- what meets two joined summaries meets one of them
meets_front : (r s t : ZoneSummary) → meets (join_zones r s) t ≡ meets r t || meets s t
unfolding join_zones
meets_front r s t =
    ap (λ x. x || edge_before t.first_backward (later_edge r.last_forward s.last_forward)) (before_latest t.first_forward r.last_forward s.last_forward)
    ∙ ap (λ x. (edge_before t.first_forward r.last_forward || edge_before t.first_forward s.last_forward) || x) (before_latest t.first_backward r.last_forward s.last_forward)
    ∙ or_crossed (edge_before t.first_forward r.last_forward) (edge_before t.first_forward s.last_forward) (edge_before t.first_backward r.last_forward) (edge_before t.first_backward s.last_forward)

meets_back : (r s t : ZoneSummary) → meets r (join_zones s t) ≡ meets r s || meets r t
unfolding join_zones
meets_back r s t =
    ap (λ x. x || edge_before (earlier_edge s.first_backward t.first_backward) r.last_forward) (earliest_before r.last_forward s.first_forward t.first_forward)
    ∙ ap (λ x. (edge_before s.first_forward r.last_forward || edge_before t.first_forward r.last_forward) || x) (earliest_before r.last_forward s.first_backward t.first_backward)
    ∙ or_crossed (edge_before s.first_forward r.last_forward) (edge_before t.first_forward r.last_forward) (edge_before s.first_backward r.last_forward) (edge_before t.first_backward r.last_forward)

-- the six bits of three summaries, in either grouping
bits_mixed : (m t p q : Bool) → (m || t) || (p || q) ≡ (t || q) || (m || p)
bits_mixed m t p q = ap (λ x. x || (p || q)) (or_swapped m t) ∙ ap (λ x. (t || m) || x) (or_swapped p q) ∙ or_crossed t m q p

bits_assoc : (r s m t p q : Bool) → (((r || s) || m) || t) || (p || q) ≡ (r || ((s || t) || q)) || (m || p)
bits_assoc true s m t p q = refl
bits_assoc false true m t p q = refl
bits_assoc false false m t p q = bits_mixed m t p q

conflict_assoc : (r s t : ZoneSummary) → (join_zones (join_zones r s) t).conflict ≡ (join_zones r (join_zones s t)).conflict
unfolding join_zones
conflict_assoc r s t =
    ap (λ x. (((r.conflict || s.conflict) || meets r s) || t.conflict) || x) (meets_front r s t)
    ∙ bits_assoc r.conflict s.conflict (meets r s) t.conflict (meets r t) (meets s t)
    ∙ sym (ap (λ x. (r.conflict || ((s.conflict || t.conflict) || meets s t)) || x) (meets_back r s t))

abbrev summary : Edge → Edge → Edge → Bool → ZoneSummary
summary a b c d = record { last_forward = a; first_forward = b; first_backward = c; conflict = d }

same_summary : (a b c : Edge) (d : Bool) (a' b' c' : Edge) (d' : Bool) → a ≡ a' → b ≡ b' → c ≡ c' → d ≡ d' → summary a b c d ≡ summary a' b' c' d'
same_summary a b c d a' b' c' d' e f g h =
    ap (λ (x : Edge). summary x b c d) e ∙ ap (λ (x : Edge). summary a' x c d) f ∙ ap (λ (x : Edge). summary a' b' x d) g ∙ ap (λ (x : Bool). summary a' b' c' x) h

pub join_assoc : (r s t : ZoneSummary) → join_zones (join_zones r s) t ≡ join_zones r (join_zones s t)
unfolding join_zones
join_assoc r s t =
    same_summary (join_zones (join_zones r s) t).last_forward (join_zones (join_zones r s) t).first_forward (join_zones (join_zones r s) t).first_backward (join_zones (join_zones r s) t).conflict
    (join_zones r (join_zones s t)).last_forward (join_zones r (join_zones s t)).first_forward (join_zones r (join_zones s t)).first_backward (join_zones r (join_zones s t)).conflict
    (latest_assoc r.last_forward s.last_forward t.last_forward)
    (earliest_assoc r.first_forward s.first_forward t.first_forward)
    (earliest_assoc r.first_backward s.first_backward t.first_backward)
    (conflict_assoc r s t)

latest_none : (a : Edge) → later_edge Before a ≡ a
latest_none Before = refl
latest_none (At m) = refl
latest_none Never = refl

none_latest : (a : Edge) → later_edge a Before ≡ a
none_latest a = ap (λ (c : Bool). if c then Before else a) (not_before_all a)

earliest_none : (a : Edge) → earlier_edge Never a ≡ a
earliest_none Before = refl
earliest_none (At m) = refl
earliest_none Never = refl

pub none_clear : no_zones.conflict ≡ false
unfolding no_zones
none_clear = refl

-- the summary of no zones adds nothing
pub join_none : (s : ZoneSummary) → join_zones no_zones s ≡ s
unfolding join_zones no_zones
join_none s =
    same_summary (later_edge Before s.last_forward) (earlier_edge Never s.first_forward) (earlier_edge Never s.first_backward) (s.conflict || (edge_before s.first_forward Before || edge_before s.first_backward Before))
    s.last_forward s.first_forward s.first_backward s.conflict
    (latest_none s.last_forward)
    (earliest_none s.first_forward)
    (earliest_none s.first_backward)
    (ap (λ x. s.conflict || (x || edge_before s.first_backward Before)) (not_before_all s.first_forward)
    ∙ ap (λ x. s.conflict || x) (not_before_all s.first_backward)
    ∙ or_false s.conflict)

pub none_join : (s : ZoneSummary) → join_zones s no_zones ≡ s
unfolding join_zones no_zones
none_join s =
    same_summary (later_edge s.last_forward Before) (earlier_edge s.first_forward Never) (earlier_edge s.first_backward Never) ((s.conflict || false) || false)
    s.last_forward s.first_forward s.first_backward s.conflict
    (none_latest s.last_forward)
    refl
    refl
    (or_false (s.conflict || false) ∙ or_false s.conflict)

-- a backward zone before others adds its right edge alone
backward_join : (z : Zone) (s : ZoneSummary) → join_zones (of_backward z) s ≡ summary s.last_forward s.first_forward (earlier_edge z.right s.first_backward) s.conflict
unfolding join_zones
backward_join z s =
    same_summary (later_edge Before s.last_forward) (earlier_edge Never s.first_forward) (earlier_edge z.right s.first_backward) (s.conflict || (edge_before s.first_forward Before || edge_before s.first_backward Before))
    s.last_forward s.first_forward (earlier_edge z.right s.first_backward) s.conflict
    (latest_none s.last_forward)
    (earliest_none s.first_forward)
    refl
    (ap (λ x. s.conflict || (x || edge_before s.first_backward Before)) (not_before_all s.first_forward)
    ∙ ap (λ x. s.conflict || x) (not_before_all s.first_backward)
    ∙ or_false s.conflict)

pub backward_first : (z : Zone) (s : ZoneSummary) → z.forward ≡ false → join_zones (one_zone z) s ≡ record { last_forward = s.last_forward; first_forward = s.first_forward; first_backward = earlier_edge z.right s.first_backward; conflict = s.conflict }
backward_first z s f = ap (λ (o : ZoneSummary). join_zones o s) (one_backward z f) ∙ backward_join z s

pub none_after : (s : ZoneSummary) → join_zones s (summary_of_zones []) ≡ s
unfolding summary_of_zones
none_after s = none_join s

pub summary_append : (xs ys : List Zone) → summary_of_zones (xs ++ ys) ≡ join_zones (summary_of_zones xs) (summary_of_zones ys)
unfolding summary_of_zones
summary_append [] ys = sym (join_none (summary_of_zones ys))
summary_append (x ∷ xs) ys =
    ap (join_zones (one_zone x)) (summary_append xs ys) ∙ sym (join_assoc (one_zone x) (summary_of_zones xs) (summary_of_zones ys))

-- the summary of one zone, and that of two lists
pub summary_of_one : (z : Zone) → one_zone z ≡ summary_of_zones (z ∷ [])
unfolding summary_of_zones
summary_of_one z = sym (none_join (one_zone z))

pub summary_of_joined : (s t : ZoneSummary) (xs ys : List Zone) → s ≡ summary_of_zones xs → t ≡ summary_of_zones ys → join_zones s t ≡ summary_of_zones (xs ++ ys)
summary_of_joined s t xs ys e f = ap (λ (r : ZoneSummary). join_zones r t) e ∙ ap (λ (r : ZoneSummary). join_zones (summary_of_zones xs) r) f ∙ sym (summary_append xs ys)

pub summary_around : (xs : List Zone) (z : Zone) (ys : List Zone) → summary_of_zones (xs ++ z ∷ ys) ≡ join_zones (summary_of_zones xs) (join_zones (one_zone z) (summary_of_zones ys))
unfolding summary_of_zones
summary_around xs z ys = summary_append xs (z ∷ ys)
