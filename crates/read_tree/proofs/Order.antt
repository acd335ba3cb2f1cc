-- The order of spots is strict: of two different ones one comes before the other.
use Rattle.std.proofs.Common.{◌≡◌, ℕ, ◌⊎◌, inl, inr, Bool, true, false, Decides, refl, sym, ap, subst, ◌∙◌}
use Rattle.std.specs.Ordering.{is_lt, nat_cmp, ordering_then, ordering_reverse}
use Rattle.std.specs.declared.cmp.Ordering.{Ordering}
use Rattle.std.specs.declared.cmp.Ordering.TheVariants.{Less, Equal, Greater}
use Rattle.std.proofs.lemmas.Map.Lookups.{exact_signed}
use Rattle.std.proofs.lemmas.Cmp.{ranked, tied_itself}
use Rattle.std.proofs.lemmas.Bool.Decides.{Decides-and, Decides-eqb, Decides-like}
use Rattle.intervals.specs.declared.operation.Value.{Value}
use Rattle.intervals.specs.declared.operation.Value.TheVariants.{Nil, Int}
use Rattle.intervals.specs.contracts.operation.ValueOrd.TheImpl as value_ord
use Rattle.intervals.specs.declared.ordered_index.Spot.{Spot}
use Rattle.intervals.specs.OrderedIndex.{spot_cmp, spot_of, spot_total, same_spot}
use Rattle.intervals.proofs.Agreement.{Decides-same_value}
use Rattle.read_tree.specs.Items.{StandsBefore}
use Rattle.read_tree.specs.Order.{spot_before}

abbrev value_cmp : Value → Value → Ordering
value_cmp = (value_ord.ghosts).cmp

value_exact : (u v : Value) → value_cmp u v ≡ Equal → u ≡ v
value_exact Nil Nil h = refl
value_exact Nil (Int y) h = absurd (cc)
value_exact (Int x) Nil h = absurd (cc)
value_exact (Int x) (Int y) h = ap Int (exact_signed x y h)

spot_exact : (a b : Spot) → a.value ≡ b.value → a.moment.0 ≡ b.moment.0 → a ≡ b
spot_exact a b v m =
    ap {B = Spot} (λ u. spot_of u a.moment) v
    ∙ ap {B = Spot} (λ (k : ℕ). spot_of b.value (record { 0 = k })) m

both_equal : (o p : Ordering) → ordering_then o p ≡ Equal → (o ≡ Equal) × (p ≡ Equal)
both_equal Less p h = absurd (cc)
both_equal Equal p h = (refl, h)
both_equal Greater p h = absurd (cc)

pub one_spot : (a b : Spot) → spot_cmp b a ≡ Equal → a ≡ b
one_spot a b h =
    let both = both_equal (value_cmp a.value b.value) (nat_cmp a.moment.0 b.moment.0) h in
    spot_exact a b (value_exact a.value b.value both.0) (ranked a.moment.0 b.moment.0 Equal (sym both.1))

pub irreflexive : (a : Spot) → ¬ StandsBefore a a
irreflexive a h = let same = tied_itself spot_total a in cc

pub transitive : (a b c : Spot) → StandsBefore a b → StandsBefore b c → StandsBefore a c
transitive a b c h k = spot_total.trans c b a k h

pub asymmetric : (a b : Spot) → StandsBefore a b → ¬ StandsBefore b a
asymmetric a b h k = irreflexive a (transitive a b a h k)

by_answer : (a b : Spot) (o : Ordering) → spot_cmp b a ≡ o → (a ≡ b) ⊎ (StandsBefore a b ⊎ StandsBefore b a)
by_answer a b Less h = inr (inl h)
by_answer a b Equal h = inl (one_spot a b h)
by_answer a b Greater h = inr (inr (spot_total.antisymm a b ∙ ap ordering_reverse h))

pub trichotomy : (a b : Spot) → (a ≡ b) ⊎ (StandsBefore a b ⊎ StandsBefore b a)
trichotomy a b = by_answer a b (spot_cmp b a) refl

pub same_decides : (a b : Spot) → Decides (same_spot a b) (a ≡ b)
same_decides a b = Decides-like (same_spot a b)
    (λ both. spot_exact a b both.0 both.1)
    (λ same. (ap (λ (s : Spot). s.value) same, ap (λ (s : Spot). s.moment.0) same))
    (Decides-and _ _ (Decides-same_value a.value b.value) (Decides-eqb a.moment.0 b.moment.0))

pub same_true : (a b : Spot) → same_spot a b ≡ true → a ≡ b
same_true a b = (same_decides a b).0

pub true_same : (a b : Spot) → a ≡ b → same_spot a b ≡ true
true_same a b = (same_decides a b).1

false_unless : (b : Bool) → (b ≡ true → ⊥) → b ≡ false
false_unless true h = absurd (h refl)
false_unless false h = refl

pub apart : (a b : Spot) → StandsBefore a b → same_spot a b ≡ false
apart a b h = false_unless (same_spot a b) (λ t. irreflexive b (subst (λ s. StandsBefore s b) (same_true a b t) h))

-- the order and its test
pub before_true : (a b : Spot) → StandsBefore a b → is_lt (spot_cmp b a) ≡ true
before_true a b h = ap is_lt h

less_true : (o : Ordering) → is_lt o ≡ true → o ≡ Less
less_true Less h = refl
less_true Equal h = absurd (cc)
less_true Greater h = absurd (cc)

pub true_before : (a b : Spot) → is_lt (spot_cmp b a) ≡ true → StandsBefore a b
true_before a b h = less_true (spot_cmp b a) h

pub comes_true : (a b : Spot) → spot_before a b ≡ true → StandsBefore a b
comes_true a b h = true_before a b h

pub comes_none : (a b : Spot) → spot_before a b ≡ false → ¬ StandsBefore a b
comes_none a b h k = let t = before_true a b k in cc
