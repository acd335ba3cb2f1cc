-- The tests for equal spots decide whether they are equal.
use Rattle.std.proofs.Common.{Decides, ◌≡◌, true, Option, Some, None, refl, ap, ◌∙◌}
use Rattle.std.proofs.lemmas.Bool.Decides.{Decides-and, Decides-eqb}
use Rattle.intervals.specs.declared.ordered_index.Spot.{Spot}
use Rattle.intervals.specs.Operation.{same_value}
use Rattle.intervals.specs.OrderedIndex.{is_spot, same_spot, spot_of}
use Rattle.intervals.proofs.Agreement.{Decides-same_value}

pub Decides-same_spot : (a b : Spot) → Decides (same_spot a b) (a ≡ b)
Decides-same_spot a b = (
  (λ t. let (e, f) = parts.0 t in
      ap {B = Spot} (λ v. spot_of v a.moment) e ∙ ap {B = Spot} (λ n. spot_of b.value (record { 0 = n })) f),
  (λ e. parts.1 (ap (λ (s : Spot). s.value) e, ap (λ (s : Spot). s.moment.0) e)),
)
  where
    parts : Decides (same_spot a b) ((a.value ≡ b.value) × (a.moment.0 ≡ b.moment.0))
    parts = Decides-and (same_value a.value b.value) _ (Decides-same_value a.value b.value) (Decides-eqb a.moment.0 b.moment.0)

-- where the test passes, the optional spot is the other one
pub is_spot_one : (spot : Option Spot) (other : Spot) → is_spot spot other ≡ true → spot ≡ Some other
is_spot_one None other t = absurd (cc)
is_spot_one (Some spot) other t = ap Some ((Decides-same_spot spot other).0 t)

pub is_spot_itself : (spot : Spot) → is_spot (Some spot) spot ≡ true
is_spot_itself spot = (Decides-same_spot spot spot).1 refl
