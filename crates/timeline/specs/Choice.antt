-- Which operations of a register a picture shows.
use Rattle.std.specs.Prelude.{◌≡◌, ◌+◌, ◌-◌, ◌&&◌, ◌||◌, ℕ, Bool, true, not, nat_le, nat_lt, List, [], ◌∷◌, length, map, if◌then◌else◌, IsPermutation}
use Rattle.std.specs.List.{list_any}
use Rattle.std.specs.List.Sorted.{IsNonDecreasingBy}
use Rattle.intervals.specs.declared.operation.Op.{Op}
use Rattle.intervals.specs.declared.operation.OpId.{OpId}
use Rattle.intervals.specs.Operation.{same_id}
use Rattle.timeline.specs.declared.choice.Extent.{Extent}
use Rattle.timeline.specs.declared.choice.Extent.TheVariants.{All, Around}
use Rattle.timeline.specs.declared.choice.Chosen.{Chosen}

-- the second list has the operations of the first, each once, in the order of their beginnings
pub record IsByBeginning (ops sorted : List Op) : Type 0 where
  pub each_once : IsPermutation ops sorted
  pub in_order : IsNonDecreasingBy (λ op. op.begin.0) sorted

-- whether the id is in the list
abbrev pub is_among : List OpId → OpId → Bool
is_among ids id = list_any (λ other. same_id other id) ids

-- the places of the operations that have one of these ids; places are counted from this one
abbrev pub places_of : List OpId → ℕ → List Op → List ℕ
places_of ids place [] = []
places_of ids place (op ∷ ops) = if is_among ids op.id then place ∷ places_of ids (place + 1) ops else places_of ids (place + 1) ops

-- whether two places are at most this far apart
abbrev pub are_near : ℕ → ℕ → ℕ → Bool
are_near around a b = nat_le (a - b) around && nat_le (b - a) around

-- whether some centre is at most this far from the place
abbrev pub is_near : ℕ → List ℕ → ℕ → Bool
is_near around centres place = list_any (λ centre. are_near around centre place) centres

-- whether the three places from this one on are within the number of places, and none is near a centre (`is_near`)
abbrev pub is_far_from : ℕ → ℕ → List ℕ → ℕ → Bool
is_far_from many around centres place =
    nat_lt 2 (many - place)
    && (not (is_near around centres place) && (not (is_near around centres (place + 1)) && not (is_near around centres (place + 2))))

-- whether the place is one of three in a row that are far from all centres (`is_far_from`)
abbrev pub is_folded : ℕ → ℕ → List ℕ → ℕ → Bool
is_folded many around centres place =
    is_far_from many around centres (place - 2) || (is_far_from many around centres (place - 1) || is_far_from many around centres place)

-- whether the operation at this place of so many is shown: always, or where it is not folded (`is_folded`)
abbrev pub is_shown : Extent → ℕ → List ℕ → ℕ → Bool
is_shown All many centres place = true
is_shown (Around around) many centres place = not (is_folded many around centres place)

-- the elements of the list whose places pass the test; places are counted from this one
abbrev pub picked : {X : Type 0} → (ℕ → Bool) → ℕ → List X → List X
picked passes place [] = []
picked passes place (x ∷ xs) = if passes place then x ∷ picked passes (place + 1) xs else picked passes (place + 1) xs

-- the choice has the operations that are shown, and the beginnings of the others, both in the order of beginnings
pub record IsChosen (ops : List Op) (ids : List OpId) (extent : Extent) (chosen : Chosen) : Type 0 where
  pub sorted : List Op
  pub by_beginning : IsByBeginning ops sorted
  pub shown : chosen.shown.items ≡ picked (is_shown extent (length sorted) (places_of ids 0 sorted)) 0 sorted
  pub hidden : chosen.hidden.items ≡ map (λ op. op.begin) (picked (λ place. not (is_shown extent (length sorted) (places_of ids 0 sorted) place)) 0 sorted)
