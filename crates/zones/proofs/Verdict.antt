-- The verdict of a register's judge.
use Rattle.std.proofs.Common.{◌≡◌, ◌↔◌, false, ◌||◌, List, Option, Some, None, refl}
use Rattle.std.specs.Prelude.{IfSome, IsNone, IsPermutation, IsSomeAnd, is_some}
use Rattle.std.proofs.lemmas.List.Sorted.{IsPermutation-sym}
use Rattle.intervals.specs.declared.operation.Op.{Op}
use Rattle.intervals.specs.declared.operation.Value.{Value}
use Rattle.zone_tree.specs.declared.zone.Zone.{Zone}
use Rattle.zone_tree.specs.Conflict.{IsClean, IsFirstConflict}
use Rattle.zone_tree.specs.Order.{IsByLeft}
use Rattle.zones.specs.Cluster.{zones_from}
use Rattle.zones.specs.Crossing.{HasFirstConflictFrom}
use Rattle.zones.proofs.AnyOrder.{clean_moved}

-- nothing is found exactly where the condition holds
abbrev pub NoneWhere : {X : Type 0} → Option X → Type 0 → Type 0
NoneWhere found P = IsNone found ↔ P

pub if_some_and : {X : Type 0} (P : X → Type 0) (found : Option X) → IsSomeAnd found P → IfSome found P
if_some_and P None h = tt
if_some_and P (Some x) h = h

-- of two that are both there the one is none exactly where the other is, which is never
pub none_alike : {X Y : Type 0} (P : X → Type 0) (Q : Type 0) (found : Option X) (other : Y) → IsSomeAnd found P → NoneWhere (Some other) Q → NoneWhere found Q
none_alike P Q None other h is = absurd h
none_alike P Q (Some x) other h is = ((λ n. absurd (cc)), λ q. absurd (let n = is.1 q in cc))

module _ (initial : Option Value) (ops : List Op) where
  module _ (list : List Zone) (once : IsPermutation (zones_from initial ops) list) where
    pub conflict_in : (found : Option (Zone × Zone)) → IsByLeft list → IfSome found (λ pair. IsFirstConflict list pair.0 pair.1) → IfSome found (λ pair. HasFirstConflictFrom initial ops pair.0 pair.1)
    conflict_in None by_left h = tt
    conflict_in (Some pair) by_left h = record { zones = list; each_once = once; by_left = by_left; conflict = h }

    pub clean_in : (P : Type 0) → P ↔ IsClean list → P ↔ IsClean (zones_from initial ops)
    clean_in P is = ((λ p. clean_moved list (zones_from initial ops) (IsPermutation-sym (zones_from initial ops) list once) (is.0 p)), λ c. is.1 (clean_moved (zones_from initial ops) list once c))

pub same_as : (P Q R : Type 0) → P ↔ Q → Q ↔ R → P ↔ R
same_as P Q R f g = ((λ p. g.0 (f.0 p)), λ r. f.1 (g.1 r))

-- which of three optional things are there
module _ {X Y Z : Type 0} where
  none_there : (a : Option X) (b : Option Y) (c : Option Z) → ((is_some a || is_some b) || is_some c) ≡ false → (a ≡ None) × (b ≡ None) × (c ≡ None)
  none_there None None None e = (refl, refl, refl)
  none_there None None (Some z) e = absurd (cc)
  none_there None (Some y) c e = absurd (cc)
  none_there (Some x) b c e = absurd (cc)

  -- where there is none of the three, the rest decides
  pub rest_decides : (P Q R : Type 0) (a : Option X) (b : Option Y) (c : Option Z) → P ↔ ((a ≡ None) × (b ≡ None) × (c ≡ None) × Q) → ((is_some a || is_some b) || is_some c) ≡ false → R ↔ Q → R ↔ P
  rest_decides P Q R a b c law none is =
      let (d, e, f) = none_there a b c none in
      ((λ r. law.1 (d, e, f, is.0 r)), λ p. is.1 (law.0 p).3)
