-- What a look-up finds is in the list; what a list with an optional first element contains.
use Rattle.std.proofs.Common.{◌≡◌, zero, suc, ◌≤◌, List, Option, Some, None, refl, subst, arith}
use Rattle.std.specs.Prelude.{Contains}
use Rattle.std.specs.List.{cons_option}
use Rattle.intervals.specs.declared.operation.Op.{Op}
use Rattle.intervals.specs.Operation.{IsWrite}
use Rattle.safe_regular.specs.LookUp.{IsLastWrite, IsFirstWrite, IsLastOf, IsFirstWriteOf}

-- where a write has the property, one is found, and it begins no earlier
pub last_found : (P : Op → Type 0) (ops : List Op) (found : Option Op) → IsLastOf P ops found → (w : Op) → Contains ops w → IsWrite w → P w
    → (v : Op) × (found ≡ Some v) × IsLastWrite P ops v × (w.begin.0 ≤ v.begin.0)
last_found P ops None h w present write fits = absurd (h w present write fits)
last_found P ops (Some v) h w present write fits = (v, refl, h, h.last w present write fits)

-- where a write has the property, one is found, and it begins no later
pub first_found : (P : Op → Type 0) (ops : List Op) (found : Option Op) → IsFirstWriteOf P ops found → (w : Op) → Contains ops w → IsWrite w → P w
    → (v : Op) × (found ≡ Some v) × IsFirstWrite P ops v × (v.begin.0 ≤ w.begin.0)
first_found P ops None h w present write fits = absurd (h w present write fits)
first_found P ops (Some v) h w present write fits = (v, refl, h, h.first w present write fits)

pub last_present : (P : Op → Type 0) (ops : List Op) (found : Option Op) → IsLastOf P ops found → (v : Op) → found ≡ Some v → Contains ops v
last_present P ops found h v e = let is : IsLastWrite P ops v = subst (λ (o : Option Op). IsLastOf P ops o) e h in is.present

pub first_is_present : (P : Op → Type 0) (ops : List Op) (found : Option Op) → IsFirstWriteOf P ops found → (v : Op) → found ≡ Some v → Contains ops v
first_is_present P ops found h v e = let is : IsFirstWrite P ops v = subst (λ (o : Option Op). IsFirstWriteOf P ops o) e h in is.present

-- the optional first element, where it is there, is in the list
pub in_front : (o : Option Op) (xs : List Op) (w : Op) → o ≡ Some w → Contains (cons_option o xs) w
in_front None xs w e = absurd (cc)
in_front (Some v) xs w e = (0, omega arith, (cc))

pub in_rest : (o : Option Op) (xs : List Op) (w : Op) → Contains xs w → Contains (cons_option o xs) w
in_rest None xs w h = h
in_rest (Some v) xs w h = (suc h.0, omega (arith, h.1), h.2)

-- what holds of the optional first element and of each of the rest holds of each element
pub each_of : (P : Op → Type 0) (o : Option Op) (xs : List Op) → ((w : Op) → o ≡ Some w → P w) → ((w : Op) → Contains xs w → P w) → (w : Op) → Contains (cons_option o xs) w → P w
each_of P None xs here rest w h = rest w h
each_of P (Some v) xs here rest w (zero, lt, e) = here w (rw e refl)
each_of P (Some v) xs here rest w (suc k, lt, e) = rest w (k, omega arith, e)
