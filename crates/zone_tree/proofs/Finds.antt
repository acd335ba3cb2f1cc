-- What a search of the items around one finds, by what it finds on the left.
use Rattle.std.proofs.Common.{◌≡◌, ◌∙◌, Bool, true, false, cond, List, ◌∷◌, ◌++◌, Option, Some, None, ap}
use Rattle.std.specs.List.{find}
use Rattle.std.specs.Option.{option_or}
use Rattle.std.proofs.lemmas.List.Folds.{find-append}

find_around : {T : Type 0} (p : T → Bool) (xs : List T) (z : T) (ys : List T) (o : Option T) → find p xs ≡ o → find p (xs ++ z ∷ ys) ≡ option_or o (find p (z ∷ ys))
find_around p xs z ys o e = find-append p xs (z ∷ ys) ∙ ap (λ found. option_or found (find p (z ∷ ys))) e

pub find_in_left : {T : Type 0} (p : T → Bool) (xs : List T) (z : T) (ys : List T) (w : T) → find p xs ≡ Some w → find p (xs ++ z ∷ ys) ≡ Some w
find_in_left p xs z ys w e = find_around p xs z ys (Some w) e

pub find_here : {T : Type 0} (p : T → Bool) (xs : List T) (z : T) (ys : List T) → find p xs ≡ None → p z ≡ true → find p (xs ++ z ∷ ys) ≡ Some z
find_here p xs z ys e h = find_around p xs z ys None e ∙ ap (λ (b : Bool). cond b (Some z) (find p ys)) h

pub find_in_right : {T : Type 0} (p : T → Bool) (xs : List T) (z : T) (ys : List T) → find p xs ≡ None → p z ≡ false → find p (xs ++ z ∷ ys) ≡ find p ys
find_in_right p xs z ys e h = find_around p xs z ys None e ∙ ap (λ (b : Bool). cond b (Some z) (find p ys)) h
