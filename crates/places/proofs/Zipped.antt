-- What holds of each two of two lists.
use Rattle.std.proofs.Common.{◌≡◌, ◌+◌, ◌<◌, ℕ, List, [], ◌∷◌, ◌++◌, get_or, length, map, take, sym, subst, ap, ◌∙◌}
use Rattle.std.specs.List.{AllZip}
use Rattle.std.proofs.lemmas.List.{map-append, take_more}

zip_push : {A B : Type 0} (R : A → B → Type 0) (xs : List A) (ys : List B) (x : A) (y : B) → AllZip R xs ys → R x y → AllZip R (xs ++ x ∷ []) (ys ++ y ∷ [])
zip_push R [] [] x y all one = (one, tt)
zip_push R [] (other ∷ ys) x y all one = absurd all
zip_push R (other ∷ xs) [] x y all one = absurd all
zip_push R (x' ∷ xs) (y' ∷ ys) x y all one = (all.0, zip_push R xs ys x y all.1 one)

-- one more of both lists
pub zip_next : {A B C : Type 0} (R : B → C → Type 0) (f : A → B) (xs : List A) (ys : List C) (i : ℕ) (d : A) (y : C) → i < length xs → AllZip R (map f (take i xs)) ys → R (f (get_or xs i d)) y
    → AllZip R (map f (take (i + 1) xs)) (ys ++ y ∷ [])
zip_next R f xs ys i d y within all one =
    let x = get_or xs i d in
    let more : map f (take (i + 1) xs) ≡ map f (take i xs) ++ f x ∷ [] = ap (map f) (take_more xs i d within) ∙ map-append f (take i xs) (x ∷ []) in
    subst (λ (front : List _). AllZip R front (ys ++ y ∷ [])) (sym more) (zip_push R (map f (take i xs)) ys (f x) y all one)
