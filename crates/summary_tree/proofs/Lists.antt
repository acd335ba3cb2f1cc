-- What a filter and a search give, by what is known of the elements.
use Rattle.std.proofs.Common.{◌≡◌, ◌∙◌, ◌⊎◌, inl, inr, Bool, true, false, cond, List, [], ◌∷◌, ◌++◌, Option, Some, None, refl, sym, ap}
use Rattle.std.specs.Prelude.{All, filter}
use Rattle.std.specs.List.{find}
use Rattle.std.specs.Option.{option_or}
use Rattle.std.proofs.lemmas.Bool.{cases_Bool}
use Rattle.std.proofs.lemmas.List.Elements.{All-nil, All-cons, All-head, All-tail}
use Rattle.std.proofs.lemmas.List.Folds.{find-append}
use Rattle.std.proofs.lemmas.Option.{same_Some}

module _ {X : Type 0} (p : X → Bool) where
  pub filter_all : (xs : List X) → All (λ x. p x ≡ true) xs → filter p xs ≡ xs
  filter_all [] h = refl
  filter_all (x ∷ xs) h =
      let first : p x ≡ true = All-head (λ y. p y ≡ true) x xs h in
      ap (λ (b : Bool). cond b (x ∷ filter p xs) (filter p xs)) first ∙ ap (λ ys. x ∷ ys) (filter_all xs (All-tail (λ y. p y ≡ true) x xs h))

  pub filter_none : (xs : List X) → All (λ x. p x ≡ false) xs → filter p xs ≡ []
  filter_none [] h = refl
  filter_none (x ∷ xs) h =
      let first : p x ≡ false = All-head (λ y. p y ≡ false) x xs h in
      ap (λ (b : Bool). cond b (x ∷ filter p xs) (filter p xs)) first ∙ filter_none xs (All-tail (λ y. p y ≡ false) x xs h)

  pub find_none : (xs : List X) → All (λ x. p x ≡ false) xs → find p xs ≡ None
  find_none [] h = refl
  find_none (x ∷ xs) h =
      let first : p x ≡ false = All-head (λ y. p y ≡ false) x xs h in
      ap (λ (b : Bool). cond b (Some x) (find p xs)) first ∙ find_none xs (All-tail (λ y. p y ≡ false) x xs h)

  find_some_by : (x : X) (xs : List X) → (find p xs ≡ None → All (λ y. p y ≡ false) xs) → find p (x ∷ xs) ≡ None → (p x ≡ true) ⊎ (p x ≡ false) → All (λ y. p y ≡ false) (x ∷ xs)
  find_some_by x xs later e (inl t) = absurd (let found = sym (ap (λ (b : Bool). cond b (Some x) (find p xs)) t) ∙ e in cc)
  find_some_by x xs later e (inr f) = All-cons (λ y. p y ≡ false) x xs f (later (sym (ap (λ (b : Bool). cond b (Some x) (find p xs)) f) ∙ e))

  pub none_found : (xs : List X) → find p xs ≡ None → All (λ x. p x ≡ false) xs
  none_found [] e = All-nil (λ x. p x ≡ false)
  none_found (x ∷ xs) e = find_some_by x xs (none_found xs) e (cases_Bool (p x))

  option_or_none : (o : Option X) → option_or o None ≡ o
  option_or_none None = refl
  option_or_none (Some x) = refl

  -- where one part of a list has nothing that passes
  pub find_front : (xs ys : List X) → All (λ y. p y ≡ false) ys → find p (xs ++ ys) ≡ find p xs
  find_front xs ys none = find-append p xs ys ∙ ap (option_or (find p xs)) (find_none ys none) ∙ option_or_none (find p xs)

  pub find_back : (xs ys : List X) → All (λ x. p x ≡ false) xs → find p (xs ++ ys) ≡ find p ys
  find_back xs ys none = find-append p xs ys ∙ ap (λ o. option_or o (find p ys)) (find_none xs none)

  pub find_after : (xs : List X) (y : X) (ys : List X) → All (λ x. p x ≡ false) xs → p y ≡ true → find p (xs ++ y ∷ ys) ≡ Some y
  find_after xs y ys none e = find_back xs (y ∷ ys) none ∙ ap (λ (b : Bool). cond b (Some y) (find p ys)) e

  -- the element that a search finds, with the elements before it and after it
  pub record IsFound (xs : List X) (y : X) : Type 0 where
    pub front : List X
    pub back : List X
    pub parts : xs ≡ front ++ y ∷ back
    pub passes : p y ≡ true

  found_by : (x : X) (xs : List X) (y : X) → (find p xs ≡ Some y → IsFound xs y) → find p (x ∷ xs) ≡ Some y → (p x ≡ true) ⊎ (p x ≡ false) → IsFound (x ∷ xs) y
  found_by x xs y later e (inl t) =
      let one : x ≡ y = same_Some x y (sym (ap (λ (b : Bool). cond b (Some x) (find p xs)) t) ∙ e) in
      record { front = []; back = xs; parts = ap (λ z. z ∷ xs) one; passes = sym (ap p one) ∙ t }
  found_by x xs y later e (inr f) =
      let rest = later (sym (ap (λ (b : Bool). cond b (Some x) (find p xs)) f) ∙ e) in
      record { front = x ∷ rest.front; back = rest.back; parts = ap (λ zs. x ∷ zs) rest.parts; passes = rest.passes }

  pub found : (xs : List X) (y : X) → find p xs ≡ Some y → IsFound xs y
  found [] y e = absurd (cc)
  found (x ∷ xs) y e = found_by x xs y (found xs y) e (cases_Bool (p x))
