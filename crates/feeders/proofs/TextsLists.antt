-- Which elements lists have, mapped, filtered, numbered and joined ones, and what holds of each element.
use Rattle.std.proofs.Common.{◌≡◌, ℕ, zero, suc, ◌+◌, Bool, true, false, cond, List, [], ◌∷◌, ◌++◌, map, length, reverse, Option, Some, None, refl, sym, ap, subst, ◌∙◌, arith}
use Rattle.std.specs.Prelude.{filter, filter_map, find}
use Rattle.std.specs.List.{slice_get, AllZip, AllByRecursion, cons_option}
use Rattle.std.proofs.lemmas.List.{reverse-append}
use Rattle.shards.specs.declared.entry.Entry.{Entry}
use Rattle.shards.specs.declared.entry.NumberedEntry.{NumberedEntry}
use Rattle.shards.specs.Merge.{numbered}
use Rattle.logs.specs.Run.{EachNumbered}

-- the list has this element
abbrev pub Has : {X : Type 0} → List X → X → Type 0
Has xs x = (k : ℕ) × (slice_get xs k ≡ Some x)

pub get_map : {X Y : Type 0} (f : X → Y) (xs : List X) (k : ℕ) (x : X) → slice_get xs k ≡ Some x → slice_get (map f xs) k ≡ Some (f x)
get_map f [] k x e = absurd (cc)
get_map f (y ∷ xs) zero x e = let same : y ≡ x = cc in ap (λ z. Some (f z)) same
get_map f (y ∷ xs) (suc k) x e = get_map f xs k x e

pub map_has : {X Y : Type 0} (f : X → Y) (xs : List X) (y : Y) (k : ℕ) → slice_get (map f xs) k ≡ Some y → (x : X) × Has xs x × (f x ≡ y)
map_has f [] y k e = absurd (cc)
map_has f (x ∷ xs) y zero e = (x, (0, refl), cc)
map_has f (x ∷ xs) y (suc k) e = let r = map_has f xs y k e in (r.0, (suc r.1.0, r.1.1), r.2)

pub has_filter : {X : Type 0} (test : X → Bool) (xs : List X) (x : X) (k : ℕ) → slice_get xs k ≡ Some x → test x ≡ true → Has (filter test xs) x
has_filter test [] x k e t = absurd (cc)
has_filter {X = X} test (y ∷ xs) x zero e t =
    let same : y ≡ x = cc in
    (0, ap (λ (b : Bool). slice_get (cond b (y ∷ filter test xs) (filter test xs)) 0) (ap test same ∙ t) ∙ ap (λ (z : X). Some z) same)
has_filter {X = X} test (y ∷ xs) x (suc k) e t = by_test (test y) (has_filter test xs x k e t)
  where
    by_test : (b : Bool) → Has (filter test xs) x → Has (cond b (y ∷ filter test xs) (filter test xs)) x
    by_test true h = (suc h.0, h.1)
    by_test false h = h

-- an element of the list gives this one
abbrev pub GivenBy : {X Y : Type 0} → (X → Option Y) → Y → List X → Type 0
GivenBy {X = X} f y xs = (j : ℕ) × (x : X) × (slice_get xs j ≡ Some x) × (f x ≡ Some y)

pub filter_map_has : {X Y : Type 0} (f : X → Option Y) (xs : List X) (y : Y) (k : ℕ) → slice_get (filter_map f xs) k ≡ Some y → GivenBy f y xs
filter_map_has f [] y k e = absurd (cc)
filter_map_has {X = X} {Y = Y} f (x ∷ xs) y k e = by_option (f x) refl (λ m g. filter_map_has f xs y m g) k e
  where
    by_option : (o : Option Y) → f x ≡ o → ((m : ℕ) → slice_get (filter_map f xs) m ≡ Some y → GivenBy f y xs) → (m : ℕ) → slice_get (cons_option o (filter_map f xs)) m ≡ Some y → GivenBy f y (x ∷ xs)
    by_option None is rest m g = let r = rest m g in (suc r.0, r.1, r.2, r.3)
    by_option (Some z) is rest zero g = (0, x, refl, is ∙ g)
    by_option (Some z) is rest (suc m) g = let r = rest m g in (suc r.0, r.1, r.2, r.3)

pub get_after : {X : Type 0} (before : List X) (x : X) (after : List X) → slice_get (before ++ x ∷ after) (length before) ≡ Some x
get_after [] x after = refl
get_after (y ∷ before) x after = get_after before x after

pub has_numbered : (n : ℕ) (journal : List Entry) (entry : Entry) (k : ℕ) → slice_get journal k ≡ Some entry → (known : NumberedEntry) × Has (numbered n journal) known × (known.entry ≡ entry)
has_numbered n [] entry k e = absurd (cc)
has_numbered n (first ∷ journal) entry zero e = (record { number = n; entry = first }, (0, refl), cc)
has_numbered n (first ∷ journal) entry (suc k) e = let r = has_numbered (n + 1) journal entry k e in (r.0, (suc r.1.0, r.1.1), r.2)

pub zip_get : {X Y : Type 0} (R : X → Y → Type 0) (xs : List X) (ys : List Y) (k : ℕ) (y : Y) → AllZip R xs ys → slice_get ys k ≡ Some y → (x : X) × (slice_get xs k ≡ Some x) × R x y
zip_get R [] [] k y all e = absurd (cc)
zip_get R [] (z ∷ ys) k y all e = absurd all
zip_get R (x ∷ xs) [] k y all e = absurd all
zip_get R (x ∷ xs) (z ∷ ys) zero y all e = let same : z ≡ y = cc in (x, refl, subst (R x) same all.0)
zip_get R (x ∷ xs) (z ∷ ys) (suc k) y all e = zip_get R xs ys k y all.1 e

pub all_get : {X : Type 0} (P : X → Type 0) (xs : List X) (k : ℕ) (x : X) → AllByRecursion P xs → slice_get xs k ≡ Some x → P x
all_get P [] k x all e = absurd (cc)
all_get P (y ∷ xs) zero x all e = let same : y ≡ x = cc in subst P same all.0
all_get P (y ∷ xs) (suc k) x all e = all_get P xs k x all.1 e

pub numbered_get : {X Y : Type 0} (R : ℕ → X → Y → Type 0) (n m : ℕ) (xs : List X) (ys : List Y) (k : ℕ) (x : X) → m ≡ n + k → EachNumbered R n xs ys → slice_get xs k ≡ Some x → (y : Y) × (slice_get ys k ≡ Some y) × R m x y
numbered_get R n m [] [] k x at each e = absurd (cc)
numbered_get R n m [] (y ∷ ys) k x at each e = absurd each
numbered_get R n m (z ∷ xs) [] k x at each e = absurd each
numbered_get R n m (z ∷ xs) (y ∷ ys) zero x at each e =
    let same : z ≡ x = cc in
    let here : n ≡ m = omega (arith, at) in
    (y, refl, subst (λ (i : ℕ). R i x y) here (subst (λ z. R n z y) same each.0))
numbered_get R n m (z ∷ xs) (y ∷ ys) (suc k) x at each e = numbered_get R (n + 1) m xs ys k x (omega (arith, at)) each.1 e

-- what holds of each element of a list

pub all_append : {X : Type 0} (P : X → Type 0) (xs ys : List X) → AllByRecursion P xs → AllByRecursion P ys → AllByRecursion P (xs ++ ys)
all_append P [] ys h k = k
all_append P (x ∷ xs) ys h k = (h.0, all_append P xs ys h.1 k)

pub all_reverse : {X : Type 0} (P : X → Type 0) (xs : List X) → AllByRecursion P xs → AllByRecursion P (reverse xs)
all_reverse P [] h = tt
all_reverse P (x ∷ xs) h = subst (AllByRecursion P) (sym (reverse-append (x ∷ []) xs)) (all_append P (reverse xs) (x ∷ []) (all_reverse P xs h.1) (h.0, tt))

pub all_found : {X : Type 0} (P : X → Type 0) (test : X → Bool) (xs : List X) (x : X) → AllByRecursion P xs → find test xs ≡ Some x → P x × (test x ≡ true)
all_found P test [] x h e = absurd (cc)
all_found {X = X} P test (y ∷ xs) x h e = by_test (test y) refl e (all_found P test xs x h.1)
  where
    by_test : (b : Bool) → test y ≡ b → cond b (Some y) (find test xs) ≡ Some x → (find test xs ≡ Some x → P x × (test x ≡ true)) → P x × (test x ≡ true)
    by_test true t g rest = let same : y ≡ x = cc in subst (λ z. P z × (test z ≡ true)) same (h.0, t)
    by_test false t g rest = rest g

pub all_filter_map : {X Y : Type 0} (P : X → Type 0) (Q : Y → Type 0) (f : X → Option Y) → ((x : X) (y : Y) → f x ≡ Some y → P x → Q y) → (xs : List X) → AllByRecursion P xs → AllByRecursion Q (filter_map f xs)
all_filter_map P Q f each [] h = tt
all_filter_map {X = X} {Y = Y} P Q f each (x ∷ xs) h = by_option (f x) refl (all_filter_map P Q f each xs h.1)
  where
    by_option : (o : Option Y) → f x ≡ o → AllByRecursion Q (filter_map f xs) → AllByRecursion Q (cons_option o (filter_map f xs))
    by_option None is rest = rest
    by_option (Some y) is rest = (each x y is h.0, rest)
