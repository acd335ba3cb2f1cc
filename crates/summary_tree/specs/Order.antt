-- Items by their keys, which are in one strict order.
use Rattle.std.specs.Prelude.{ℕ, ◌≡◌, ◌≢◌, ◌⊎◌, Bool, not, IsTrue, All, List, ◌∷◌, ◌++◌, Option, filter, map, length, if◌then◌else◌}
use Rattle.std.specs.List.{AllPairs, find}

-- a strict order: no key comes before itself, it is transitive, and of two different keys one comes before the other
pub record IsStrictOrder {K : Type 0} (before : K → K → Bool) : Type 0 where
  pub irreflexive : (a : K) → ¬ IsTrue (before a a)
  pub transitive : (a b c : K) → IsTrue (before a b) → IsTrue (before b c) → IsTrue (before a c)
  pub total : (a b : K) → IsTrue (before a b) ⊎ ((a ≡ b) ⊎ IsTrue (before b a))

-- the test says exactly whether two keys are one
pub record IsExact {K : Type 0} (same : K → K → Bool) : Type 0 where
  pub one : (a b : K) → IsTrue (same a b) → a ≡ b
  pub here : (a b : K) → a ≡ b → IsTrue (same a b)

-- what a tree holds: its items in order, how many more it has room for, and how many levels its edits went down
pub record TreeContents (T : Type 0) : Type 0 where
  pub items : List T
  pub free : ℕ
  pub steps : ℕ

-- the key of each item comes before those of all later items
abbrev pub AreInOrder : {K T : Type 0} → (T → K) → (K → K → Bool) → List T → Type 0
AreInOrder key before items = AllPairs (λ a b. IsTrue (before (key a) (key b))) items

-- no item has this key
abbrev pub HasNoneAt : {K T : Type 0} → (T → K) → K → List T → Type 0
HasNoneAt key k items = All (λ x. key x ≢ k) items

-- the items whose key comes before this one
abbrev pub below : {K T : Type 0} → (T → K) → (K → K → Bool) → K → List T → List T
below key before k items = filter (λ x. before (key x) k) items

-- the items whose key comes after this one
abbrev pub above : {K T : Type 0} → (T → K) → (K → K → Bool) → K → List T → List T
above key before k items = filter (λ x. before k (key x)) items

-- the items and one more, in its place by key
abbrev pub with_item : {K T : Type 0} → (T → K) → (K → K → Bool) → T → List T → List T
with_item key before new items = below key before (key new) items ++ new ∷ above key before (key new) items

-- the item that has this key, or none
abbrev pub item_at : {K T : Type 0} → (T → K) → (K → K → Bool) → K → List T → Option T
item_at key same k items = find (λ x. same (key x) k) items

-- the items that have another key than this one
abbrev pub without_item : {K T : Type 0} → (T → K) → (K → K → Bool) → K → List T → List T
without_item key same k items = filter (λ x. not (same (key x) k)) items

-- the items, with the new one in the place of the one that has its key, if there is one
abbrev pub with_replaced : {K T : Type 0} → (T → K) → (K → K → Bool) → T → List T → List T
with_replaced key same new items = map (λ x. if same (key x) (key new) then new else x) items

-- the items are in order, and as many places are taken as there are items
pub record IsTreeOf {K T : Type 0} (key : T → K) (before : K → K → Bool) (items : List T) (taken : ℕ) : Type 0 where
  pub order : AreInOrder key before items
  pub count : taken ≡ length items
