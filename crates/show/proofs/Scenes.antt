-- What a scene shows of the operations that stand.
use Rattle.std.proofs.Common.{◌≡◌, ◌∙◌, ℕ, ◌+◌, Bool, true, false, not, List, [], ◌∷◌, ◌++◌, length, map, Some, refl, sym, ap, subst, arith}
use Rattle.std.proofs.lemmas.List.{length-append, length-map}
use Rattle.std.proofs.lemmas.List.Sorted.{IsPermutation-cons, IsPermutation-middle, IsPermutation-refl, IsPermutation-sym, IsPermutation-trans, length_permutation}
use Rattle.std.specs.Prelude.{Contains, IsPermutation, sum}
use Rattle.intervals.specs.declared.operation.Op.{Op}
use Rattle.intervals.specs.declared.operation.OpId.{OpId}
use Rattle.intervals.specs.Operation.{same_id}
use Rattle.intervals.specs.Table.{ops_in_slots}
use Rattle.timeline.specs.declared.choice.Chosen.{Chosen}
use Rattle.timeline.specs.declared.choice.Extent.{Extent}
use Rattle.timeline.specs.Choice.{IsChosen, is_among, is_shown, picked, places_of}
use Rattle.show.specs.declared.letter.Letter.{Letter}
use Rattle.show.specs.declared.letter.Lettered.{Lettered}
use Rattle.show.specs.declared.scene.Scene.{Scene}
use Rattle.show.specs.declared.subject.Subject.{Subject}
use Rattle.show.specs.Letter.{letter_for}
use Rattle.show.specs.Scene.{IsScene, asked_beside, asked_ids, extent_of}
use Rattle.show.proofs.Timelines.{Asked, Counted}

-- two functions that agree have one list
pub map_alike : {X Y : Type 0} (f g : X → Y) → ((x : X) → f x ≡ g x) → (xs : List X) → map f xs ≡ map g xs
map_alike f g alike [] = refl
map_alike f g alike (x ∷ xs) = ap (λ y. y ∷ map f xs) (alike x) ∙ ap (λ ys. g x ∷ ys) (map_alike f g alike xs)

-- what is picked and what is not are together all

part_by : {X : Type 0} (passes : ℕ → Bool) (place : ℕ) (x : X) (xs : List X) (test : Bool) → passes place ≡ test
    → IsPermutation xs (picked passes (place + 1) xs ++ picked (λ p. not (passes p)) (place + 1) xs)
    → IsPermutation (x ∷ xs) (picked passes place (x ∷ xs) ++ picked (λ p. not (passes p)) place (x ∷ xs))
part_by passes place x xs true is rest = rw is (IsPermutation-cons x xs _ rest)
part_by passes place x xs false is rest =
    let shown = picked passes (place + 1) xs in
    let others = picked (λ p. not (passes p)) (place + 1) xs in
    rw is (IsPermutation-trans (x ∷ xs) (x ∷ (shown ++ others)) (shown ++ x ∷ others) (IsPermutation-cons x xs (shown ++ others) rest) (IsPermutation-sym (shown ++ x ∷ others) (x ∷ (shown ++ others)) (IsPermutation-middle shown x others)))

parted : {X : Type 0} (passes : ℕ → Bool) (place : ℕ) (xs : List X) → IsPermutation xs (picked passes place xs ++ picked (λ p. not (passes p)) place xs)
parted passes place [] = IsPermutation-refl []
parted passes place (x ∷ xs) = part_by passes place x xs (passes place) refl (parted passes (place + 1) xs)

module _ (ops : List Op) (ids : List OpId) (extent : Extent) (chosen : Chosen) (is : IsChosen ops ids extent chosen) where
  abbrev passes : ℕ → Bool
  passes = is_shown extent (length is.sorted) (places_of ids 0 is.sorted)

  abbrev left_out : List Op
  left_out = picked (λ p. not (passes p)) 0 is.sorted

  chosen_among : IsPermutation ops (picked passes 0 is.sorted ++ left_out)
  chosen_among = IsPermutation-trans ops is.sorted (picked passes 0 is.sorted ++ left_out) is.by_beginning.each_once (parted passes 0 is.sorted)

  pub shown_among : (others : List Op) × IsPermutation ops (chosen.shown.items ++ others)
  shown_among = (left_out, subst (λ (xs : List Op). IsPermutation ops (xs ++ left_out)) (sym is.shown) chosen_among)

  pub shown_and_hidden : length chosen.shown.items + length chosen.hidden.items ≡ length ops
  shown_and_hidden =
      let shown : length chosen.shown.items ≡ length (picked passes 0 is.sorted) = ap length is.shown in
      let hidden : length chosen.hidden.items ≡ length left_out = ap length is.hidden ∙ length-map left_out (λ (op : Op). op.begin) in
      let all = length_permutation ops (picked passes 0 is.sorted ++ left_out) chosen_among in
      let both = length-append (picked passes 0 is.sorted) left_out in
      omega (arith, shown, hidden, all, both)

-- an operation that has a letter is among those that are shown before all others

asked_by : (l : Lettered) (letters : List Lettered) (id : OpId) (letter : Letter) (more : List OpId) (test : Bool) → same_id l.id id ≡ test
    → (letter_for letters id ≡ Some letter → is_among (map (λ (o : Lettered). o.id) letters ++ more) id ≡ true)
    → letter_for (l ∷ letters) id ≡ Some letter → is_among (map (λ (o : Lettered). o.id) (l ∷ letters) ++ more) id ≡ true
asked_by l letters id letter more true is rest found = rw is refl
asked_by l letters id letter more false is rest found = rw is (rest (rw is at found))

asked_if : (letters : List Lettered) (id : OpId) (letter : Letter) (more : List OpId) → letter_for letters id ≡ Some letter → is_among (map (λ (o : Lettered). o.id) letters ++ more) id ≡ true
asked_if [] id letter more found = absurd (cc)
asked_if (l ∷ letters) id letter more found = asked_by l letters id letter more (same_id l.id id) refl (asked_if letters id letter more) found

module _ (subject : Subject) (extent : Extent) (scene : Scene) (is : IsScene subject extent scene) where
  abbrev asked : List OpId
  asked = asked_ids (ops_in_slots subject.slots.now) scene.witness scene.around scene.letters.items

  pub shown_stand : (others : List Op) × IsPermutation (ops_in_slots subject.slots.now) (scene.ops.items ++ others)
  shown_stand =
      let (others, all) = shown_among (ops_in_slots subject.slots.now) asked (extent_of scene.witness extent) is.chosen is.choice in
      (others, subst (λ (xs : List Op). IsPermutation (ops_in_slots subject.slots.now) (xs ++ others)) (sym is.shown) all)

  pub shown_or_counted : Counted → length scene.ops.items + sum scene.folded.items ≡ length (ops_in_slots subject.slots.now)
  shown_or_counted law =
      let shown : length scene.ops.items ≡ length is.chosen.shown.items = ap length is.shown in
      let hidden : sum scene.folded.items ≡ length is.chosen.hidden.items = ap sum is.folded ∙ law scene.marks.items is.chosen.hidden.items is.marks.in_order in
      let both = shown_and_hidden (ops_in_slots subject.slots.now) asked (extent_of scene.witness extent) is.chosen is.choice in
      omega (arith, shown, hidden, both)

  pub lettered_are_shown : Asked → (op : Op) (letter : Letter) → Contains (ops_in_slots subject.slots.now) op → letter_for scene.letters.items op.id ≡ Some letter → Contains scene.ops.items op
  lettered_are_shown law op letter present found =
      subst (λ (xs : List Op). Contains xs op) (sym is.shown)
      (law (ops_in_slots subject.slots.now) asked (extent_of scene.witness extent) is.chosen op is.choice present (asked_if scene.letters.items op.id letter (asked_beside (ops_in_slots subject.slots.now) scene.witness scene.around) found))
