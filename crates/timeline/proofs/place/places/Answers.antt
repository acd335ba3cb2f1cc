use Rattle.std.proofs.Common.{List, rules, subst}
use Rattle.std.proofs.lemmas.List.Sorted.{All-permutation, IsNonDecreasingBy-from_sort_by_key, IsPermutation-sym}
use Rattle.std.specs.Prelude.{All}
use Rattle.timeline.specs.declared.place.Want.{Want}
use Rattle.timeline.specs.Place.{AreTight, IsDistanceKept, IsWithin}
use Rattle.timeline.proofs.Placing.{places_rise, tight_moved}
use Rattle.timeline.proofs.place.places.Goals as goal

pub place_all-requires-clause-within : goal.place_all-requires-clause-within
place_all-requires-clause-within c = rw c.deref.ensures.value (All-permutation (IsWithin c.args.steps.now) c.args.wants.items c.sort_unstable_by_key.new.self.items c.sort_unstable_by_key.ensures.permutation c.requires)

pub place_all-requires-clause-sorted : goal.place_all-requires-clause-sorted
place_all-requires-clause-sorted c = rw c.deref.ensures.value (IsNonDecreasingBy-from_sort_by_key (λ (want : Want). want.to) _ c.sort_unstable_by_key.ensures.sorted (λ a r q k. search rules))

pub returns-clause-kept : goal.returns-clause-kept
returns-clause-kept c =
    let places = c.in_ok-places.places.items in
    let sorted = c.sort_unstable_by_key.new.self.items in
    All-permutation (IsDistanceKept places) sorted c.args.wants.items (IsPermutation-sym c.args.wants.items sorted c.sort_unstable_by_key.ensures.permutation)
    (subst (λ (wants : List Want). All (IsDistanceKept places) wants) c.deref.ensures.value c.in_ok-places.ensures.kept)

pub returns-clause-tight : goal.returns-clause-tight
returns-clause-tight c =
    let places = c.in_ok-places.places.items in
    let sorted = c.sort_unstable_by_key.new.self.items in
    tight_moved c.args.steps.now places sorted c.args.wants.items (IsPermutation-sym c.args.wants.items sorted c.sort_unstable_by_key.ensures.permutation)
    (subst (λ (wants : List Want). AreTight c.args.steps.now wants places) c.deref.ensures.value c.in_ok-places.ensures.tight)

pub returns-clause-rising : goal.returns-clause-rising
returns-clause-rising c = places_rise c.args.steps.now c.in_ok-places.places.items c.in_ok-places.ensures.apart
