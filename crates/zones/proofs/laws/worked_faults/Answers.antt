use Rattle.std.proofs.Common.{◌≢◌, [], ◌∷◌, Some, None, refl, arith, rules}
use Rattle.std.proofs.lemmas.List.Sorted.{IsPermutation-refl}
use Rattle.intervals.specs.declared.operation.Op.{Op}
use Rattle.intervals.specs.declared.operation.Value.TheVariants.{Nil}
use Rattle.intervals.specs.declared.claim.Kind.TheVariants.{Atomic}
use Rattle.intervals.specs.Operation.{IsWrite, value_of}
use Rattle.intervals.specs.Histories.{number, plain_claim, new_before_old}
use Rattle.zone_tree.specs.declared.edge.Edge.TheVariants.{Before}
use Rattle.zone_tree.specs.declared.zone.Zone.{Zone}
use Rattle.zone_tree.specs.Edge.{ComesBefore}
use Rattle.zone_tree.specs.Zone.{IsForward, Conflicts}
use Rattle.zones.specs.Cluster.{zones_of}
use Rattle.zones.specs.Crossing.{HasFirstConflict}
use Rattle.zones.specs.Examples.{at, forward, backward, unwritten_read, read_of_nothing, early_read, late_write, read_before_write, first_write, second_read, first_read, nil_read, back_to_nil}
use Rattle.zones.proofs.Members.{pairs_from_each}
use Rattle.zones.proofs.Excluded.{unwritten_excludes, early_excludes, crossing_excludes}
use Rattle.zones.proofs.laws.worked_faults.Goals as goal

abbrev Left : Zone → Zone → Type 0
Left a b = ComesBefore a.left b.left

abbrev Clear : Zone → Zone → Type 0
Clear a b = IsForward a → ¬ Conflicts a b

abbrev AreApart : Op → Op → Type 0
AreApart v w = IsWrite v → IsWrite w → value_of v.act ≢ value_of w.act

pub returns-clause-no_order_with_unwritten : goal.returns-clause-no_order_with_unwritten
returns-clause-no_order_with_unwritten c = unwritten_excludes (plain_claim Atomic Nil None) read_of_nothing unwritten_read (1, omega arith, refl) (search rules)

pub returns-clause-no_order_with_early : goal.returns-clause-no_order_with_early
returns-clause-no_order_with_early c =
    early_excludes (plain_claim Atomic Nil None) read_before_write early_read late_write
    (record { apart = pairs_from_each AreApart read_before_write (search rules); new = search rules })
    (0, omega arith, refl) (1, omega arith, refl) (search rules)

pub returns-clause-no_order_with_crossing : goal.returns-clause-no_order_with_crossing
returns-clause-no_order_with_crossing c =
    crossing_excludes (plain_claim Atomic Nil None) new_before_old (Some first_write) second_read (Some second_read) first_read
    (record { apart = pairs_from_each AreApart new_before_old (search rules); new = search rules })
    (search rules)

pub returns-clause-no_order_back_to_initial : goal.returns-clause-no_order_back_to_initial
returns-clause-no_order_back_to_initial c =
    crossing_excludes (plain_claim Atomic Nil None) back_to_nil None first_write (Some first_write) nil_read
    (record { apart = pairs_from_each AreApart back_to_nil (search rules); new = search rules })
    (search rules)

first_conflict : HasFirstConflict Nil new_before_old (forward (at 1) (at 6) (number 1)) (backward (at 4) (at 5) (number 2))
first_conflict = record {
  zones = zones_of Nil new_before_old;
  each_once = IsPermutation-refl (zones_of Nil new_before_old);
  by_left = pairs_from_each Left (zones_of Nil new_before_old) (search rules);
  conflict = record {
    earlier = backward Before Before Nil ∷ forward (at 1) (at 6) (number 1) ∷ [];
    later = [];
    parts = refl;
    clear = pairs_from_each Clear (backward Before Before Nil ∷ forward (at 1) (at 6) (number 1) ∷ []) (search rules);
    farthest = record { present = (1, omega arith, refl); forward = refl; farthest = search rules };
    conflict = search rules;
  };
}

pub returns-clause-first_conflict : goal.returns-clause-first_conflict
returns-clause-first_conflict c = first_conflict

pub returns-clause-first_crossing : goal.returns-clause-first_crossing
returns-clause-first_crossing c = record { first = forward (at 1) (at 6) (number 1); second = backward (at 4) (at 5) (number 2); conflict = first_conflict; extremes = search rules }
