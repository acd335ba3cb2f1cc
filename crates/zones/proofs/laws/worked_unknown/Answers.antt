use Rattle.std.proofs.Common.{◌≢◌, [], ◌∷◌, ◌++◌, Some, None, refl, rules}
use Rattle.intervals.specs.declared.operation.Op.{Op}
use Rattle.intervals.specs.Operation.{IsWrite, value_of}
use Rattle.zones.specs.Examples.{unknown, seven_and_one, read_of_seven, read_of_eight, late_seven, one_read, one_written}
use Rattle.zones.proofs.Members.{pairs_from_each}
use Rattle.zones.proofs.Start.{split_excludes_all, split_is, crossing_excludes_all}
use Rattle.zones.proofs.laws.worked_unknown.Goals as goal

abbrev AreApart : Op → Op → Type 0
AreApart v w = IsWrite v → IsWrite w → value_of v.act ≢ value_of w.act

pub returns-clause-is_split : goal.returns-clause-is_split
returns-clause-is_split c = split_is unknown (seven_and_one ++ read_of_eight ∷ []) read_of_seven read_of_eight refl

pub returns-clause-no_order_with_split : goal.returns-clause-no_order_with_split
returns-clause-no_order_with_split c =
    split_excludes_all unknown (seven_and_one ++ read_of_eight ∷ []) refl read_of_seven read_of_eight (split_is unknown (seven_and_one ++ read_of_eight ∷ []) read_of_seven read_of_eight refl)

pub returns-clause-no_order_with_crossing : goal.returns-clause-no_order_with_crossing
returns-clause-no_order_with_crossing c =
    crossing_excludes_all unknown (seven_and_one ++ late_seven ∷ [])
    (record { apart = pairs_from_each AreApart (seven_and_one ++ late_seven ∷ []) (search rules); new = search rules })
    None one_read (Some one_written) late_seven (search rules)
