use Rattle.std.proofs.Common.{◌≤◌, List, [], ◌∷◌, length, Option, Some, None, ap, arith}
use Rattle.intervals.specs.declared.operation.Op.{Op}
use Rattle.intervals.specs.Table.{ops_in_slots}
use Rattle.safe_regular.proofs.reads.places_for.Goals as goal

no_more : (slots : List (Option Op)) → length (ops_in_slots slots) ≤ length slots
no_more [] = omega arith
no_more (None ∷ slots) = let le = no_more slots in omega (arith, le)
no_more (Some op ∷ slots) = let le = no_more slots in omega (arith, le)

pub returns : goal.returns
returns c = let le = no_more c.slots.result.now in let same = ap length c.slots.ensures in omega (arith, le, same)
