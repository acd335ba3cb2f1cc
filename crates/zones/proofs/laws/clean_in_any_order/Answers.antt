use Rattle.std.proofs.lemmas.List.Sorted.{IsPermutation-sym}
use Rattle.zones.proofs.AnyOrder.{clean_moved}
use Rattle.zones.proofs.laws.clean_in_any_order.Goals as goal

pub returns : goal.returns
returns c = λ zones others moved. (clean_moved zones others moved, clean_moved others zones (IsPermutation-sym zones others moved))
