-- Whether zones are clean does not depend on their order.
use Rattle.std.proofs.Common.{◌≡◌, Bool, ◌&&◌, List, Decides}
use Rattle.std.specs.Prelude.{IsPermutation, slice_index_or}
use Rattle.std.specs.List.{IsDistinct}
use Rattle.std.proofs.lemmas.Bool.{false_from_ne_true}
use Rattle.std.proofs.lemmas.Bool.Decides.{Decides-and, Decides-like, not_from_Decides, same_from_decides}
use Rattle.std.proofs.lemmas.Map.Keys.{IsDistinct-from_apart, IsDistinct-IsPermutation, apart_from_distinct}
use Rattle.zone_tree.specs.declared.zone.Zone.{Zone}
use Rattle.zone_tree.specs.Edge.{edge_before}
use Rattle.zone_tree.specs.Zone.{Conflicts, least_end, greatest_begin}
use Rattle.zone_tree.specs.Conflict.{IsClean}

-- the test whether two zones conflict
abbrev conflict : Zone → Zone → Bool
conflict a b = edge_before (least_end a) (greatest_begin b) && edge_before (least_end b) (greatest_begin a)

Decides-conflict : (a b : Zone) → Decides (conflict a b) (Conflicts a b)
Decides-conflict a b = Decides-and (edge_before (least_end a) (greatest_begin b)) (edge_before (least_end b) (greatest_begin a)) (λ e. e, λ e. e) (λ e. e, λ e. e)

conflict-flips : (a b : Zone) → conflict a b ≡ conflict b a
conflict-flips a b =
    same_from_decides (conflict a b) (conflict b a) (Decides-conflict a b)
    (Decides-like (conflict b a) (λ (c : Conflicts b a). (c.1, c.0)) (λ (c : Conflicts a b). (c.1, c.0)) (Decides-conflict b a))

clean_distinct : (zones : List Zone) → IsClean zones → IsDistinct conflict zones
clean_distinct zones clean = IsDistinct-from_apart conflict zones (λ i j d lt within.
    let a = slice_index_or zones i d in
    let b = slice_index_or zones j d in
    false_from_ne_true (conflict a b) (λ t. clean i j d lt within ((Decides-conflict a b).0 t)))

distinct_clean : (zones : List Zone) → IsDistinct conflict zones → IsClean zones
distinct_clean zones distinct i j d lt within =
    let a = slice_index_or zones i d in
    let b = slice_index_or zones j d in
    not_from_Decides (conflict a b) (Decides-conflict a b) (apart_from_distinct conflict zones i j d distinct lt within)

pub clean_moved : (zones others : List Zone) → IsPermutation zones others → IsClean zones → IsClean others
clean_moved zones others moved clean = distinct_clean others (IsDistinct-IsPermutation conflict conflict-flips zones others moved (clean_distinct zones clean))
