-- Where the summary shows that a look-up finds nothing.
use Rattle.std.proofs.Common.{◌≡◌, false, ◌&&◌, List, None, not, ap}
use Rattle.std.specs.Prelude.{find}
use Rattle.std.proofs.lemmas.List.Elements.{All-weaker}
use Rattle.intervals.specs.declared.operation.Value.{Value}
use Rattle.intervals.specs.Operation.{same_value}
use Rattle.summary_tree.proofs.Lists.{find_none}
use Rattle.zone_tree.specs.declared.stretch.Stretch.{Stretch}
use Rattle.zone_tree.specs.StretchLook.{is_read_early, has_no_write, is_writeless_but}
use Rattle.zone_tree.specs.StretchSummary.{summary_of_stretches}
use Rattle.zone_tree.proofs.StretchSummaries.{none_passes}

pub none_writeless : (stretches : List Stretch) → (summary_of_stretches stretches).writeless ≡ false → find has_no_write stretches ≡ None
none_writeless stretches e = find_none has_no_write stretches (none_passes has_no_write stretches e)

pub none_writeless_but : (value : Value) (stretches : List Stretch) → (summary_of_stretches stretches).writeless ≡ false → find (is_writeless_but value) stretches ≡ None
none_writeless_but value stretches e =
    find_none (is_writeless_but value) stretches
    (All-weaker (λ s. has_no_write s ≡ false) (λ s. is_writeless_but value s ≡ false) (λ s f. ap (λ w. w && not (same_value s.value value)) f) stretches (none_passes has_no_write stretches e))

pub none_early : (stretches : List Stretch) → (summary_of_stretches stretches).early ≡ false → find is_read_early stretches ≡ None
none_early stretches e = find_none is_read_early stretches (none_passes is_read_early stretches e)
