use Rattle.std.proofs.Common.{ℤ, List, ap}
use Rattle.std.specs.Map.{lookup}
use Rattle.std.specs.Ordering.{int_eq}
use Rattle.zones.specs.declared.edges.Edges.{Edges}
use Rattle.zones.specs.declared.records.Records.{Records}
use Rattle.zones.proofs.Recorded.{records_at_first}
use Rattle.zones.proofs.records.Records.new.Goals as goal

pub returns : goal.returns
returns c =
    let records : Records = record { of_nil = c.of_nothing.result; of_numbers = c.new.result } in
    records_at_first records c.of_nothing.ensures (λ number. ap (λ (es : List (ℤ × Edges)). lookup (int_eq number) es) c.new.ensures.empty)
