-- the tokens so far and the ids that are left are those of all
use Rattle.std.proofs.Common.{◌≡◌, ◌++◌, drop, map}
use Rattle.intervals.specs.declared.operation.OpId.{OpId}
use Rattle.records.specs.Symbol.{place, symbols_of}
use Rattle.records.proofs.ends.add_ids.Given as goal

abbrev pub invariant-loop-id : goal.invariant-loop-id
invariant-loop-id l = symbols_of l.tokens.items ++ map (λ (id : OpId). place id.feeder id.event) (drop l.id-index l.ids) ≡ symbols_of l.fn.tokens.items ++ map (λ (id : OpId). place id.feeder id.event) l.fn.ids
