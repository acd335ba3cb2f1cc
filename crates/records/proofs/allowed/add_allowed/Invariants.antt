-- the tokens so far and those of the values that are left are those of all
use Rattle.std.proofs.Common.{◌≡◌, ◌++◌, drop}
use Rattle.std.specs.List.{flat_map}
use Rattle.records.specs.Allowed.{allowed_symbols}
use Rattle.records.specs.Symbol.{symbols_of}
use Rattle.records.proofs.allowed.add_allowed.Given as goal

abbrev pub invariant-loop-one : goal.invariant-loop-one
invariant-loop-one l = symbols_of l.tokens.items ++ flat_map (allowed_symbols l.places) (drop l.one-index l.allowed) ≡ symbols_of l.fn.tokens.items ++ flat_map (allowed_symbols l.fn.places) l.fn.allowed
