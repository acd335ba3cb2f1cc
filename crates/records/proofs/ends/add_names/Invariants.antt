-- the tokens so far and the names that are left are those of all
use Rattle.std.proofs.Common.{◌≡◌, ◌++◌, List, ℕ, drop, map}
use Rattle.std.specs.Borrow.{Bor}
use Rattle.records.specs.Symbol.{symbols_of, text}
use Rattle.records.proofs.ends.add_names.Given as goal

abbrev pub invariant-loop-name : goal.invariant-loop-name
invariant-loop-name l = symbols_of l.tokens.items ++ map text (map (λ (name : Bor (List ℕ)). name.now) (drop l.name-index l.names)) ≡ symbols_of l.fn.tokens.items ++ map text (map (λ (name : Bor (List ℕ)). name.now) l.fn.names)
