-- the symbols so far and those of the elements that are left are those of all
use Rattle.std.proofs.Common.{◌≡◌, ◌++◌, ℕ, drop, map}
use Rattle.records.specs.Symbol.{place, symbols_of}
use Rattle.records.proofs.register.add_elements.Given as goal

abbrev pub invariant-loop-at : goal.invariant-loop-at
invariant-loop-at l = symbols_of l.tokens.items ++ map (λ (at : ℕ × ℕ). place at.0 at.1) (drop l.at-index l.elements) ≡ symbols_of l.fn.tokens.items ++ map (λ (at : ℕ × ℕ). place at.0 at.1) l.fn.elements
