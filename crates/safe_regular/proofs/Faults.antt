-- A fault is reported exactly where some read is wrong.
use Rattle.std.proofs.Common.{◌≡◌, ◌↔◌, Option, Some, None, refl, ap}
use Rattle.std.specs.Prelude.{IsNone, option_map, is_some}
use Rattle.intervals.specs.declared.operation.Op.{Op}
use Rattle.intervals.specs.declared.operation.OpId.{OpId}

none_named : (o : Option Op) (r : Option OpId) → r ≡ option_map (λ op. op.id) o → IsNone r ↔ (o ≡ None)
none_named None r e = (λ _. refl, λ _. ap is_some e)
none_named (Some op) r e = (λ h. absurd (let f = ap is_some e in cc), λ h. absurd (cc))

pub none_exactly : (P : Type 0) (o : Option Op) (r : Option OpId) → r ≡ option_map (λ op. op.id) o → (o ≡ None) ↔ P → IsNone r ↔ P
none_exactly P o r e h = let n = none_named o r e in (λ none. h.0 (n.0 none), λ p. n.1 (h.1 p))
