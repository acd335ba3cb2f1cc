-- The tests for the first reads of values without a write compute what the relations mean.
use Rattle.std.proofs.Common.{◌≡◌, ◌≢◌, ◌↔◌, not, ◌&&◌, List, Some, None, Decides}
use Rattle.std.specs.Prelude.{All}
use Rattle.std.specs.List.{list_any}
use Rattle.std.proofs.lemmas.Bool.Decides.{Decides-and, Decides-not, Decides-like}
use Rattle.std.proofs.lemmas.List.Elements.{All-weaker}
use Rattle.intervals.specs.declared.operation.Op.{Op}
use Rattle.intervals.specs.declared.operation.Value.{Value}
use Rattle.intervals.specs.Operation.{IsWrite, is_judged_read, same_value, value_of}
use Rattle.intervals.specs.Refusal.{is_initial}
use Rattle.intervals.specs.Standing.{HasDistinctMoments}
use Rattle.intervals.specs.Terms.{ClaimModel}
use Rattle.intervals.proofs.Agreement.{Decides-list_any}
use Rattle.intervals.proofs.Holders.{Decides-is_initial}
use Rattle.zones.specs.AtFirst.{IsWriteless, is_writeless, first_writeless, first_writeless_but}
use Rattle.zones.specs.Fault.{IsFirstOf, is_write_of}
use Rattle.zones.proofs.FirstReads.{Decides-itself, Decides-write_of, IsWriteFor, first_least, least_first, least_none, none_least, none_of, not_some}
use Rattle.zones.proofs.Members.{Decides-same_value}

module _ (claim : ClaimModel) (ops : List Op) where
  pub Decides-writeless : (r : Op) → Decides (is_writeless claim ops r) (IsWriteless claim ops r)
  Decides-writeless r =
      Decides-like (is_writeless claim ops r)
      (λ h. record {
        read = h.0;
        not_initial = h.1.0;
        not_written = All-weaker (λ w. ¬ IsWriteFor r w) (λ w. IsWrite w → ¬ (value_of w.act ≡ value_of r.act)) (λ w n t e. n (t, e)) ops (none_of (IsWriteFor r) ops h.1.1);
      })
      (λ u. (
        u.read,
        (
          u.not_initial,
          not_some (IsWriteFor r) ops (All-weaker (λ w. IsWrite w → ¬ (value_of w.act ≡ value_of r.act)) (λ w. ¬ IsWriteFor r w) (λ w n h. n h.0 h.1) ops u.not_written),
        ),
      ))
      (Decides-and (is_judged_read r) _ (Decides-itself (is_judged_read r))
      (Decides-and _ _ (Decides-not (is_initial claim (value_of r.act)) (Decides-is_initial claim (value_of r.act)))
      (Decides-not (list_any (is_write_of r) ops) (Decides-list_any (is_write_of r) (IsWriteFor r) (Decides-write_of r) ops))))

  pub writeless_first : (r : Op) → first_writeless claim ops ≡ Some r → IsFirstOf (IsWriteless claim ops) ops r
  writeless_first = least_first (is_writeless claim ops) (IsWriteless claim ops) Decides-writeless (λ r u. u.read) ops

  pub first_is_writeless : HasDistinctMoments ops → (r : Op) → IsFirstOf (IsWriteless claim ops) ops r → first_writeless claim ops ≡ Some r
  first_is_writeless = first_least (is_writeless claim ops) (IsWriteless claim ops) Decides-writeless (λ r u. u.read) ops

  pub writeless_none : (first_writeless claim ops ≡ None) ↔ All (λ r. ¬ IsWriteless claim ops r) ops
  writeless_none = (
    least_none (is_writeless claim ops) (IsWriteless claim ops) Decides-writeless (λ r u. u.read) ops,
    none_least (is_writeless claim ops) (IsWriteless claim ops) Decides-writeless (λ r u. u.read) ops,
  )

  -- the first writeless read of another value
  module _ (value : Value) where
    abbrev pub IsOfAnother : Op → Type 0
    IsOfAnother r = IsWriteless claim ops r × (value_of r.act ≢ value)

    Decides-other : (r : Op) → Decides (is_writeless claim ops r && not (same_value (value_of r.act) value)) (IsOfAnother r)
    Decides-other r =
        Decides-and (is_writeless claim ops r) (not (same_value (value_of r.act) value)) (Decides-writeless r)
        (Decides-not (same_value (value_of r.act) value) (Decides-same_value (value_of r.act) value))

    pub other_first : (r : Op) → first_writeless_but value claim ops ≡ Some r → IsFirstOf IsOfAnother ops r
    other_first = least_first (λ r. is_writeless claim ops r && not (same_value (value_of r.act) value)) IsOfAnother Decides-other (λ r u. u.0.read) ops

    pub first_is_other : HasDistinctMoments ops → (r : Op) → IsFirstOf IsOfAnother ops r → first_writeless_but value claim ops ≡ Some r
    first_is_other = first_least (λ r. is_writeless claim ops r && not (same_value (value_of r.act) value)) IsOfAnother Decides-other (λ r u. u.0.read) ops

    pub other_none : (first_writeless_but value claim ops ≡ None) ↔ All (λ r. ¬ IsOfAnother r) ops
    other_none = (
      least_none (λ r. is_writeless claim ops r && not (same_value (value_of r.act) value)) IsOfAnother Decides-other (λ r u. u.0.read) ops,
      none_least (λ r. is_writeless claim ops r && not (same_value (value_of r.act) value)) IsOfAnother Decides-other (λ r u. u.0.read) ops,
    )
