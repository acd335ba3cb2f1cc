-- The refusals of a write, by the holder of its value. For private clauses alone.
use Rattle.std.specs.Prelude.{not, [], ◌∷◌, Option, None, option_map, if◌then◌else◌}
use Rattle.intervals.specs.declared.operation.Op.{Op}
use Rattle.intervals.specs.declared.claim.Holder.{Holder}
use Rattle.intervals.specs.declared.refusal.Refusal.{Refusal}
use Rattle.intervals.specs.declared.refusal.Refusal.TheVariants.{NotAWriter, ValueTaken, OutOfDomain}
use Rattle.intervals.specs.Operation.{is_write, value_of}
use Rattle.intervals.specs.Refusal.{first_present, refused_if, may_write, is_in_domain}
use Rattle.intervals.specs.Terms.{ClaimModel}

-- the first of `NotAWriter`, `ValueTaken` and `OutOfDomain` that holds of a write whose value has that optional holder,
-- or none
abbrev pub refusal_beside : ClaimModel → Op → Option Holder → Option Refusal
refusal_beside claim op holder =
    if is_write op
    then first_present (
    refused_if (not (may_write claim.writers op.process)) NotAWriter
    ∷ option_map ValueTaken holder
    ∷ refused_if (not (is_in_domain claim.domain (value_of op.act))) OutOfDomain
    ∷ [])
    else None
