-- What an accepted edit keeps of the operations.
use Rattle.std.proofs.Common.{◌≡◌, ◌≤◌, true, false, nat_lt, List, Option, Some, None, refl, sym, ◌∙◌, arith}
use Rattle.std.specs.Prelude.{All, Contains}
use Rattle.std.specs.Option.{option_map_or}
use Rattle.std.proofs.lemmas.Bool.{or_parts, ltb-false}
use Rattle.std.proofs.lemmas.List.Elements.{All-contains, All-weaker}
use Rattle.intervals.specs.declared.operation.Moment.{Moment}
use Rattle.intervals.specs.declared.operation.Value.{Value}
use Rattle.intervals.specs.declared.operation.Op.{Op}
use Rattle.intervals.specs.declared.operation.OpId.{OpId}
use Rattle.intervals.specs.declared.edit.Edit.{Edit}
use Rattle.intervals.specs.Terms.{ClaimModel, state_of}
use Rattle.intervals.specs.Operation.{IsWrite, same_id, value_of}
use Rattle.intervals.specs.Edit.{op_of, edited}
use Rattle.intervals.specs.Judging.{is_allowed}
use Rattle.intervals.specs.Refusal.{has_large_moment, is_in_domain, is_past_end, reply_to}
use Rattle.intervals.specs.Standing.{HasDistinctIds, IsPermitted}
use Rattle.intervals.proofs.Ids.{found_alike, found_by_id}
use Rattle.intervals.proofs.Standing.{edited_apart}
use Rattle.safe_regular.specs.Held.{IsWithinMoments, AreOneWriters}

-- an operation of the list is the one found by its id
pub one_at : (ops : List Op) → HasDistinctIds ops → (id : OpId) (x : Op) → Contains ops x → same_id x.id id ≡ true → op_of ops id ≡ Some x
one_at ops d id x h t = sym (found_alike ops x.id id t) ∙ found_by_id ops x d h

-- an operation with no moment past the greatest begins and ends at it or before
is_low : (op : Op) → has_large_moment op ≡ false → IsWithinMoments op
is_low op low =
    let parts = or_parts (nat_lt 4611686018427387903 op.begin.0) (is_past_end op.end) low in
    record { begin = ltb-false 4611686018427387903 op.begin.0 parts.0; end = end_low op.end parts.1 }
  where
    end_low : (end : Option Moment) → is_past_end end ≡ false → option_map_or (λ (m : Moment). m.0) end 0 ≤ 4611686018427387903
    end_low None f = omega arith
    end_low (Some end) f = ltb-false 4611686018427387903 end.0 f

pub all_low : (claim : ClaimModel) (ops : List Op) → AreOneWriters claim ops → All IsWithinMoments ops
all_low claim ops apart = All-weaker (λ op. has_large_moment op ≡ false) IsWithinMoments is_low ops apart.kept.low

in_domain : (domain : Option (List Value)) (initial value : Value) → is_in_domain domain value ≡ true → is_allowed domain initial value ≡ true
in_domain None initial value t = refl
in_domain (Some values) initial value t = rw t refl

-- a write of the list has a value of the value set
pub write_allowed : (claim : ClaimModel) (ops : List Op) → AreOneWriters claim ops → (w : Op) → Contains ops w → IsWrite w → is_allowed claim.domain claim.initial (value_of w.act) ≡ true
write_allowed claim ops apart w present write =
    in_domain claim.domain claim.initial (value_of w.act) (All-contains (λ v. IsWrite v → IsPermitted claim v) ops w apart.kept.allowed present write).value

pub apart_kept : (claim : ClaimModel) (ops : List Op) (edit : Edit) → AreOneWriters claim ops → reply_to (state_of claim ops) edit ≡ None → AreOneWriters claim (edited ops edit)
apart_kept claim ops edit apart accepted = record { one_writer = apart.one_writer; kept = edited_apart (state_of claim ops) edit apart.kept accepted }
