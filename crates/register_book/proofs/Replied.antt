-- The state of a register after an edit, by the reply; and what is true of a result that is an error.
use Rattle.std.proofs.Common.{◌≡◌, Option, Some, None, Result, Ok, Err, OnOk, OnErr, sym, ap, cond}
use Rattle.std.specs.Prelude.{is_some}
use Rattle.std.specs.Result.{IsErr}
use Rattle.intervals.specs.declared.edit.Edit.{Edit}
use Rattle.intervals.specs.declared.refusal.Refusal.{Refusal}
use Rattle.intervals.specs.Terms.{RegisterState}
use Rattle.intervals.specs.Refusal.{after_edit, carried_out, reply_to}

module _ (held : RegisterState) (edit : Edit) where
  abbrev by_reply : Option Refusal → RegisterState
  by_reply reply = cond (is_some reply) held (carried_out held edit)

  pub left_alone : (refusal : Refusal) → reply_to held edit ≡ Some refusal → held ≡ after_edit held edit
  left_alone refusal refused = sym (ap by_reply refused)

  pub carried : reply_to held edit ≡ None → carried_out held edit ≡ after_edit held edit
  carried accepted = sym (ap by_reply accepted)

pub never_ok : {T E : Type 0} (result : Result T E) (P : Type 0) → IsErr result → OnOk result P
never_ok (Ok done) P is = absurd (cc)
never_ok (Err error) P is = tt

pub on_any_err : {T E : Type 0} (result : Result T E) (P : Type 0) → P → OnErr result P
on_any_err (Ok done) P p = tt
on_any_err (Err error) P p = p
