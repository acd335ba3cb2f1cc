-- A withdrawal of an operation without an end: the verdict before it from that after it.
use Rattle.std.proofs.Common.{◌≡◌, ◌≢◌, ◌⊎◌, inl, inr, Bool, true, false, not, ◌&&◌, List, Option, None, Decides, refl, sym, ◌∙◌, subst}
use Rattle.std.specs.Prelude.{All, Any, Contains, filter}
use Rattle.std.specs.List.{list_any}
use Rattle.std.proofs.lemmas.Bool.{cases_Bool}
use Rattle.std.proofs.lemmas.Bool.Decides.{Decides-and, not_from_Decides}
use Rattle.std.proofs.lemmas.List.Elements.{All-contains}
use Rattle.intervals.specs.declared.operation.Op.{Op}
use Rattle.intervals.specs.declared.operation.OpId.{OpId}
use Rattle.intervals.specs.declared.operation.Moment.{Moment}
use Rattle.intervals.specs.declared.operation.Value.{Value}
use Rattle.intervals.specs.Operation.{EndsBefore, IsWrite, IsJudgedRead, is_write, same_id, same_value, value_of, judged}
use Rattle.intervals.specs.Kind.{HasNoWrite}
use Rattle.intervals.proofs.Agreement.{Decides-IsTrue, Decides-list_any, Decides-same_value}
use Rattle.intervals.proofs.Ids.{Decides-same_id_is}
use Rattle.intervals.proofs.Members.{all_from}
use Rattle.watch.specs.Coming.{HasNoEnd}
use Rattle.watch.proofs.Members.{kept, kept_present}
use Rattle.watch.proofs.JudgedOps.{is_judged, judged_cases, judged_present, not_unfinished, unfinished_write, filters_commute}
use Rattle.watch.proofs.Orders.{IsOrdered, ordered_with, ordered_from_another}
use Rattle.watch.proofs.RightReads.{StayUnder}
use Rattle.watch.proofs.Unused.{unused, no_write_unused}

abbrev has_value : Value → Op → Bool
has_value value w = is_write w && same_value (value_of w.act) value

-- some write of the list has the value, or none has
write_or_none : (ops : List Op) (value : Value) → ((w : Op) × Contains ops w × IsWrite w × (value_of w.act ≡ value)) ⊎ HasNoWrite ops value
write_or_none ops value = by_cases (cases_Bool (list_any (has_value value) ops))
  where
    decides : (w : Op) → Decides (has_value value w) (IsWrite w × (value_of w.act ≡ value))
    decides w = Decides-and (is_write w) (same_value (value_of w.act) value) (Decides-IsTrue (is_write w)) (Decides-same_value (value_of w.act) value)

    any : Decides (list_any (has_value value) ops) (Any (λ w. IsWrite w × (value_of w.act ≡ value)) ops)
    any = Decides-list_any (has_value value) (λ w. IsWrite w × (value_of w.act ≡ value)) decides ops

    by_cases : (list_any (has_value value) ops ≡ true) ⊎ (list_any (has_value value) ops ≡ false) → ((w : Op) × Contains ops w × IsWrite w × (value_of w.act ≡ value)) ⊎ HasNoWrite ops value
    by_cases (inl t) = let h = any.0 t in inl (h.1, (h.0, h.2, h.3), h.4.0, h.4.1)
    by_cases (inr f) = inr (all_from (λ w. IsWrite w → value_of w.act ≢ value) ops
        (λ w h write same. not_from_Decides (list_any (has_value value) ops) any f (h.0, w, h.1, h.2, (write, same))))

module _ (ops : List Op) (id : OpId) (unfinished : HasNoEnd ops id) where
  abbrev keep : Op → Bool
  keep op = not (same_id op.id id)

  gone : (x : Op) → keep x ≡ false → x.id ≡ id
  gone x out = (Decides-same_id_is x.id id).0 (by_bool (same_id x.id id) out)
    where
      by_bool : (s : Bool) → not s ≡ false → s ≡ true
      by_bool true e = refl
      by_bool false e = absurd (cc)

  no_end : (x : Op) → Contains ops x → keep x ≡ false → x.end ≡ None
  no_end x h out = All-contains (λ op. op.id ≡ id → op.end ≡ None) ops x unfinished h (gone x out)

  stays : (x : Op) → Contains ops x → ¬ (x.end ≡ None) → Contains (filter keep ops) x
  stays x h ended = by_cases (cases_Bool (keep x))
    where
      by_cases : (keep x ≡ true) ⊎ (keep x ≡ false) → Contains (filter keep ops) x
      by_cases (inl t) = kept keep ops x h t
      by_cases (inr f) = absurd (ended (no_end x h f))

  pub stay_under_withdraw : StayUnder ops (filter (λ op. not (same_id op.id id)) ops)
  stay_under_withdraw r h read = record {
    stays = stays r h (not_unfinished r read);
    came = λ v write before k. stays v k (λ none. subst (λ (end : Option Moment). EndsBefore end r.begin) none before);
    stood = λ v write before k. (kept_present keep ops v k).0;
    over = λ v write o k. (v, (kept_present keep ops v k).0, write, o, refl);
  }

  pub ordered_withdraw : (initial : Value) → IsOrdered initial (judged (filter (λ op. not (same_id op.id id)) ops)) → IsOrdered initial (judged ops)
  ordered_withdraw initial h =
      ordered_with keep initial (judged ops)
      (all_from (λ a. keep a ≡ false → IsWrite a × (a.end ≡ None)) (judged ops)
      (λ a k out. let (at, t) = judged_present ops a k in let none = no_end a at out in (unfinished_write a t none, none)))
      (subst (IsOrdered initial) (filters_commute is_judged keep ops) h)

  -- where no finished read returned the value of a write that is taken out, another initial value does
  pub unknown_withdraw : All (λ w. w.id ≡ id → IsWrite w → All (λ r. IsJudgedRead r → value_of r.act ≢ value_of w.act) ops) ops
      → (value : Value) → HasNoWrite (filter (λ op. not (same_id op.id id)) ops) value → IsOrdered value (judged (filter (λ op. not (same_id op.id id)) ops))
      → (initial : Value) × HasNoWrite ops initial × IsOrdered initial (judged ops)
  unknown_withdraw unread value none h = by_cases (write_or_none ops value)
    where
      is_gone : (w : Op) → Contains ops w → IsWrite w → value_of w.act ≡ value → w.id ≡ id
      is_gone w at write same = by_keep (cases_Bool (keep w))
        where
          by_keep : (keep w ≡ true) ⊎ (keep w ≡ false) → w.id ≡ id
          by_keep (inl t) = absurd (All-contains (λ w. IsWrite w → value_of w.act ≢ value) (filter keep ops) w none (kept keep ops w at t) write same)
          by_keep (inr f) = gone w f

      not_returned : (w : Op) → Contains ops w → IsWrite w → value_of w.act ≡ value → (a : Op) → Contains ops a → IsWrite a ⊎ IsJudgedRead a → IsWrite a ⊎ (value_of a.act ≢ value)
      not_returned w at write same a k (inl t) = inl t
      not_returned w at write same a k (inr read) =
          inr (λ e. All-contains (λ r. IsJudgedRead r → value_of r.act ≢ value_of w.act) ops a
          (All-contains (λ w. w.id ≡ id → IsWrite w → All (λ r. IsJudgedRead r → value_of r.act ≢ value_of w.act) ops) ops w unread at (is_gone w at write same) write)
          k read (e ∙ sym same))

      by_cases : ((w : Op) × Contains ops w × IsWrite w × (value_of w.act ≡ value)) ⊎ HasNoWrite ops value → (initial : Value) × HasNoWrite ops initial × IsOrdered initial (judged ops)
      by_cases (inr free) = (value, free, ordered_withdraw value h)
      by_cases (inl (w, at, write, same)) = (
        unused ops,
        no_write_unused ops,
        ordered_from_another value (unused ops) (judged ops)
            (all_from (λ a. IsWrite a ⊎ (value_of a.act ≢ value)) (judged ops)
            (λ a k. let (present, t) = judged_present ops a k in not_returned w at write same a present (judged_cases a t)))
            (ordered_withdraw value h),
      )
